-- `frame::refusals::frame_refusal` meets its contract: each branch is a case of the definition.
-- Assumes nothing.
use Rattle.word.proofs.Branches.{branches}
use Rattle.frame.specs.Refusals.{frame_of}
use Rattle.frame.proofs.refusals.frame_refusal.Goals as goal

pub returns-then-mem-lt-MODULE_WORDS : goal.returns-then-mem-lt-MODULE_WORDS
unfolding frame_of
returns-then-mem-lt-MODULE_WORDS c = search branches

pub returns-then-count-lt1 : goal.returns-then-count-lt1
unfolding frame_of
returns-then-count-lt1 c = search branches

pub returns-then-count-gt-MOST : goal.returns-then-count-gt-MOST
unfolding frame_of
returns-then-count-gt-MOST c = search branches

pub returns-then-mem-count : goal.returns-then-mem-count
unfolding frame_of
returns-then-mem-count c = search branches

pub returns : goal.returns
unfolding frame_of
returns c = search branches
