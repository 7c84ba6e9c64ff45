-- `channel_calls::refusals::below` meets its contract: each branch is a case of the definition.
-- Assumes nothing.
use Rattle.word.proofs.Branches.{branches}
use Rattle.channel_calls.specs.Refusals.{below}
use Rattle.channel_calls.proofs.refusals.below.Goals as goal

pub returns-then-x-limit : goal.returns-then-x-limit
unfolding below
returns-then-x-limit c = search branches

pub returns : goal.returns
unfolding below
returns c = search branches
