-- `frame::channels::wide_refusal` meets its contract: each branch is a case of the definition.
-- Assumes nothing.
use mathlib.Core.Path.{sym}
use Rattle.std.proofs.lemmas.Result.{err_from_is_err_and}
use Rattle.word.proofs.Branches.{branches}
use Rattle.block.proofs.Refusals.{passed_on}
use Rattle.frame.specs.Refusals.{wide_refusal}
use Rattle.frame.proofs.Refused.{standing}
use Rattle.frame.proofs.channels.wide_refusal.Goals as goal

pub returns-in_err-part_refusal : goal.returns-in_err-part_refusal
unfolding wide_refusal
returns-in_err-part_refusal c =
    let p = err_from_is_err_and c.from_residual.result c.from_residual.ensures.1 in
    rw (p.1, p.2) (passed_on _ _ _ c.in_err-part_refusal.ensures)

pub are_sound-requires : goal.are_sound-requires
are_sound-requires c = (standing _ (sym c.in_ok-part_refusal.ensures)).frame

pub returns-then-are_sound : goal.returns-then-are_sound
unfolding wide_refusal
returns-then-are_sound c = search (branches, ← c.in_ok-part_refusal.ensures, ← c.are_sound.ensures, c.if-are_sound.true)

pub returns : goal.returns
unfolding wide_refusal
returns c = search (branches, ← c.in_ok-part_refusal.ensures, ← c.are_sound.ensures, c.if-are_sound.false)
