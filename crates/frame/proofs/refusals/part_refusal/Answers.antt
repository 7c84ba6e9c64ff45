-- `frame::refusals::part_refusal` meets its contract: each branch is a case of the definition.
-- Assumes nothing.
use mathlib.Core.Path.{sym}
use native.Mathlib.Omega.{arith}
use Rattle.std.proofs.lemmas.Result.{err_from_is_err_and}
use Rattle.word.proofs.Branches.{branches}
use Rattle.block.proofs.Refusals.{passed_on, is_other}
use Rattle.frame.specs.Refusals.{part_refusal}
use Rattle.frame.proofs.Refused.{framed}
use Rattle.frame.proofs.refusals.part_refusal.Goals as goal

pub returns-in_err-frame_refusal : goal.returns-in_err-frame_refusal
unfolding part_refusal
returns-in_err-frame_refusal c =
    let p = err_from_is_err_and c.from_residual.result c.from_residual.ensures.1 in
    rw (p.1, p.2) (passed_on _ _ _ c.in_err-frame_refusal.ensures)

pub is_part_sound-requires : goal.is_part_sound-requires
is_part_sound-requires c = let f = framed _ _ (sym c.in_ok-frame_refusal.ensures) in omega arith

pub returns-then-is_part_sound : goal.returns-then-is_part_sound
unfolding part_refusal
returns-then-is_part_sound c = search (branches, ← c.in_ok-frame_refusal.ensures, ← c.is_part_sound.ensures, c.if-is_part_sound.true)

pub returns : goal.returns
unfolding part_refusal
returns c = search (branches, ← c.in_ok-frame_refusal.ensures, ← c.is_part_sound.ensures, c.if-is_part_sound.false)
