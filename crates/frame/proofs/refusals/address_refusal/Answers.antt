-- `frame::refusals::address_refusal` meets its contract: each branch is a case of the definition; a channel up to the count has its block.
-- Assumes nothing.
use mathlib.Core.Path.{sym}
use native.Mathlib.Omega.{arith}
use Rattle.std.proofs.lemmas.Result.{err_from_is_err_and}
use Rattle.word.proofs.Branches.{branches}
use Rattle.block.proofs.Refusals.{passed_on}
use Rattle.frame.specs.Refusals.{channel_of}
use Rattle.frame.proofs.Refused.{standing}
use Rattle.frame.proofs.Blocks.{part_is, channel_room}
use Rattle.frame.proofs.refusals.address_refusal.Goals as goal

pub returns-in_err-part_refusal : goal.returns-in_err-part_refusal
unfolding channel_of
returns-in_err-part_refusal c =
    let p = err_from_is_err_and c.from_residual.result c.from_residual.ensures.1 in
    rw (p.1, p.2) (passed_on _ _ _ c.in_err-part_refusal.ensures)

pub returns-then-channel-lt1 : goal.returns-then-channel-lt1
unfolding channel_of
returns-then-channel-lt1 c = search (branches, ← c.in_ok-part_refusal.ensures)

pub bounds-mem-0 : goal.bounds-mem-0
bounds-mem-0 c = let s = standing _ (sym c.in_ok-part_refusal.ensures) in omega arith

pub returns-then-mem-channel : goal.returns-then-mem-channel
unfolding channel_of
returns-then-mem-channel c = search (branches, ← c.in_ok-part_refusal.ensures)

pub slice_bounds-is_sound-end : goal.slice_bounds-is_sound-end
slice_bounds-is_sound-end c = channel_room _ _ _ (standing _ (sym c.in_ok-part_refusal.ensures)).frame c.if-channel-lt1.false c.if-mem-channel.false

pub returns-then-is_sound : goal.returns-then-is_sound
unfolding channel_of
returns-then-is_sound c = let e = rw part_is at c.is_sound.ensures in search (branches, ← c.in_ok-part_refusal.ensures, ← e, c.if-is_sound.true)

pub returns : goal.returns
unfolding channel_of
returns c = let e = rw part_is at c.is_sound.ensures in search (branches, ← c.in_ok-part_refusal.ensures, ← e, c.if-is_sound.false)
