-- `registers::masked::try_each` meets its contract: the channels passed are tried, and those that refused are in the mask.
-- Assumes nothing.
use Prim.Native.Nat.{◌+◌, ◌<◌}
use mathlib.Core.Path.{refl, ◌∙◌}
use native.Mathlib.Nat.{lt_trans}
use native.Mathlib.Omega.{arith}
use lib.Pow.{pow-lt}
use Rattle.registers.specs.Masked.{tried_to, refused_to}
use Rattle.registers.proofs.Masks.{refused_fits, next}
use Rattle.registers.proofs.masked.try_each.Goals as goal

pub loop-channel-init : goal.loop-channel-init
unfolding tried_to refused_to
loop-channel-init c = (refl, refl, refl)

-- the mask with the next channel's bit, and the memory behind it
pub overflow_add-refused : goal.overflow_add-refused
overflow_add-refused c = let start = c.args in
    let step = next start.control start.mask _ _ _ _ _ _ c.loop-channel.invariant.1 c.loop-channel.invariant.2 c.try_on-refused.ensures.answer c.try_on-refused.ensures.after in
    let few : c.loop-channel.channel + 1 < 32 = omega arith in
    record { fits = rw step.0 (lt_trans (refused_fits start.control start.mask (c.loop-channel.channel + 1) start.mem.now) (pow-lt {j = 32} few)) }

pub loop-channel-preserved : goal.loop-channel-preserved
loop-channel-preserved c = let start = c.args in
    let step = next start.control start.mask _ _ _ _ _ _ c.loop-channel.invariant.1 c.loop-channel.invariant.2 c.try_on-refused.ensures.answer c.try_on-refused.ensures.after in
    (c.try_on-refused.auto.mem ∙ c.loop-channel.invariant.0, step.0, step.1)
