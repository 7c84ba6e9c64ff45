-- The factory's module part is in its ranges.
-- Assumes nothing.
use Prim.Native.Nat.{ℕ, zero, suc, ◌-◌, ◌≤◌, ◌<◌}
use native.Mathlib.Omega.{arith}
use lib.ListN.{get_or}
use Rattle.word.proofs.Computed.{passes}
use Rattle.block.specs.Ranges.{within}
use Rattle.block.proofs.Sound.{is_within}
use Rattle.frame.specs.Layout.{count, module_words, most}
use Rattle.frame.specs.Refusals.{part_leasts, part_greatests}
use Rattle.power.specs.Power.{factory_part}
use Rattle.module_laws.proofs.Stores.{in_part}

-- each word of the factory's module part is in its range
pub factory_in : (k i : ℕ) → 1 ≤ k → k ≤ most → i < module_words → in_part i (get_or (factory_part k) i 0)
unfolding part_leasts part_greatests
factory_in k zero l h q = is_within part_leasts part_greatests count k l h
factory_in k (suc i) l h q =
    passes (λ j. within part_leasts part_greatests (suc j) (get_or (factory_part k) (suc j) 0)) (module_words - 1) tt i (omega arith)
