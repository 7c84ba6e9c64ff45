-- The rule and a latch clear leave a usable block usable.
-- Assumes nothing.
use mathlib.Core.Bool.{Bool, true, false, cond}
use mathlib.Core.List.{List}
use Prim.Native.Nat.{ℕ, ◌≤◌, zero-le}
use native.Mathlib.Omega.{arith}
use lib.Dec.{eqb}
use Rattle.block.specs.Layout.{latch}
use Rattle.block.specs.Ranges.{leasts, greatests, Usable}
use Rattle.block.proofs.Sound.{in_range_lem}
use Rattle.settings.proofs.Keeps.{usable_store}
use Rattle.status.specs.Status.{bit, seven, latch_bit, latched, ruled, chosen_bit, chosen, latch_cleared}

-- ---- masks

-- a mask made of seven bits, each 0 or its weight, is at most 127
seven_le : (f : ℕ → ℕ) → ((p : ℕ) → f p ≤ p) → seven f ≤ 127
seven_le f h = omega (arith, h 1, h 2, h 4, h 8, h 16, h 32, h 64)

pub latched_le : (old level before holds : ℕ) → latched old level before holds ≤ 127
unfolding latched latch_bit
latched_le old level before holds = seven_le (λ p. latch_bit p old level before holds) (λ p. go p (eqb (bit p old) 1) (eqb (bit p holds) 0) (eqb (bit p level) 1) (eqb (bit p before) 1))
  where
    go : (p : ℕ) (s t u v : Bool) → cond s p (cond t 0 (cond u p (cond v 0 p))) ≤ p
    go p true t u v = omega arith
    go p false true u v = omega arith
    go p false false true v = omega arith
    go p false false false true = omega arith
    go p false false false false = omega arith

pub chosen_le : (old mask x : ℕ) → chosen old mask x ≤ 127
unfolding chosen chosen_bit
chosen_le old mask x = seven_le (λ p. chosen_bit p old mask x) (λ p. go p (eqb (bit p old) 1) (eqb (bit p mask) x))
  where
    go : (p : ℕ) (s t : Bool) → cond s (cond t p 0) 0 ≤ p
    go p true true = omega arith
    go p true false = omega arith
    go p false t = omega arith

-- ---- each change of a block

module _ {b : List ℕ} (u : Usable b) where
  pub rule_keeps : (before holds : ℕ) → Usable (ruled before holds b)
  unfolding leasts greatests
  rule_keeps before holds = usable_store u latch _ (omega arith) (in_range_lem latch _ zero-le (latched_le _ _ before holds))

  pub clear_keeps : (mask : ℕ) → Usable (latch_cleared mask b)
  unfolding leasts greatests
  clear_keeps mask = usable_store u latch _ (omega arith) (in_range_lem latch _ zero-le (chosen_le _ mask 0))
