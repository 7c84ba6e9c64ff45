-- Where each condition stands in 004's Channel Status.
-- Assumes nothing.
use Prim.Native.Nat.{ℕ, ◌^◌}
use mathlib.Core.Path.{◌≡◌, refl}
use mathlib.Core.List.{[], ◌∷◌, map}
use Rattle.register_map.specs.Shown.{status_bits}

-- each of the conditions 0 to 6 alone: D1, D2, D5, D4, D7, D10 and D9
pub each_at : map (λ (i : ℕ). status_bits (2 ^ i)) (0 ∷ 1 ∷ 2 ∷ 3 ∷ 4 ∷ 5 ∷ 6 ∷ []) ≡ map (λ (d : ℕ). 2 ^ d) (1 ∷ 2 ∷ 5 ∷ 4 ∷ 7 ∷ 10 ∷ 9 ∷ [])
unfolding status_bits
each_at = refl
