-- n + 1 numbers below n are not all different.
-- Assumes nothing.
use mathlib.Core.Path.{◌≡◌, refl, sym, ◌∙◌}
use mathlib.Core.Bool.{Bool, true, false, cond}
use Prim.Native.Nat.{ℕ, zero, suc, ◌≤◌, ◌<◌}
use native.Mathlib.Decide.{dec_lt}
use native.Mathlib.Omega.{arith}
use lib.Dec.{eqb}
use borrow.Author.Tests.{eqb-true, eqb-false}

-- the numbers below n + 1 with n in the place of v
moved : (n v : ℕ) → ℕ → ℕ
moved n v x = cond (eqb x n) v x

moved_below : (n v x : ℕ) → v < suc n → x < suc n → (x ≡ v → ⊥) → moved n v x < n
unfolding moved
moved_below n v x h k d = go (eqb x n) refl
  where
    below : (y : ℕ) → y < suc n → (y ≡ n → ⊥) → y < n
    below y h d = least (dec_lt y n)
      where
        least : Dec (y < n) → y < n
        least (yes l) = l
        least (no l) = absurd (d (omega arith))

    go : (t : Bool) → eqb x n ≡ t → cond t v x < n
    go true e = below v h (λ z. d (eqb-true x n e ∙ sym z))
    go false e = below x k (eqb-false x n e)

moved_apart : (n v x y : ℕ) → (x ≡ y → ⊥) → (x ≡ v → ⊥) → (y ≡ v → ⊥) → moved n v x ≡ moved n v y → ⊥
unfolding moved
moved_apart n v x y d a b = go (eqb x n) (eqb y n) refl refl
  where
    go : (t u : Bool) → eqb x n ≡ t → eqb y n ≡ u → cond t v x ≡ cond u v y → ⊥
    go true true e f z = d (eqb-true x n e ∙ sym (eqb-true y n f))
    go true false e f z = b (sym z)
    go false true e f z = a z
    go false false e f z = d z

pub pigeon : (n : ℕ) (g : ℕ → ℕ) → ((i : ℕ) → i ≤ n → g i < n) → ((i j : ℕ) → i < j → j ≤ n → g i ≡ g j → ⊥) → ⊥
pigeon zero g h d = omega (arith, h 0 (omega arith))
pigeon (suc n) g h d =
    pigeon n (λ i. moved n (g (suc n)) (g i))
    (λ i l. moved_below n (g (suc n)) (g i) (h (suc n) (omega arith)) (h i (omega arith)) (d i (suc n) (omega arith) (omega arith)))
    (λ i j l m. moved_apart n (g (suc n)) (g i) (g j) (d i j l (omega arith)) (d i (suc n) (omega arith) (omega arith)) (d j (suc n) (omega arith) (omega arith)))
