-- A rule of every number below a bound, by one test that is computed at each of them.
-- Assumes nothing.
use mathlib.Core.Path.{◌≡◌, refl, subst}
use mathlib.Core.Bool.{Bool, true, false, ◌&&◌}
use Prim.Native.Nat.{ℕ, zero, suc, ◌<◌}
use native.Mathlib.Decide.{dec_lt}
use native.Mathlib.Omega.{arith}
use lib.Dec.{T}

-- the test passes at each number below n
abbrev pub every : (ℕ → Bool) → ℕ → Bool
every test zero = true
every test (suc n) = test n && every test n

first : (a b : Bool) → T (a && b) → T a
first true b t = tt
first false b t = t

rest : (a b : Bool) → T (a && b) → T b
rest true b t = t
rest false b t = absurd t

pub at : (test : ℕ → Bool) (n : ℕ) → T (every test n) → (k : ℕ) → k < n → T (test k)
at test zero t k h = absurd (omega arith)
at test (suc n) t k h = go (λ l. at test n (rest (test n) (every test n) t) k l) (dec_lt k n)
  where
    go : (k < n → T (test k)) → Dec (k < n) → T (test k)
    go below (yes l) = below l
    go below (no l) = let e : n ≡ k = omega arith in subst (λ (j : ℕ). T (test j)) e (first (test n) (every test n) t)

holds : (t : Bool) → T t → t ≡ true
holds true h = refl
holds false h = absurd h

-- the same as an equation
pub passes : (test : ℕ → Bool) (n : ℕ) → T (every test n) → (k : ℕ) → k < n → test k ≡ true
passes test n t k h = holds (test k) (at test n t k h)
