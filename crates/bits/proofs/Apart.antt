-- Bits written at two places can be written in either order.
-- Assumes nothing.
use Prim.Native.Nat.{ℕ, ◌+◌, ◌*◌, ◌/◌, ◌%◌, ◌^◌, ◌≤◌, ◌<◌}
use mathlib.Core.Path.{◌≡◌, refl, sym, ap}
use mathlib.Core.Logic.{◌≢◌}
use mathlib.Core.Bool.{Bool, true, false}
use native.Mathlib.Nat.{add-mul}
use native.Mathlib.Omega.{arith}
use borrow.Author.Tests.{ltb-true, ltb-false}
use lib.Dec.{ltb}
use lib.Pow.{split}
use Rattle.bits.specs.Bits.{bit_at, with_bit}
use Rattle.bits.proofs.Bits.{bit_below, bit-above}

-- a word with a bit written, and the bit that stood there, weigh as much as the word and the bit written
balance : (w k v : ℕ) → with_bit w k v + bit_at w k * 2 ^ k ≡ w + v * 2 ^ k
balance w k v =
    let p : ℕ = 2 ^ k in
    let q : ℕ = w / 2 ^ k in
    let parts : q / 2 * 2 + q % 2 ≡ q = omega arith in
    let high : (q / 2 * 2 + q % 2) * p ≡ q * p = ap (λ (n : ℕ). n * p) parts in
    omega (arith, add-mul (q / 2 * 2) v p, add-mul (q / 2 * 2) (q % 2) p, high, split w k)

-- the other bits stay, above and below
other : (w k v j : ℕ) → v ≤ 1 → k ≢ j → bit_at (with_bit w k v) j ≡ bit_at w j
other w k v j u ne = go (ltb j k) refl
  where
    go : (t : Bool) → ltb j k ≡ t → bit_at (with_bit w k v) j ≡ bit_at w j
    go true e = bit_below w k v j (ltb-true j k e)
    go false e = let h : k ≤ j = ltb-false j k e in let l : k < j = omega arith in bit-above w k v j u l

pub with_comm : (w j k u v : ℕ) → u ≤ 1 → v ≤ 1 → j ≢ k → with_bit (with_bit w j u) k v ≡ with_bit (with_bit w k v) j u
with_comm w j k u v l h ne =
    let first : bit_at (with_bit w j u) k * 2 ^ k ≡ bit_at w k * 2 ^ k = ap (λ (n : ℕ). n * 2 ^ k) (other w j u k l ne) in
    let second : bit_at (with_bit w k v) j * 2 ^ j ≡ bit_at w j * 2 ^ j = ap (λ (n : ℕ). n * 2 ^ j) (other w k v j h (λ e. ne (sym e))) in
    omega (arith, balance w j u, balance (with_bit w j u) k v, balance w k v, balance (with_bit w k v) j u, first, second)
