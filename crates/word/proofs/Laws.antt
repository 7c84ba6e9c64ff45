-- What the definitions of the word mean.
-- Assumes nothing.
use mathlib.Core.Path.{◌≡◌, refl, sym, ap, ◌∙◌}
use mathlib.Core.Bool.{Bool, true, false, cond}
use Prim.Native.Nat.{ℕ, zero, suc, ◌+◌, ◌-◌, ◌*◌, ◌/◌, ◌%◌, ◌^◌, ◌<◌}
use native.Mathlib.Nat.{pow-suc}
use native.Mathlib.Omega.{arith}
use borrow.Author.Tests.{eqb-true, eqb-false}
use lib.Count.{ones_in, ones_step, ones_cat, ones as counted}
use lib.Dec.{eqb, eqb→eq}
use Rattle.word.specs.Word.{ones, reversed}
use Rattle.word.specs.Parity.{odd_parity, as_sent}
use Rattle.word.proofs.Computed.{every, at}

-- ---- the count of ones

-- n digits of a number below 2 ^ n have all of its ones
ones_in_lem : (n w : ℕ) → w < 2 ^ n → ones_in n w ≡ counted w
unfolding ones_in counted
ones_in_lem zero w h = let z : 0 ≡ w = omega arith in ap counted z
ones_in_lem (suc n) w h =
    let half : w / 2 < 2 ^ n = omega (arith, rw pow-suc at h) in
    ap (λ (k : ℕ). w % 2 + k) (ones_in_lem n (w / 2) half) ∙ sym (ones_step w)

-- the count of ones of a 32-bit number, as the machine counts it
pub ones-counted : (w : ℕ) → w < 2 ^ 32 → counted w ≡ ones w
unfolding ones
ones-counted w h = sym (ones_in_lem 32 w h)

-- D31 is one more
ones-top : (low : ℕ) → low < 2 ^ 31 → ones (low + 2 ^ 31) ≡ 1 + ones low
unfolding counted ones_in
ones-top low h =
    let e : low + 2 ^ 31 ≡ 1 * 2 ^ 31 + low = omega arith in
    sym (ones-counted (low + 2 ^ 31) (omega arith)) ∙ ap counted e ∙ ones_cat 31 1 low h
    ∙ ap (λ (k : ℕ). 1 + k) (ones-counted low (omega arith))

-- ---- parity

-- a word with parity has an odd count of ones
pub parity_odd : (w : ℕ) → ones (odd_parity w) % 2 ≡ 1
unfolding odd_parity
parity_odd w = go (eqb (ones (w % 2 ^ 31) % 2) 1) refl
  where
    go : (t : Bool) → eqb (ones (w % 2 ^ 31) % 2) 1 ≡ t → ones (cond t (w % 2 ^ 31) (w % 2 ^ 31 + 2 ^ 31)) % 2 ≡ 1
    go true e = omega (arith, eqb-true (ones (w % 2 ^ 31) % 2) 1 e)
    go false e = omega (arith, ones-top (w % 2 ^ 31) (omega arith), eqb-false (ones (w % 2 ^ 31) % 2) 1 e)

-- and its other 31 bits are the word's
pub parity_keeps : (w : ℕ) → odd_parity w % 2 ^ 31 ≡ w % 2 ^ 31
unfolding odd_parity
parity_keeps w = go (eqb (ones (w % 2 ^ 31) % 2) 1)
  where
    go : (t : Bool) → cond t (w % 2 ^ 31) (w % 2 ^ 31 + 2 ^ 31) % 2 ^ 31 ≡ w % 2 ^ 31
    go true = omega arith
    go false = omega arith

-- a word as sent is the word, D31 aside
pub sent_keeps : (parity w : ℕ) → as_sent parity w % 2 ^ 31 ≡ w % 2 ^ 31
unfolding as_sent
sent_keeps parity w = go (eqb parity 0)
  where
    go : (t : Bool) → cond t w (odd_parity w) % 2 ^ 31 ≡ w % 2 ^ 31
    go true = refl
    go false = parity_keeps w

-- ---- the label

-- bit i of a byte stands at place 7 - i of the byte reversed
abbrev mirrored : ℕ → Bool
mirrored b = every (λ i. eqb (reversed b / 2 ^ (7 - i) % 2) (b / 2 ^ i % 2)) 8

pub reversed_bits : (b : ℕ) → b < 256 → (i : ℕ) → i < 8 → reversed b / 2 ^ (7 - i) % 2 ≡ b / 2 ^ i % 2
unfolding reversed
reversed_bits b h i l =
    eqb→eq (reversed b / 2 ^ (7 - i) % 2) (b / 2 ^ i % 2)
    (at (λ j. eqb (reversed b / 2 ^ (7 - j) % 2) (b / 2 ^ j % 2)) 8 (at mirrored 256 tt b h) i l)

-- reversed twice, a byte is itself
pub reversed_twice : (b : ℕ) → b < 256 → reversed (reversed b) ≡ b
unfolding reversed
reversed_twice b h = eqb→eq (reversed (reversed b)) b (at (λ k. eqb (reversed (reversed k)) k) 256 tt b h)
