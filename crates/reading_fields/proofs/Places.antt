-- What a field and a sign put into a word leave there, and what two's complement gives back.
-- Assumes nothing.
use mathlib.Core.Path.{◌≡◌, refl, sym, ap, ◌∙◌}
use mathlib.Core.Bool.{Bool, true, false, cond}
use Prim.Native.Nat.{ℕ, suc, ◌-◌, ◌/◌, ◌%◌, ◌^◌, ◌≤◌, ◌<◌}
use native.Mathlib.Omega.{arith}
use lib.Dec.{ltb}
use lib.IntN.{ℤ, pos, negsuc, neg_ℤ}
use lib.Signed.{mag}
use borrow.Author.Tests.{lt-ltb, le-ltb, ltb-true, ltb-false}
use Rattle.reading_fields.specs.Signs.{minus}
use Rattle.reading_fields.specs.Bits.{field, sign, with_field, with_sign, half, full, twos_complement, twos_field}

-- ---- the bits of a word

pub field_is : (w f : ℕ) → f < full → field (with_field w f) ≡ f
field_is w f h = omega arith

-- "whose other bits stay"
pub field_rest : (w f : ℕ) → f < full → (with_field w f % 2 ^ 10 ≡ w % 2 ^ 10) × (with_field w f / 2 ^ 29 ≡ w / 2 ^ 29)
field_rest w f h = (omega arith, omega arith)

-- the bits above the field: the sign, and bit 32
pub above-field : (u w : ℕ) → u / 2 ^ 29 ≡ w / 2 ^ 29 → (u / 2 ^ 31 ≡ w / 2 ^ 31) × (sign u ≡ sign w)
above-field u w e = (omega arith, ap (λ (k : ℕ). k % 4) e)

pub field-same : (w : ℕ) → with_field w (field w) ≡ w
field-same w = omega arith

pub sign_is : (w s : ℕ) → s < 4 → sign (with_sign w s) ≡ s
sign_is w s h = omega arith

pub sign-field : (w s : ℕ) → field (with_sign w s) ≡ field w
sign-field w s = omega arith

pub sign_rest : (w s : ℕ) → s < 4 → (with_sign w s % 2 ^ 29 ≡ w % 2 ^ 29) × (with_sign w s / 2 ^ 31 ≡ w / 2 ^ 31)
sign_rest w s h = (omega arith, omega arith)

-- the bits below the sign: the field's, and those below it
low_bits : (u : ℕ) → u % 2 ^ 29 % 2 ^ 10 ≡ u % 2 ^ 10
low_bits u = omega arith

pub below_sign : (u x : ℕ) → u % 2 ^ 29 ≡ x % 2 ^ 29 → u % 2 ^ 10 ≡ x % 2 ^ 10
below_sign u x e = sym (low_bits u) ∙ ap (λ (k : ℕ). k % 2 ^ 10) e ∙ low_bits x

pub sign_same : (w : ℕ) → with_sign w (sign w) ≡ w
sign_same w = omega arith

-- ---- two's complement

-- the number of the field of a number
pub twos_told : (v : ℤ) → mag v < half → twos_complement (twos_field (minus v) (mag v)) ≡ v
unfolding twos_complement
twos_told (pos n) h = rw (lt-ltb n half h)
twos_told (negsuc n) h =
    let e : full - (full - 1 - n) ≡ suc n = omega arith in
    rw (le-ltb (full - 1 - n) half (omega arith), e)

-- the field of the number of a field
pub twos_again : (f : ℕ) → f < full → (mag (twos_complement f) < half) × (twos_field (minus (twos_complement f)) (mag (twos_complement f)) ≡ f)
unfolding twos_complement
twos_again f h = go (ltb f half) refl
  where
    below : (n : ℕ) → full - f ≡ suc n → half ≤ f → (mag (neg_ℤ (pos (full - f))) < half)
        × (twos_field (minus (neg_ℤ (pos (full - f)))) (mag (neg_ℤ (pos (full - f)))) ≡ f)
    below n e l = rw e (omega arith, omega arith)

    go : (t : Bool) → ltb f half ≡ t → (mag (cond t (pos f) (neg_ℤ (pos (full - f)))) < half)
        × (twos_field (minus (cond t (pos f) (neg_ℤ (pos (full - f))))) (mag (cond t (pos f) (neg_ℤ (pos (full - f))))) ≡ f)
    go true e = (ltb-true f half e, refl)
    go false e = below (full - 1 - f) (omega arith) (ltb-false f half e)

-- such a field has 19 bits
pub twos_below : (v : ℤ) → mag v < half → twos_field (minus v) (mag v) < full
twos_below (pos n) h = omega arith
twos_below (negsuc n) h = omega arith

-- a field has 19 bits
pub field_below_full : (w : ℕ) → field w < full
field_below_full w = omega arith
