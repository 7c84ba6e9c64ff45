-- Digits and their number.
-- Assumes nothing.
use mathlib.Core.Path.{◌≡◌, refl, ap, ◌∙◌}
use mathlib.Core.Bool.{Bool, true, false, cond, true≢false}
use Prim.Native.Nat.{ℕ, zero, suc, ◌+◌, ◌*◌, ◌/◌, ◌%◌, ◌^◌, ◌≤◌, ◌<◌}
use native.Mathlib.Nat.{le_refl, pow-suc}
use native.Mathlib.Omega.{arith}
use lib.Dec.{ltb}
use borrow.Author.Tests.{le-ltb, ltb-false}
use Rattle.reading_fields.specs.Digits.{digit_above9, of_digits, to_digits}

-- a number of digits is at most its field
pub digits_le : (n f : ℕ) → of_digits n f ≤ f
unfolding of_digits
digits_le zero f = le_refl f
digits_le (suc n) f = omega (arith, digits_le n (f / 16))

-- the field of a number whose top digit has three bits has that too
pub field_below : (n m : ℕ) → m < 8 * 10 ^ n → to_digits n m < 8 * 16 ^ n
unfolding to_digits
field_below zero m h = h
field_below (suc n) m h =
    let l : to_digits n (m / 10) < 8 * 16 ^ n = field_below n (m / 10) (omega (arith, rw pow-suc at h)) in
    rw (pow-suc 16 n) (omega arith)

-- a number of digits none of which is above 9, the top one of three bits
pub number_below : (n f : ℕ) → digit_above9 n f ≡ false → f < 8 * 16 ^ n → of_digits n f < 8 * 10 ^ n
unfolding digit_above9 of_digits
number_below zero f e h = h
number_below (suc n) f e h = go (ltb 9 (f % 16)) refl (λ d. number_below n (f / 16) d (omega (arith, rw pow-suc at h))) e
  where
    go : (t : Bool) → ltb 9 (f % 16) ≡ t → (digit_above9 n (f / 16) ≡ false → of_digits n (f / 16) < 8 * 10 ^ n)
        → cond t true (digit_above9 n (f / 16)) ≡ false → f % 16 + 10 * of_digits n (f / 16) < 8 * 10 ^ suc n
    go true w rest e = absurd (true≢false e)
    go false w rest e =
        let small : f % 16 ≤ 9 = ltb-false 9 (f % 16) w in
        let l : of_digits n (f / 16) < 8 * 10 ^ n = rest e in
        rw (pow-suc 10 n) (omega arith)

-- reading what was written
pub of_to : (n m : ℕ) → of_digits n (to_digits n m) ≡ m
unfolding of_digits to_digits
of_to zero m = refl
of_to (suc n) m =
    let t = to_digits n (m / 10) in
    let low : (m % 10 + 16 * t) % 16 ≡ m % 10 = omega arith in
    let high : (m % 10 + 16 * t) / 16 ≡ t = omega arith in
    omega (arith, ap (of_digits n) high ∙ of_to n (m / 10))

-- no digit of a number is above 9
pub to_right : (n m : ℕ) → digit_above9 n (to_digits n m) ≡ false
unfolding digit_above9 to_digits
to_right zero m = refl
to_right (suc n) m =
    let t = to_digits n (m / 10) in
    let low : (m % 10 + 16 * t) % 16 ≤ 9 = omega arith in
    let high : (m % 10 + 16 * t) / 16 ≡ t = omega arith in
    rw (le-ltb 9 ((m % 10 + 16 * t) % 16) low, high) (to_right n (m / 10))

-- writing what was read, where no digit is above 9
pub to_of : (n f : ℕ) → digit_above9 n f ≡ false → to_digits n (of_digits n f) ≡ f
unfolding digit_above9 of_digits to_digits
to_of zero f e = refl
to_of (suc n) f e = go (ltb 9 (f % 16)) refl (to_of n (f / 16)) e
  where
    go : (t : Bool) → ltb 9 (f % 16) ≡ t → (digit_above9 n (f / 16) ≡ false → to_digits n (of_digits n (f / 16)) ≡ f / 16)
        → cond t true (digit_above9 n (f / 16)) ≡ false → to_digits (suc n) (of_digits (suc n) f) ≡ f
    go true w rest e = absurd (true≢false e)
    go false w rest e =
        let v = of_digits n (f / 16) in
        let small : f % 16 ≤ 9 = ltb-false 9 (f % 16) w in
        let high : (f % 16 + 10 * v) / 10 ≡ v = omega arith in
        omega (arith, ap (to_digits n) high ∙ rest e)
