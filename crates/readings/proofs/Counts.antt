-- A number in units is a whole count of 262,144ths, and its digits behind the point end after 18 at most.
-- Assumes nothing.
use mathlib.Core.Path.{◌≡◌, refl, sym, ap, ◌∙◌}
use mathlib.Core.Bool.{Bool, true, false, true≢false}
use Prim.Native.Nat.{ℕ, zero, suc, ◌+◌, ◌-◌, ◌*◌, ◌/◌, ◌%◌, ◌^◌, ◌≤◌, ◌<◌}
use native.Mathlib.Nat.{mul-one, mul_assoc, mul_comm, mul-pos, mul-le-mul, pow-suc, mul-mod_left, add-mul-mod_self_right, mul_right_comm, add-mul, add_comm, div-add-mod'}
use native.Mathlib.Omega.{arith}
use lib.Dec.{T, le→leb, lt→ltb}
use lib.IntN.{ℤ, pos, negsuc, nat_abs}
use lib.Pow.{pow-add, pow_pos, pow_mono}
use lib.Ieee.{binary64, round, of_int, in_float, in_signed, to_signed}
use lib.Ieee.Back.{positive_back, negative_back}
use lib.Ieee.Scale.{round_same}
use Rattle.reading_fields.specs.Signs.{signed, minus}
use Rattle.readings.specs.Reading.{in_units}
use Rattle.readings.specs.Units.{ths, scaled, count_of, next_rest, rest_after}
use Rattle.readings.proofs.Exact.{mul_value, like_plus, holds, units_exact}

-- the count of a whole number over 2 ^ k
abbrev parts : ℕ → ℕ → ℕ
parts k n = n * 2 ^ (18 - k)

-- times 262,144
scaled_is : (v : ℤ) (k : ℕ) → nat_abs v < 2 ^ 53 → k ≤ 18 → scaled (in_units v (2 ^ k)) ≡ round binary64 (minus v) (parts k (nat_abs v)) 1
scaled_is v k h l =
    let j = 18 - k in
    let back : j + k ≡ 18 = omega arith in
    let e : 2 ^ j * 2 ^ k ≡ ths = sym (pow-add 2 j k) ∙ ap (λ z. 2 ^ z) back in
    mul_value binary64 (in_units v (2 ^ k)) (of_int binary64 (pos ths)) (minus v) false (nat_abs v) (2 ^ k) ths 1 (pow_pos k) (omega arith)
    (units_exact v k h (omega arith)) (holds (pos ths) (omega arith))
    ∙ ap (λ s. round binary64 s (nat_abs v * ths) (2 ^ k * 1)) (like_plus (minus v))
    ∙ round_same binary64 (minus v) (nat_abs v * ths) (2 ^ k * 1) (parts k (nat_abs v)) 1 (mul-pos (pow_pos k) (omega arith)) (omega arith)
    (mul-one (nat_abs v * ths) ∙ ap (λ z. nat_abs v * z) (sym e) ∙ sym (mul_assoc (nat_abs v) (2 ^ j) (2 ^ k)) ∙ ap (λ z. parts k (nat_abs v) * z) (sym (mul-one (2 ^ k))))

-- a whole number that the machine casts back, by its sign
cast_back : (s : Bool) (n : ℕ) → (s ≡ true → 0 < n) → n ≤ 2 ^ 36
    → T (in_signed binary64 63 (round binary64 s n 1)) × (to_signed 63 (round binary64 s n 1) ≡ signed s n)
unfolding of_int in_float
cast_back false n p h = positive_back binary64 63 n (le→leb n (2 ^ 53) (omega arith)) (omega arith)
cast_back true zero p h = absurd (omega (arith, p refl))
cast_back true (suc n) p h = negative_back binary64 63 n (lt→ltb n (2 ^ 53) (omega arith)) (omega arith)

above : (v : ℤ) (u : ℕ) → 0 < u → minus v ≡ true → 0 < nat_abs v * u
above (pos n) u h e = absurd (true≢false (sym e))
above (negsuc n) u h e = mul-pos (omega arith) h

-- the machine's cast of it to a whole number loses nothing, and gives the count with the sign of the number
pub count_is : (v : ℤ) (k : ℕ) → nat_abs v ≤ 2 ^ 18 → k ≤ 18
    → T (in_signed binary64 63 (scaled (in_units v (2 ^ k)))) × (count_of (in_units v (2 ^ k)) ≡ signed (minus v) (parts k (nat_abs v)))
unfolding count_of
count_is v k h l =
    let small : 2 ^ (18 - k) ≤ 2 ^ 18 = pow_mono {i = 18 - k} {j = 18} (omega arith) in
    let most : parts k (nat_abs v) ≤ 2 ^ 18 * 2 ^ 18 = mul-le-mul h small in
    rw (scaled_is v k (omega arith) l) (cast_back (minus v) (parts k (nat_abs v)) (above v (2 ^ (18 - k)) (pow_pos (18 - k))) most)

signed_size : (s : Bool) (n : ℕ) → nat_abs (signed s n) ≡ n
signed_size false n = refl
signed_size true zero = refl
signed_size true (suc n) = refl

signed-minus : (s : Bool) (n : ℕ) → (s ≡ true → 0 < n) → minus (signed s n) ≡ s
signed-minus false n p = refl
signed-minus true zero p = absurd (omega (arith, p refl))
signed-minus true (suc n) p = refl

-- the count over 262,144 is the whole number over the divisor, with its sign
pub count_size : (v : ℤ) (k : ℕ) → nat_abs v ≤ 2 ^ 18 → k ≤ 18 → nat_abs (count_of (in_units v (2 ^ k))) * 2 ^ k ≡ nat_abs v * ths
count_size v k h l =
    let back : 18 - k + k ≡ 18 = omega arith in
    rw ((count_is v k h l).1, signed_size (minus v) (parts k (nat_abs v)))
    (mul_assoc (nat_abs v) (2 ^ (18 - k)) (2 ^ k) ∙ ap (λ z. nat_abs v * z) (sym (pow-add 2 (18 - k) k) ∙ ap (λ z. 2 ^ z) back))

pub count-minus : (v : ℤ) (k : ℕ) → nat_abs v ≤ 2 ^ 18 → k ≤ 18 → minus (count_of (in_units v (2 ^ k))) ≡ minus v
count-minus v k h l =
    rw (count_is v k h l).1 (signed-minus (minus v) (parts k (nat_abs v)) (above v (2 ^ (18 - k)) (pow_pos (18 - k))))

-- ---- digits

-- a remainder times b leaves what the number times b leaves
mod-mul-mod : (a b t : ℕ) → a % t * b % t ≡ a * b % t
mod-mul-mod a b t =
    sym (add-mul-mod_self_right (a % t * b) (a / t * b) t)
    ∙ ap (λ z. (a % t * b + z) % t) (mul_right_comm (a / t) b t) ∙ ap (λ z. z % t) (sym (add-mul (a % t) (a / t * t) b))
    ∙ ap (λ z. z * b % t) (add_comm (a % t) (a / t * t) ∙ div-add-mod' a t)

-- the part that is left behind n digits
rest_is : (n r : ℕ) → r < ths → rest_after n r ≡ r * 10 ^ n % ths
rest_is zero r h = let e : r * 1 % ths ≡ r = omega arith in sym e
rest_is (suc n) r h =
    let a : r % ths * 10 ≡ r * 10 = omega arith in
    rest_is n (next_rest r) (omega arith)
    ∙ ap (λ z. z % ths * 10 ^ n % ths) a ∙ mod-mul-mod (r * 10) (10 ^ n) ths
    ∙ ap (λ z. z % ths) (mul_assoc r 10 (10 ^ n) ∙ ap (λ z. r * z) (mul_comm 10 (10 ^ n) ∙ sym (pow-suc 10 n)))

-- 18 digits suffice
pub digits_end : (r : ℕ) → r < ths → rest_after 18 r ≡ 0
digits_end r h = rest_is 18 r h ∙ ap (λ z. z % ths) (sym (mul_assoc r (5 ^ 18) ths)) ∙ mul-mod_left (r * 5 ^ 18) ths
