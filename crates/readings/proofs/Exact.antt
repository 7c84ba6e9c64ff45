-- A number in units is exact: a whole number of the field divided by a divisor of the list is that quotient and no other, and times the
-- divisor it is the whole number again.
-- Assumes nothing.
use mathlib.Core.Path.{◌≡◌, refl, sym, ap, ◌∙◌}
use mathlib.Core.Bool.{Bool, true, false}
use Prim.Native.Nat.{ℕ, suc, ◌+◌, ◌-◌, ◌*◌, ◌^◌, ◌≤◌, ◌<◌}
use native.Mathlib.Nat.{le_of_lt, lt_of_lt_of_le, mul_comm, mul_assoc, mul-one, one-mul, mul-pos, mul-mul-mul_comm}
use native.Mathlib.Omega.{arith}
use lib.IntN.{ℤ, pos, negsuc, nat_abs}
use lib.Pow.{pow-add, pow_pos, pow_mono, shl_lt}
use lib.Ieee.{Float, nan, inf, fin, Format, binary64, low, emax, up, down, round, mul, div, of_int, unlike}
use lib.Ieee.Fits.{down_pos}
use lib.Ieee.Exact.{HasValue, round_exact}
use lib.Ieee.Back.{round_whole}
use lib.Ieee.Scale.{round_same}
use lib.Ieee.Positive.{first_pos}
use borrow.Author.Tests.{ne_eqb}
use Rattle.reading_fields.specs.Signs.{minus}
use Rattle.readings.specs.Reading.{in_units}

-- ---- quotients and products of floats that have a value

pub div_value : (f : Format) (x y : Float) (s t : Bool) (a c b d : ℕ) → 0 < c → 0 < d → 0 < b → HasValue x s a c → HasValue y t b d
    → div f x y ≡ round f (unlike s t) (a * d) (c * b)
unfolding div
div_value f nan y s t a c b d C D B h k = absurd h
div_value f (inf s') y s t a c b d C D B h k = absurd h
div_value f (fin s' m e) nan s t a c b d C D B h k = absurd k
div_value f (fin s' m e) (inf t') s t a c b d C D B h k = absurd k
div_value f (fin s' m e) (fin t' n g) s t a c b d C D B h k =
    let N = n * up g in
    let p : 0 < N = first_pos N d (rw k.1 (mul-pos B (down_pos g))) in
    let q : 0 < n = first_pos n (up g) p in
    rw (ne_eqb n 0 (λ z. omega arith))
    (ap (λ z. round f (unlike z t') (m * up e * down g) (N * down e)) h.0
    ∙ ap (λ z. round f (unlike s z) (m * up e * down g) (N * down e)) k.0
    ∙ round_same f (unlike s t) (m * up e * down g) (N * down e) (a * d) (c * b) (mul-pos p (down_pos e)) (mul-pos C B)
    (mul-mul-mul_comm (m * up e) (down g) c b ∙ ap (λ z. z * (down g * b)) h.1
    ∙ ap (λ z. a * down e * z) (mul_comm (down g) b ∙ sym k.1) ∙ mul-mul-mul_comm a (down e) N d
    ∙ ap (λ z. a * N * z) (mul_comm (down e) d) ∙ sym (mul-mul-mul_comm a d N (down e))))

pub mul_value : (f : Format) (x y : Float) (s t : Bool) (a c b d : ℕ) → 0 < c → 0 < d → HasValue x s a c → HasValue y t b d
    → mul f x y ≡ round f (unlike s t) (a * b) (c * d)
unfolding mul
mul_value f nan y s t a c b d C D h k = absurd h
mul_value f (inf s') y s t a c b d C D h k = absurd h
mul_value f (fin s' m e) nan s t a c b d C D h k = absurd k
mul_value f (fin s' m e) (inf t') s t a c b d C D h k = absurd k
mul_value f (fin s' m e) (fin t' n g) s t a c b d C D h k =
    ap (λ z. round f (unlike z t') (m * up e * (n * up g)) (down e * down g)) h.0
    ∙ ap (λ z. round f (unlike s z) (m * up e * (n * up g)) (down e * down g)) k.0
    ∙ round_same f (unlike s t) (m * up e * (n * up g)) (down e * down g) (a * b) (c * d) (mul-pos (down_pos e) (down_pos g)) (mul-pos C D)
    (mul-mul-mul_comm (m * up e) (n * up g) c d ∙ ap (λ z. z * (n * up g * d)) h.1 ∙ ap (λ z. a * down e * z) k.1
    ∙ mul-mul-mul_comm a (down e) b (down g))

-- ---- a whole number and a power of two

pub like_plus : (s : Bool) → unlike s false ≡ s
like_plus true = refl
like_plus false = refl

pub of_int_lem : (v : ℤ) → of_int binary64 v ≡ round binary64 (minus v) (nat_abs v) 1
unfolding of_int
of_int_lem (pos n) = refl
of_int_lem (negsuc n) = refl

-- what the format holds of a whole number
pub holds : (v : ℤ) → nat_abs v ≤ 2 ^ 53 → HasValue (of_int binary64 v) (minus v) (nat_abs v) 1
holds v h = rw (of_int_lem v) (round_whole binary64 (minus v) (nat_abs v) h)

-- the quotient is the whole number over the divisor, rounded
units_are : (v : ℤ) (d : ℕ) → nat_abs v ≤ 2 ^ 53 → d ≤ 2 ^ 53 → 0 < d → in_units v d ≡ round binary64 (minus v) (nat_abs v) d
unfolding in_units
units_are v d h k p =
    div_value binary64 (of_int binary64 v) (of_int binary64 (pos d)) (minus v) false (nat_abs v) 1 d 1 (omega arith) (omega arith) p (holds v h) (holds (pos d) k)
    ∙ ap (λ s. round binary64 s (nat_abs v * 1) (1 * d)) (like_plus (minus v))
    ∙ ap (λ a. round binary64 (minus v) a (1 * d)) (mul-one (nat_abs v)) ∙ ap (λ c. round binary64 (minus v) (nat_abs v) c) (one-mul d)

-- and nothing is rounded
pub units_exact : (v : ℤ) (k : ℕ) → nat_abs v < 2 ^ 53 → k ≤ 53 → HasValue (in_units v (2 ^ k)) (minus v) (nat_abs v) (2 ^ k)
units_exact v k h l =
    let j = low binary64 - k in
    let back : j + k ≡ low binary64 = omega arith in
    rw (units_are v (2 ^ k) (le_of_lt h) (pow_mono l) (pow_pos k))
    (round_exact binary64 (minus v) (nat_abs v) (2 ^ k) (nat_abs v) j (pow_pos k) h
    (lt_of_lt_of_le (shl_lt 53 j h) (pow_mono {i = 53 + j} {j = low binary64 + suc (emax binary64)} (omega arith)))
    (sym (mul_assoc (nat_abs v) (2 ^ j) (2 ^ k) ∙ ap (λ z. nat_abs v * z) (sym (pow-add 2 j k) ∙ ap (λ z. 2 ^ z) back))))

-- times the divisor it is the whole number
pub units_back : (v : ℤ) (k : ℕ) → nat_abs v < 2 ^ 53 → k ≤ 53 → mul binary64 (in_units v (2 ^ k)) (of_int binary64 (pos (2 ^ k))) ≡ of_int binary64 v
units_back v k h l =
    mul_value binary64 (in_units v (2 ^ k)) (of_int binary64 (pos (2 ^ k))) (minus v) false (nat_abs v) (2 ^ k) (2 ^ k) 1 (pow_pos k) (omega arith)
    (units_exact v k h l) (holds (pos (2 ^ k)) (pow_mono l))
    ∙ ap (λ s. round binary64 s (nat_abs v * 2 ^ k) (2 ^ k * 1)) (like_plus (minus v))
    ∙ round_same binary64 (minus v) (nat_abs v * 2 ^ k) (2 ^ k * 1) (nat_abs v) 1 (mul-pos (pow_pos k) (omega arith)) (omega arith)
    (mul_assoc (nat_abs v) (2 ^ k) 1) ∙ sym (of_int_lem v)
