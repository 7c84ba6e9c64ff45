-- "Decimal: five digits, the top one of three bits" (paper 02, (iv)): four digits of four bits, lowest first, and the top one above them.
use Rattle.std.specs.Prelude.{ℕ, zero, suc, ◌+◌, ◌*◌, ◌/◌, ◌%◌, Bool, true, false, cond, ltb}

-- the digits of four bits, below the top one
abbrev pub lower : ℕ
lower = 4

-- "decimal -79,999 to 79,999": the greatest number of five digits whose top one has three bits
abbrev pub greatest_decimal : ℕ
greatest_decimal = 79999

-- "63 a digit above 9": whether one of the n lowest digits is; the top one, of three bits, never is
unfoldable pub digit_above9 : ℕ → ℕ → Bool
digit_above9 zero f = false
digit_above9 (suc n) f = cond (ltb 9 (f % 16)) true (digit_above9 n (f / 16))

-- the number that n digits and the top one give
unfoldable pub of_digits : ℕ → ℕ → ℕ
of_digits zero f = f
of_digits (suc n) f = f % 16 + 10 * of_digits n (f / 16)

-- the field of a number: its n lowest digits in four bits each, and what is above them
unfoldable pub to_digits : ℕ → ℕ → ℕ
to_digits zero m = m
to_digits (suc n) m = m % 10 + 16 * to_digits n (m / 10)
