-- Where a reading stands in a word (paper 02, (iv)). ARINC bit 1 is D0: bits 11 to 29 are D10 to D28, bits 30 and 31 are D29 and D30.
use Rattle.std.specs.Prelude.{ℕ, ◌+◌, ◌-◌, ◌*◌, ◌/◌, ◌%◌, ◌^◌, Bool, cond, ltb, ℤ, pos, neg_ℤ}

-- "all in ARINC bits 11 to 29"
abbrev pub field : ℕ → ℕ
field w = w / 2 ^ 10 % 2 ^ 19

-- "sign from bits 30 and 31"
abbrev pub sign : ℕ → ℕ
sign w = w / 2 ^ 29 % 4

-- "(00 plus, 11 minus)"
abbrev pub plus : ℕ
plus = 0

abbrev pub minus_sign : ℕ
minus_sign = 3

-- "is put into a given word, whose other bits stay": the field alone
abbrev pub with_field : ℕ → ℕ → ℕ
with_field w f = w % 2 ^ 10 + f * 2 ^ 10 + w / 2 ^ 29 * 2 ^ 29

-- the sign alone
abbrev pub with_sign : ℕ → ℕ → ℕ
with_sign w s = w % 2 ^ 29 + s * 2 ^ 29 + w / 2 ^ 31 * 2 ^ 31

-- "Binary: two's complement, -262,144 to 262,143": the fields below 262,144 are the numbers from 0 on, the others those below 0
abbrev pub half : ℕ
half = 2 ^ 18

abbrev pub full : ℕ
full = 2 ^ 19

unfoldable pub twos_complement : ℕ → ℤ
twos_complement f = cond (ltb f half) (pos f) (neg_ℤ (pos (full - f)))

-- the field of a number from -262,144 to 262,143: n is at n, and -(n + 1) at 524,287 - n
abbrev pub twos_field : Bool → ℕ → ℕ
twos_field below n = cond below (full - 1 - n) n
