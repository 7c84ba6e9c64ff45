-- The ARINC 429 word (paper 01, "The word"). ARINC bit 1 is D0, bit 32 is D31.
use Rattle.std.specs.Prelude.{ℕ, ◌+◌, ◌*◌, ◌/◌, ◌%◌, Bool, eqb}
use Rattle.std.specs.Int.Count.{ones_in}

-- "with its bits reversed": bit i of a byte goes to place 7 - i
unfoldable pub reversed : ℕ → ℕ
reversed b =
    b % 2 * 128
    + b / 2 % 2 * 64
    + b / 4 % 2 * 32
    + b / 8 % 2 * 16
    + b / 16 % 2 * 8
    + b / 32 % 2 * 4
    + b / 64 % 2 * 2
    + b / 128 % 2

-- "the octal label is the low byte with its bits reversed"
abbrev pub label : ℕ → ℕ
label w = reversed (w % 256)

-- "Bits 9 and 10 are SDI"
abbrev pub sdi : ℕ → ℕ
sdi w = w / 256 % 4

-- "The SDI/Label index is the word modulo 1024"
abbrev pub index : ℕ → ℕ
index w = w % 1024

-- "count of ones": the sum of the word's 32 bits
unfoldable pub ones : ℕ → ℕ
unfolding ones_in
ones w = ones_in 32 w

-- "Odd parity: a word with an even count of ones is in error"
abbrev pub in_error : ℕ → Bool
in_error w = eqb (ones w % 2) 0
