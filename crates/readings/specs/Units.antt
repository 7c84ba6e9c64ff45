-- The exact decimal value of a number in units, for a program that writes it: a count of 262,144ths, and its digits one after the other.
use Rattle.std.specs.Prelude.{ℕ, zero, suc, ◌*◌, ◌/◌, ◌%◌, ◌^◌, ℤ, pos, Float}
use Rattle.std.specs.Float.Ieee as Ieee
use Rattle.std.specs.Float.{binary64}

-- "divided once, in f64, by a power of two from 1 to 262,144": every such number is a whole count of 262,144ths
abbrev pub ths : ℕ
ths = 2 ^ 18

abbrev pub scaled : Float → Float
scaled units = Ieee.mul binary64 units (Ieee.of_int binary64 (pos ths))

-- the count, of a number that has one
unfoldable pub count_of : Float → ℤ
count_of units = Ieee.to_signed 63 (scaled units)

-- the first digit behind the point of a part below one, and the part that is left, tenfold
abbrev pub first_digit : ℕ → ℕ
first_digit rest = rest % ths * 10 / ths

abbrev pub next_rest : ℕ → ℕ
next_rest rest = rest % ths * 10 % ths

-- the part that is left behind n digits
abbrev pub rest_after : ℕ → ℕ → ℕ
rest_after zero rest = rest
rest_after (suc n) rest = rest_after n (next_rest rest)
