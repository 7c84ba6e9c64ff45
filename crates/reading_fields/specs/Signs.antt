-- A whole number as a sign and a size: all arithmetic on fields and digits is on numbers without a sign. `nat_abs` is the size, and `mag` is n
-- for n and for -(n + 1).
use Rattle.std.specs.Prelude.{ℕ, Bool, true, false, ℤ, pos, negsuc, neg_ℤ}

-- the number of a sign, true for minus, and a size
abbrev pub signed : Bool → ℕ → ℤ
signed false size = pos size
signed true size = neg_ℤ (pos size)

-- whether a number is below zero
abbrev pub minus : ℤ → Bool
minus (pos n) = false
minus (negsuc n) = true
