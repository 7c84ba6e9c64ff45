-- What a byte of a text stands for, in every program here that reads words and numbers.
use Rattle.std.specs.Prelude.{ℕ, ◌-◌, Bool, true, false, cond, eqb, ltb}

-- blanks, tabs and carriage returns stand around fields
unfoldable pub is_blank : ℕ → Bool
is_blank b = cond (eqb b 32) true (cond (eqb b 9) true (cond (eqb b 13) true false))

-- the value of a digit, a letter in either case; 16 for a byte that is none
unfoldable pub digit_of : ℕ → ℕ
digit_of b =
    cond (ltb b 48) 16
    (cond (ltb b 58) (b - 48) (cond (ltb b 65) 16 (cond (ltb b 71) (b - 55) (cond (ltb b 97) 16 (cond (ltb b 103) (b - 87) 16)))))
