-- A word as the programs here write it: eight hexadecimal digits, in lower case.
use Rattle.std.specs.Prelude.{ℕ, ◌+◌, ◌/◌, ◌%◌, cond, List, [], ◌∷◌, ltb}

-- the byte that a digit is written with
unfoldable pub byte_of : ℕ → ℕ
byte_of d = cond (ltb d 10) (d + 48) (d + 87)

-- the eight digits of a word, the highest first
abbrev pub written : ℕ → List ℕ
written w =
    byte_of (w / 16 / 16 / 16 / 16 / 16 / 16 / 16 % 16)
    ∷ byte_of (w / 16 / 16 / 16 / 16 / 16 / 16 % 16)
    ∷ byte_of (w / 16 / 16 / 16 / 16 / 16 % 16)
    ∷ byte_of (w / 16 / 16 / 16 / 16 % 16)
    ∷ byte_of (w / 16 / 16 / 16 % 16)
    ∷ byte_of (w / 16 / 16 % 16)
    ∷ byte_of (w / 16 % 16)
    ∷ byte_of (w % 16)
    ∷ []
