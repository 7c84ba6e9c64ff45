-- A number as text.
use Rattle.std.specs.Prelude.{ℕ, zero, suc, ◌+◌, ◌/◌, ◌%◌, List, [], ◌∷◌, ◌++◌, nat_lt, cond}

-- the ASCII code of a digit below 16: `0` to `9`, then `a` to `f`
abbrev pub hex_glyph : ℕ → ℕ
hex_glyph d = cond (nat_lt d 10) (48 + d) (87 + d)

-- the last k hexadecimal digits of n, the highest first
abbrev pub hex_text : ℕ → ℕ → List ℕ
hex_text zero n = []
hex_text (suc k) n = hex_text k (n / 16) ++ (hex_glyph (n % 16) ∷ [])
