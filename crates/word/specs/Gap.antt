-- The gap between words, in bit times (paper 01, "Channel settings" and "Transmit").
use Rattle.std.specs.Prelude.{ℕ, cond, ltb}

-- "The least gap and the greatest rate"
abbrev pub least : ℕ
least = 4

abbrev pub greatest : ℕ
greatest = 1048575

-- "g below 4 counts as 4"; above the greatest rate it counts as the greatest
unfoldable pub clamped : ℕ → ℕ
clamped g = cond (ltb g least) least (cond (ltb greatest g) greatest g)
