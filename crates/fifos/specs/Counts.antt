-- Numbers that roll over (paper 01, "Fates" and "Receive"): "meaning is the sum modulo 2^32".
use Rattle.std.specs.Prelude.{ℕ, ◌+◌, ◌%◌, ◌^◌}

-- a number as a 32-bit word that rolls over holds it
abbrev pub rolled : ℕ → ℕ
rolled n = n % 2 ^ 32

-- "Each is a 32-bit count that rolls over"; "added and the counter rolls over": a count with n more
abbrev pub counted : ℕ → ℕ → ℕ
counted count n = rolled (count + n)
