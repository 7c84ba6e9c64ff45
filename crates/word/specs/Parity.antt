-- Parity on the way out and on the way in, by the channel's setting: 0 off, else on (paper 01, "The word").
use Rattle.std.specs.Prelude.{ℕ, ◌+◌, ◌%◌, ◌^◌, cond, eqb}
use Rattle.word.specs.Word.{ones, in_error}

-- "D31 is set or cleared so that the count is odd": the other 31 bits stay
unfoldable pub odd_parity : ℕ → ℕ
odd_parity w = cond (eqb (ones (w % 2 ^ 31) % 2) 1) (w % 2 ^ 31) (w % 2 ^ 31 + 2 ^ 31)

-- "with parity off (ARINC 575 data) the word passes as it is"
unfoldable pub as_sent : ℕ → ℕ → ℕ
as_sent parity w = cond (eqb parity 0) w (odd_parity w)

-- "and no error is marked": 1 for a parity error, else 0
unfoldable pub error_mark : ℕ → ℕ → ℕ
error_mark parity w = cond (eqb parity 0) 0 (cond (in_error w) 1 0)
