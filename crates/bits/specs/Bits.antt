-- One bit of a word.
use Rattle.std.specs.Prelude.{ℕ, ◌+◌, ◌*◌, ◌/◌, ◌%◌, ◌^◌}

-- bit k of a word, and the word with v in the place of bit k
abbrev pub bit_at : ℕ → ℕ → ℕ
bit_at w k = w / 2 ^ k % 2

abbrev pub with_bit : ℕ → ℕ → ℕ → ℕ
with_bit w k v = (w / 2 ^ k / 2 * 2 + v) * 2 ^ k + w % 2 ^ k
