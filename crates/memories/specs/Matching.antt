-- The match set: a mark for each of the 1,024 SDI/Label indices, in 32 words of 32 bits (paper 01, "Receive").
use Rattle.std.specs.Prelude.{ℕ, ◌+◌, ◌/◌, ◌%◌, List, set}
use Rattle.bits.specs.Bits.{bit_at, with_bit}
use Rattle.block.specs.Layout.{word, match_set}

-- the word that has an index's mark
abbrev pub match_at : ℕ → ℕ
match_at index = match_set + index / 32

-- 1 where the index is in the match set, else 0
abbrev pub matched : ℕ → List ℕ → ℕ
matched index b = bit_at (word b (match_at index)) (index % 32)

-- the index put in (1) or out (0)
abbrev pub match_written : ℕ → ℕ → List ℕ → List ℕ
match_written index v b = set b (match_at index) (with_bit (word b (match_at index)) (index % 32) v)
