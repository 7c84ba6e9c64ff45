-- What a host hands to the transmitter: a word for its FIFO, an async word (paper 01, "Transmit").
use Rattle.std.specs.Prelude.{ℕ, ◌<◌, List, [], ◌∷◌, slice_set}
use Rattle.ring.specs.Ring.{slots}
use Rattle.block.specs.Layout.{word, transmit_level, async_mark, async_word}
use Rattle.fifos.specs.Fifos.{transmit_offsets, entry_appended}

-- not "written while it holds 255"
abbrev pub HasRoom : List ℕ → Type 0
HasRoom b = word b transmit_level < slots

-- "The transmit FIFO holds up to 255 and is written in any mode, transmitter on or off."
abbrev pub fifo_written : ℕ → List ℕ → List ℕ
fifo_written w b = entry_appended transmit_offsets b (w ∷ [])

-- "a waiting async word": its mark is 1
abbrev pub async_written : ℕ → List ℕ → List ℕ
async_written w b = slice_set (slice_set b async_mark 1) async_word w
