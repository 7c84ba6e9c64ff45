-- The schedule RAM and the message RAM (paper 01, "Transmit": "Message RAM is 256 words"; paper 02 (vii): "Raise schedule RAM to 512").
use Rattle.std.specs.Prelude.{ℕ, ◌+◌, List, set}
use Rattle.block.specs.Layout.{word}

-- the word at an address of the RAM that starts at `ram`
abbrev pub ram_read : ℕ → ℕ → List ℕ → ℕ
ram_read ram a b = word b (ram + a)

abbrev pub ram_written : ℕ → ℕ → ℕ → List ℕ → List ℕ
ram_written ram a v b = set b (ram + a) v
