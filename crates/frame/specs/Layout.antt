-- Where each word stands in a module's lent memory (paper 01, "Memory and answer numbers"; docs/MEMORY.md).
use Rattle.std.specs.Prelude.{ℕ, ◌+◌, ◌*◌, ◌-◌, ◌≤◌, List, ◌++◌, take, drop}
use Rattle.block.specs.Layout.{block_words}

-- the module part
abbrev pub count : ℕ
count = 0

abbrev pub stamp : ℕ
stamp = count + 1

abbrev pub resolution : ℕ
resolution = stamp + 1

abbrev pub threshold : ℕ
threshold = resolution + 1

-- "the module's twelve counters", those of unused channels too
abbrev pub counters : ℕ
counters = threshold + 1

-- "A module has 1 to 12 channels"
abbrev pub most : ℕ
most = 12

-- paper 02 (vii): "The module part gains a layout number": where it stands, and its value in this layout
abbrev pub layout : ℕ
layout = counters + most

abbrev pub layout_number : ℕ
layout_number = 2

abbrev pub module_words : ℕ
module_words = layout + 1

-- the words that n channels need
abbrev pub need : ℕ → ℕ
need n = module_words + n * block_words

-- memory of n words holds a module of k channels, and k is a number of channels
pub record Framed (n k : ℕ) : Type 0 where
  pub low : 1 ≤ k
  pub high : k ≤ most
  pub room : need k ≤ n

-- where a channel's block begins
abbrev pub base : ℕ → ℕ
base ch = module_words + (ch - 1) * block_words

-- a channel's block, and the memory with another block in its place
unfoldable pub block : List ℕ → ℕ → List ℕ
block m ch = take block_words (drop (base ch) m)

unfoldable pub with_block : List ℕ → ℕ → List ℕ → List ℕ
with_block m ch b = take (base ch) m ++ (b ++ drop block_words (drop (base ch) m))
