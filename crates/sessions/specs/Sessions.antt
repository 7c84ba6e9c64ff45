-- A session: a list of items as bytes, and the memory after it.
use Rattle.std.specs.Prelude.{ℕ, zero, suc, ◌+◌, ◌*◌, List, Option}
use Rattle.little_endian.specs.LittleEndian.{word_at}
use Rattle.items.specs.Items.{decoded}
use Rattle.calls.specs.Performed.{item_after}
use Rattle.registers.specs.declared.accesses.Access.{Access}

-- the bytes of an item
abbrev pub item_bytes : ℕ
item_bytes = 16

-- the item at an index: the words op, channel, a and b
unfoldable pub item_at : List ℕ → ℕ → Option Access
item_at bytes at = decoded (word_at bytes at) (word_at bytes (at + 4)) (word_at bytes (at + 8)) (word_at bytes (at + 12))

-- the memory after the first n items in order
abbrev pub performed : ℕ → List ℕ → List ℕ → List ℕ
performed zero bytes m = m
performed (suc n) bytes m = item_after (item_at bytes (item_bytes * n)) (performed n bytes m)
