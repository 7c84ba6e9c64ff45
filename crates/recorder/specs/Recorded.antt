-- "We want each arrival on disk." (paper 02, (ii)): the record that an item of a session leaves.
use Rattle.std.specs.Prelude.{ℕ, ◌+◌, Bool, false, cond, List, [], eqb, length, get_or}
use Rattle.little_endian.specs.LittleEndian.{word_at}
use Rattle.items.specs.Items.{decoded}
use Rattle.calls.specs.Performed.{item_numbers, item_after}
use Rattle.sessions.specs.Sessions.{item_at}
use Rattle.capture.specs.Format.{Record, made, arrival}
use Rattle.capture.specs.Write.{written, bytes_after}

-- the ops of an arrival and of a stamp read
abbrev pub arrive : ℕ
arrive = 128

abbrev pub read_stamp : ℕ
read_stamp = 5

-- what a stamp read gives on a memory
unfoldable pub stamp_of : List ℕ → ℕ
stamp_of m = get_or (item_numbers (decoded read_stamp 0 0 0) m) 1 0

-- an arrival call that was accepted, whatever its outcome
unfoldable pub recorded : List ℕ → ℕ → List ℕ → Bool
recorded bytes at m = cond (eqb (word_at bytes at) arrive) (eqb (get_or (item_numbers (item_at bytes at) m) 0 0) 0) false

-- its record: channel and word of the item, and the stamp at that moment
unfoldable pub record_at : List ℕ → ℕ → List ℕ → Record
record_at bytes at m = made arrival (word_at bytes (at + 4)) (word_at bytes (at + 8)) (stamp_of (item_after (item_at bytes at) m)) []

-- the output bytes afterwards, and how many of them the record has
unfoldable pub out_after : List ℕ → ℕ → List ℕ → List ℕ → List ℕ
unfolding recorded record_at
out_after bytes at m out = cond (recorded bytes at m) (bytes_after out 0 (record_at bytes at m)) out

unfoldable pub count_of : List ℕ → ℕ → List ℕ → List ℕ → ℕ
unfolding recorded record_at
count_of bytes at m out = cond (recorded bytes at m) (written (length out) 0 (record_at bytes at m)).next.offset 0
