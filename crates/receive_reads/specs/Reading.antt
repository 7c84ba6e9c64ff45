-- Reading the receive FIFO and a mailbox (paper 01, "Receive").
use Rattle.std.specs.Prelude.{ℕ, ◌%◌, List, [], ◌∷◌}
use Rattle.ring.specs.Ring.{words}
use Rattle.fifos.specs.Fifos.{receive_offsets, oldest_entry, entry_taken}
use Rattle.fifos.specs.Mailboxes.{mailbox_at, mark_taken}

-- "of a stored status the two low bits count"
abbrev pub shown : List ℕ → List ℕ
shown [] = []
shown (status ∷ e) = status % 4 ∷ e

-- "Reading the FIFO returns the oldest entry."
abbrev pub read_answer : List ℕ → List ℕ
read_answer b = shown (oldest_entry receive_offsets b)

abbrev pub read_after : List ℕ → List ℕ
read_after b = entry_taken receive_offsets b

-- "Reading a mailbox (index 0 to 1023, any mode) returns it"
abbrev pub mailbox_answer : ℕ → List ℕ → List ℕ
mailbox_answer index b = shown (words b (mailbox_at index) 3)

-- "and clears D1 (of the stored status only D0 stays)"
abbrev pub mailbox_after : ℕ → List ℕ → List ℕ
mailbox_after index b = mark_taken index b
