-- The mailboxes, their new marks, and the index list's hold on them (paper 01, "Receive"; paper 02 (v)).
use Rattle.std.specs.Prelude.{ℕ, zero, suc, ◌+◌, ◌*◌, ◌/◌, ◌%◌, Bool, cond, List, ◌==◌, slice_set}
use Rattle.ring.specs.Ring.{slot}
use Rattle.block.specs.Layout.{word, receive_mode, receive_position, receive_ring, indexes, mailboxes}
use Rattle.block.specs.Modes.{fifo_mode}

-- the first word of the mailbox of an index: its status
abbrev pub mailbox_at : ℕ → ℕ
mailbox_at index = mailboxes + 3 * index

-- "D1 new"
abbrev pub new_mark : ℕ
new_mark = 2

-- whether the mailbox of an index has the new mark
abbrev pub is_new : ℕ → List ℕ → Bool
is_new index b = word b (mailbox_at index) / new_mark % 2 == 1

-- "clears D1 (of the stored status only D0 stays)": what a mailbox read leaves, and what "takes the mark" leaves
abbrev pub mark_taken : ℕ → List ℕ → List ℕ
mark_taken index b = slice_set b (mailbox_at index) (word b (mailbox_at index) % 2)

-- "the mailbox at its entry's word modulo 1024": of entry k of the list, the oldest being 0
abbrev pub listed_index : ℕ → List ℕ → ℕ
listed_index k b = word b (slot receive_ring (word b receive_position + k) + 1) % indexes

-- the mailboxes of the oldest n entries lose their marks, oldest first
unfoldable pub marks_taken : ℕ → List ℕ → List ℕ
marks_taken zero b = b
marks_taken (suc n) b = mark_taken (listed_index n (marks_taken n b)) (marks_taken n b)

-- "in mailbox mode": the oldest n entries; in FIFO mode an entry has no mailbox
unfoldable pub unlisted : ℕ → List ℕ → List ℕ
unlisted n b = cond (word b receive_mode == fifo_mode) b (marks_taken n b)
