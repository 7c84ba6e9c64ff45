-- What becomes of an arriving word, from the block as it finds it (paper 01, "Receive").
use Rattle.std.specs.Prelude.{ℕ, List, Bool, false, cond, eqb, ltb}
use Rattle.word.specs.Word.{index}
use Rattle.block.specs.Layout.{word, receiver, matching, fifo_kind, receive_mode, receive_level, receive_size}
use Rattle.block.specs.Modes.{fifo_mode, bounded}
use Rattle.memories.specs.Matching.{matched}
use Rattle.fifos.specs.Mailboxes.{is_new}
use Rattle.arrival.specs.declared.Arrival.{Arrival}
use Rattle.arrival.specs.declared.Arrival.TheVariants.{Ignored, Filtered, Appended, Dropped, Overwriting, AlreadyListed}

-- "The answer, number 0, names which happened": by these numbers
abbrev pub outcome : Arrival → ℕ
outcome Ignored = 0
outcome Filtered = 1
outcome Appended = 2
outcome Dropped = 3
outcome Overwriting = 4
outcome AlreadyListed = 5

-- "Match on and index not in the match set, filtered."
unfoldable pub filtered : ℕ → List ℕ → Bool
filtered w b = cond (eqb (word b matching) 0) false (eqb (matched (index w) b) 0)

-- paper 02 (v): "An index is now appended only if its mailbox did not already have the new mark."
unfoldable pub listed : ℕ → List ℕ → Bool
listed w b = cond (eqb (word b receive_mode) fifo_mode) false (is_new (index w) b)

-- "receiver off, ignored"; filtered; already listed; "appended"; "Held at size: bounded drops the arrival, circular overwrites the oldest."
unfoldable pub arrival : ℕ → List ℕ → Arrival
arrival w b =
    cond (eqb (word b receiver) 0) Ignored
    (cond (filtered w b) Filtered
    (cond (listed w b) AlreadyListed
    (cond (ltb (word b receive_level) (word b receive_size)) Appended
    (cond (eqb (word b fifo_kind) bounded) Dropped Overwriting))))
