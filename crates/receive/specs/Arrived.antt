-- The block after an arrival, and what the arrival signals (paper 01, "Receive").
use Rattle.std.specs.Prelude.{ℕ, ◌*◌, cond, List, ◌==◌, slice_set}
use Rattle.word.specs.Parity.{error_mark}
use Rattle.block.specs.Layout.{word, parity, receive_mode, receive_overwritten}
use Rattle.block.specs.Modes.{fifo_mode}
use Rattle.fifos.specs.Counts.{counted}
use Rattle.fifos.specs.Mailboxes.{new_mark, unlisted}
use Rattle.status.specs.Status.{parity_error_signal}
use Rattle.fifos.specs.Fifos.{receive_offsets, entry_appended, entry_overwriting}
use Rattle.arrival.specs.Arrival.{arrival}
use Rattle.receive.specs.Entries.{entry_of, mailed}
use Rattle.arrival.specs.declared.Arrival.{Arrival}
use Rattle.arrival.specs.declared.Arrival.TheVariants.{Ignored, Filtered, Appended, Dropped, Overwriting, AlreadyListed}

-- "circular overwrites the oldest", which is counted as overwritten
abbrev pub overwriting : List ℕ → List ℕ → List ℕ
overwriting b e = slice_set (entry_overwriting receive_offsets b e) receive_overwritten (counted (word b receive_overwritten) 1)

-- the block with what a decision stores: the mailbox first, "the index is then appended .. under the same full rule"; paper 02 (v): "an index
-- that would be appended is lost and its mark is left clear"; an overwritten one "first takes the mark from the mailbox at its entry's word
-- modulo 1024 (on an arrival, before the arrival's own mailbox is written)"
unfoldable pub stored : Arrival → ℕ → ℕ → List ℕ → List ℕ
stored Ignored stamp w b = b
stored Filtered stamp w b = b
stored Appended stamp w b = entry_appended receive_offsets (mailed new_mark stamp w b) (entry_of stamp w b)
stored Dropped stamp w b = mailed 0 stamp w b
stored Overwriting stamp w b = overwriting (mailed new_mark stamp w (unlisted 1 b)) (entry_of stamp w b)
stored AlreadyListed stamp w b = mailed new_mark stamp w b

abbrev pub arrived : ℕ → ℕ → List ℕ → List ℕ
arrived stamp w b = stored (arrival w b) stamp w b

-- "4 parity error", where the word is in error
abbrev pub error_signal : ℕ → List ℕ → ℕ
error_signal w b = error_mark (word b parity) w * parity_error_signal

-- "A parity error is signalled only for a word that entered a FIFO or a mailbox."
unfoldable pub signalled : Arrival → ℕ → List ℕ → ℕ
signalled Ignored w b = 0
signalled Filtered w b = 0
signalled Appended w b = error_signal w b
signalled Dropped w b = cond (word b receive_mode == fifo_mode) 0 (error_signal w b)
signalled Overwriting w b = error_signal w b
signalled AlreadyListed w b = error_signal w b

abbrev pub arrival_signal : ℕ → List ℕ → ℕ
arrival_signal w b = signalled (arrival w b) w b
