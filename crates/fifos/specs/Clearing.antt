-- Clearing the FIFOs and stopping the transmitter (paper 01, "Fates", "Transmit" and "Channel settings").
use Rattle.std.specs.Prelude.{ℕ, List, slice_set}
use Rattle.schedule.specs.Codes.{idle}
use Rattle.fifos.specs.Counts.{counted}
use Rattle.fifos.specs.Mailboxes.{unlisted}
use Rattle.block.specs.Layout.{word, receive_level, receive_cleared, transmit_level, transmit_cleared, state, address, async_mark, message_mark}

-- "Clearing adds the level it found": a FIFO with its level and its cleared count at these words
abbrev pub cleared : ℕ → ℕ → List ℕ → List ℕ
cleared level count b = slice_set (slice_set b count (counted (word b count) (word b level))) level 0

-- paper 02 (v): an index "cleared from it in mailbox mode .. first takes the mark from the mailbox at its entry's word modulo 1024"
abbrev pub receive_fifo_cleared : List ℕ → List ℕ
receive_fifo_cleared b = cleared receive_level receive_cleared (unlisted (word b receive_level) b)

abbrev pub transmit_fifo_cleared : List ℕ → List ℕ
transmit_fifo_cleared b = cleared transmit_level transmit_cleared b

-- "to idle, command 0"
abbrev pub stopped : List ℕ → List ℕ
stopped b = slice_set (slice_set b state idle) address 0

-- paper 02 (i): a message word that the schedule sent last is forgotten
abbrev pub unmarked : List ℕ → List ℕ
unmarked b = slice_set b message_mark 0

-- "idle at command 0 and drops the async word; its FIFO stays"; paper 02 (i), of the mark: "transmitter off and a change of transmit mode forget it"
abbrev pub forgotten : List ℕ → List ℕ
forgotten b = slice_set (unmarked (stopped b)) async_mark 0
