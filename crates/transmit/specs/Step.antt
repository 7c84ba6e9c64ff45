-- One step of the transmitter (paper 01, "Transmit": "One step gives one output.").
use Rattle.std.specs.Prelude.{ℕ, ◌*◌, cond, List, ◌==◌, slice_index, slice_set}
use Rattle.word.specs.Parity.{as_sent}
use Rattle.block.specs.Layout.{word, transmitter, parity, transmit_mode, rate, transmit_level, state, address, async_mark, message_mark, async_word, message_ram, schedule_ram}
use Rattle.fifos.specs.Fifos.{transmit_offsets, oldest_entry, entry_taken}
use Rattle.memories.specs.Memories.{ram_read}
use Rattle.status.specs.Status.{interrupt_signal}
use Rattle.schedule.specs.Codes.{idle, running, paused, message_address}
use Rattle.schedule.specs.Schedule.{stepped}
use Rattle.schedule.specs.declared.Place.{Place}
use Rattle.schedule.specs.declared.Outcome.{Outcome}
use Rattle.schedule.specs.declared.Output.{Output}
use Rattle.schedule.specs.declared.Output.TheVariants.{Quiet, FifoWord}
use Rattle.block.specs.Modes.{immediate, triggered}

-- ---- a word of the FIFO

-- the oldest word: an entry has one
abbrev pub oldest_word : List ℕ → ℕ
oldest_word b = slice_index (oldest_entry transmit_offsets b) 0

-- "the oldest word and a gap of the rate; quiet if empty"
unfoldable pub send_output : List ℕ → Output
send_output b = cond (word b transmit_level == 0) Quiet (FifoWord (as_sent (word b parity) (oldest_word b)) (word b rate))

unfoldable pub send_after : List ℕ → List ℕ
send_after b = cond (word b transmit_level == 0) b (entry_taken transmit_offsets b)

-- "Immediate: unless paused"
unfoldable pub immediate_output : List ℕ → Output
immediate_output b = cond (word b state == paused) Quiet (send_output b)

unfoldable pub immediate_after : List ℕ → List ℕ
immediate_after b = cond (word b state == paused) b (send_after b)

-- "Triggered: the same while running; a step that finds it empty is quiet and makes it idle."
unfoldable pub triggered_output : List ℕ → Output
triggered_output b = cond (word b state == running) (send_output b) Quiet

unfoldable pub triggered_after : List ℕ → List ℕ
triggered_after b = cond (word b state == running) (cond (word b transmit_level == 0) (slice_set b state idle) (send_after b)) b

-- ---- a command of the schedule

-- where the schedule stands
abbrev pub place : List ℕ → Place
place b =
    record {
      state = word b state;
      address = word b address;
      waiting = word b async_mark;
      word = word b async_word;
      mark = word b message_mark;
    }

-- "one command of the schedule RAM", and "message RAM at bits 7 to 0"
abbrev pub command : List ℕ → ℕ
command b = ram_read schedule_ram (word b address) b

abbrev pub message : List ℕ → ℕ
message b = ram_read message_ram (message_address (command b)) b

-- "Scheduled: while running, one command"
unfoldable pub scheduled_outcome : List ℕ → Outcome
scheduled_outcome b = stepped (place b) (word b parity) (command b) (message b)

-- the block with the state, the address and the marks of a place: the async word stays
abbrev pub placed : Place → List ℕ → List ℕ
placed p b = slice_set (slice_set (slice_set (slice_set b state p.state) address p.address) async_mark p.waiting) message_mark p.mark

abbrev pub scheduled_after : List ℕ → List ℕ
scheduled_after b = placed (scheduled_outcome b).place b

-- "5 interrupt: signals condition 5"
abbrev pub scheduled_signal : List ℕ → ℕ
scheduled_signal b = (scheduled_outcome b).signal * interrupt_signal

-- ---- a step

-- by the mode; "Transmitter off: quiet"
abbrev pub by_mode : {A : Type 0} → List ℕ → A → A → A → A → A
by_mode b off i t s =
    cond (word b transmitter == 0) off (cond (word b transmit_mode == immediate) i (cond (word b transmit_mode == triggered) t s))

unfoldable pub step_output : List ℕ → Output
step_output b = by_mode b Quiet (immediate_output b) (triggered_output b) (scheduled_outcome b).output

unfoldable pub step_signal : List ℕ → ℕ
step_signal b = by_mode b 0 0 0 (scheduled_signal b)

unfoldable pub step_after : List ℕ → List ℕ
step_after b = by_mode b b (immediate_after b) (triggered_after b) (scheduled_after b)
