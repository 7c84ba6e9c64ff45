-- What an answer to a call on a channel is, by what a history keeps of the channel before the call (paper 01, "Fates").
-- A history does not know the match set, the mailboxes, both RAMs, the masks, the transmitter's state and the async word. What is read of these,
-- and the refusals of calls on them by the range of an argument or with 6, the contract of `perform` alone says.
use Rattle.std.specs.Prelude.{ℕ, ◌<◌, ◌≡◌, Bool, true, false, cond, List, [], ◌∷◌, eqb, ltb, length, get_or, drop}
use Rattle.word.specs.Parity.{as_sent}
use Rattle.ring.specs.Ring.{slots}
use Rattle.block.specs.Layout.{word, receiver, transmitter, parity, matching, receive_mode, fifo_kind, transmit_mode, receive_size, rate}
use Rattle.block.specs.Modes.{fifo_mode, bounded, scheduled}
use Rattle.block.specs.Ranges.{in_range}
use Rattle.fifos.specs.Fifos.{Fifo}
use Rattle.settings.specs.Kept.{Kept}
use Rattle.schedule.specs.Output.{is_fifo_word}
use Rattle.schedule.specs.declared.Output.{Output}
use Rattle.schedule.specs.declared.Output.TheVariants.{Quiet, FifoWord}
use Rattle.arrival.specs.declared.Arrival.{Arrival}
use Rattle.arrival.specs.declared.Arrival.TheVariants.{Ignored, Filtered, Appended, Dropped, Overwriting, AlreadyListed}
use Rattle.channel_calls.specs.Answers.{setting_number, answer_unless}
use Rattle.channel_calls.specs.Refusals.{test_call_refusal}
use Rattle.channel_calls.specs.declared.calls.SettingCall.TheVariants.{WriteSetting, ReadSetting}
use Rattle.channel_calls.specs.declared.calls.ReadCall.TheVariants.{ReadCounts, ReadReceiveLevel, ReadTransmitLevel, ReadAsync}
use Rattle.channel_calls.specs.declared.calls.ReceiveCall.TheVariants.{Arrive, ReadFifo, ReadMailbox}
use Rattle.channel_calls.specs.declared.calls.TransmitCall.TheVariants.{WriteFifo, WriteAsync, Trigger, Pause, Stop, Step}
use Rattle.channel_calls.specs.declared.calls.ChannelCall.{ChannelCall}
use Rattle.channel_calls.specs.declared.calls.ChannelCall.TheVariants.{Settings, Memories, Status, Tests, Reads, Receive, Transmit}
use Rattle.channel_calls.specs.Answer.{Answer, Done, Refused, Value, Fates, Arrived, Stepped}
use Rattle.channel_groups.specs.Groups.{entry_answer}

-- the oldest entry held
abbrev pub oldest_of : Fifo → List ℕ
oldest_of f = get_or f.held 0 []

module _ (h : Kept) where
  -- "an argument outside its range": 4; "a size below the present level is refused with 5"
  abbrev pub write_refusal : ℕ → ℕ → ℕ
  write_refusal s v = cond (in_range s v) (cond (eqb s receive_size) (cond (ltb v (length h.receive.held)) 5 0) 0) 4

  -- "receiver off, ignored"; filtered; already listed; "appended"; "Held at size: bounded drops the arrival, circular overwrites the oldest."
  abbrev pub outcome_by : Bool → Bool → Arrival
  outcome_by filtered listed =
      cond (eqb (word h.settings receiver) 0) Ignored
      (cond filtered Filtered
      (cond listed AlreadyListed
      (cond (ltb (length h.receive.held) (word h.settings receive_size)) Appended
      (cond (eqb (word h.settings fifo_kind) bounded) Dropped Overwriting))))

  -- an arrival: only the match set tells whether it is filtered, and it is so with match on alone; only the mailbox's mark tells whether its
  -- index is already listed, and it is so in mailbox mode alone
  pub record ArrivalTold (a : Answer) : Type 0 where
    pub filtered : Bool
    pub by_match : filtered ≡ true → eqb (word h.settings matching) 0 ≡ false
    pub listed : Bool
    pub by_mode : listed ≡ true → eqb (word h.settings receive_mode) fifo_mode ≡ false
    pub answer : a ≡ Arrived (outcome_by filtered listed)
    -- one that is overwritten is there
    pub some : outcome_by filtered listed ≡ Overwriting → 0 < length h.receive.held

  -- a step that gives a word of the FIFO: not in scheduled mode, and the word is the oldest, by the parity setting
  pub record WordTold (w gap : ℕ) : Type 0 where
    pub mode : eqb (word h.settings transmit_mode) scheduled ≡ false
    pub oldest : ℕ
    pub first : h.transmit.held ≡ (oldest ∷ []) ∷ drop 1 h.transmit.held
    pub is_word : w ≡ as_sent (word h.settings parity) oldest
    pub is_gap : gap ≡ word h.settings rate

  -- a step: "Transmitter off: quiet"; outside scheduled mode it gives a word of the FIFO or is quiet
  pub record StepTold (a : Answer) : Type 0 where
    pub output : Output
    pub answer : a ≡ Stepped output
    pub off : eqb (word h.settings transmitter) 0 ≡ true → output ≡ Quiet
    pub quiet : eqb (word h.settings transmit_mode) scheduled ≡ false → is_fifo_word output ≡ false → output ≡ Quiet
    pub sends : (w gap : ℕ) → output ≡ FifoWord w gap → WordTold w gap

  -- "7 empty: receive FIFO read with none held"; "6 full: transmit FIFO written while it holds 255"; trigger "refused with 5 if the
  -- transmitter is off"; "Async is refused with 5 outside scheduled mode"; "Each is a 32-bit count that rolls over, read by a call": h has the counts as their words hold them
  abbrev pub Told : ChannelCall → Answer → Type 0
  Told (Settings (WriteSetting s v)) a = a ≡ answer_unless (write_refusal (setting_number s) v) Done
  Told (Settings (ReadSetting s)) a = a ≡ Value (word h.settings (setting_number s))
  Told (Memories k) a = Unit
  Told (Status k) a = Unit
  Told (Tests k) a = a ≡ answer_unless (test_call_refusal k) Done
  Told (Reads ReadCounts) a =
      a
      ≡ Fates h.receive.accepted h.receive.taken h.receive.cleared h.overwritten h.transmit.accepted h.transmit.taken
      h.transmit.cleared
  Told (Reads ReadReceiveLevel) a = a ≡ Value (length h.receive.held)
  Told (Reads ReadTransmitLevel) a = a ≡ Value (length h.transmit.held)
  Told (Reads ReadAsync) a = Unit
  Told (Receive (Arrive w)) a = ArrivalTold a
  Told (Receive ReadFifo) a = a ≡ answer_unless (cond (eqb (length h.receive.held) 0) 7 0) (entry_answer (oldest_of h.receive))
  Told (Receive (ReadMailbox i)) a = Unit
  Told (Transmit (WriteFifo w)) a = a ≡ answer_unless (cond (eqb (length h.transmit.held) slots) 6 0) Done
  Told (Transmit (WriteAsync w)) a = eqb (word h.settings transmit_mode) scheduled ≡ false → a ≡ Refused 5
  Told (Transmit Trigger) a = a ≡ answer_unless (cond (eqb (word h.settings transmitter) 0) 5 0) Done
  Told (Transmit Pause) a = a ≡ Done
  Told (Transmit Stop) a = a ≡ Done
  Told (Transmit Step) a = StepTold a
