-- What an access does to the receive FIFO of channel ch, by its answer and the receive mode before it: the table of effects (`effect`), in the
-- shape of the code.
use Rattle.std.specs.Prelude.{ℕ, cond, eqb}
use Rattle.block.specs.Modes.{fifo_mode}
use Rattle.arrival.specs.declared.Arrival.{Arrival}
use Rattle.arrival.specs.declared.Arrival.TheVariants.{Ignored, Filtered, Appended, Dropped, Overwriting, AlreadyListed}
use Rattle.channel_calls.specs.Answers.{is_refused}
use Rattle.channel_calls.specs.declared.calls.Setting.{Setting}
use Rattle.channel_calls.specs.declared.calls.Setting.TheVariants.{Receiver, Transmitter, Parity, Match, Stamps, ReceiveMode, FifoKind, TransmitMode, ReceiveSize, AlmostFull, AlmostEmpty, Rate}
use Rattle.channel_calls.specs.declared.calls.SettingCall.{SettingCall}
use Rattle.channel_calls.specs.declared.calls.SettingCall.TheVariants.{WriteSetting, ReadSetting}
use Rattle.channel_calls.specs.declared.calls.TestCall.{TestCall}
use Rattle.channel_calls.specs.declared.calls.TestCall.TheVariants.{Sample, ResetTest, InitiateTest}
use Rattle.channel_calls.specs.declared.calls.ReceiveCall.{ReceiveCall}
use Rattle.channel_calls.specs.declared.calls.ReceiveCall.TheVariants.{Arrive, ReadFifo, ReadMailbox}
use Rattle.channel_calls.specs.declared.calls.ChannelCall.{ChannelCall}
use Rattle.channel_calls.specs.declared.calls.ChannelCall.TheVariants.{Settings, Memories, Status, Tests, Reads, Receive, Transmit}
use Rattle.channel_calls.specs.Answer.{Answer}
use Rattle.channel_laws.specs.Effects.{by_answer}
use Rattle.fifos.specs.Fifos.{Change, Stays, Adds, Overwrites, Takes, Clears, Begins}
use Rattle.module.specs.declared.calls.Call.{Call}
use Rattle.module.specs.declared.calls.Call.TheVariants.{PowerUp, Reset, Wide, On}
use Rattle.registers.specs.declared.accesses.Access.{Access}
use Rattle.registers.specs.declared.accesses.Access.TheVariants.{Direct, ReadRegister, WriteRegister}
use Rattle.receive_changes.specs.declared.Happening.{Happening}
use Rattle.receive_changes.specs.declared.Happening.TheVariants.{Nothing, Enters, EntersOverOldest, OldestRead, AllCleared, AllBegun}
use Rattle.receive_changes.specs.declared.Seen.{Seen}

-- a change of a FIFO, its entry aside
abbrev pub happening : Change → Happening
happening Stays = Nothing
happening (Adds e) = Enters
happening (Overwrites e) = EntersOverOldest
happening (Takes e) = OldestRead
happening Clears = AllCleared
happening Begins = AllBegun

abbrev pub seen_as : Happening → ℕ → Seen
seen_as h mode = record { happening = h; mode = mode }

-- "Any other call .. nothing"
abbrev pub left : ℕ → Seen
left mode = seen_as Nothing mode

-- "A change of receive mode clears the receive FIFO; writing the same mode doesn't."
abbrev pub by_mode : ℕ → ℕ → Seen
by_mode mode v = cond (eqb mode v) (left v) (seen_as AllCleared v)

abbrev pub by_setting : ℕ → Setting → ℕ → Seen
by_setting mode Receiver v = left mode
by_setting mode Transmitter v = left mode
by_setting mode Parity v = left mode
by_setting mode Match v = left mode
by_setting mode Stamps v = left mode
by_setting mode ReceiveMode v = by_mode mode v
by_setting mode FifoKind v = left mode
by_setting mode TransmitMode v = left mode
by_setting mode ReceiveSize v = left mode
by_setting mode AlmostFull v = left mode
by_setting mode AlmostEmpty v = left mode
by_setting mode Rate v = left mode

abbrev pub by_settings : ℕ → SettingCall → Seen
by_settings mode (WriteSetting s v) = by_setting mode s v
by_settings mode (ReadSetting s) = left mode

-- "Initiated test of a channel: both FIFOs are cleared"
abbrev pub by_test : ℕ → TestCall → Seen
by_test mode (Sample r) = left mode
by_test mode ResetTest = left mode
by_test mode (InitiateTest r) = seen_as AllCleared mode

-- "Arrival answered as appended: the entry .. is added; as overwriting: the oldest is overwritten first, then the same."
abbrev pub by_outcome : ℕ → Arrival → Seen
by_outcome mode Ignored = left mode
by_outcome mode Filtered = left mode
by_outcome mode Appended = seen_as Enters mode
by_outcome mode Dropped = left mode
by_outcome mode Overwriting = seen_as EntersOverOldest mode
by_outcome mode AlreadyListed = left mode

abbrev pub by_arrival : ℕ → Answer → Seen
by_arrival mode a = by_answer (left mode) (by_outcome mode) (λ e. left mode) (λ o. left mode) a

-- "FIFO read: the oldest is taken out, and is the answer's entry."
abbrev pub by_read : ℕ → Answer → Seen
by_read mode a = by_answer (left mode) (λ o. left mode) (λ e. seen_as OldestRead mode) (λ o. left mode) a

abbrev pub by_receive : ℕ → ReceiveCall → Answer → Seen
by_receive mode (Arrive w) a = by_arrival mode a
by_receive mode ReadFifo a = by_read mode a
by_receive mode (ReadMailbox i) a = left mode

-- an accepted call on the channel
abbrev pub on_called : ℕ → ChannelCall → Answer → Seen
on_called mode (Settings k) a = by_settings mode k
on_called mode (Memories k) a = left mode
on_called mode (Status k) a = left mode
on_called mode (Tests k) a = by_test mode k
on_called mode (Reads k) a = left mode
on_called mode (Receive k) a = by_receive mode k a
on_called mode (Transmit k) a = left mode

abbrev pub on_channel : ℕ → ℕ → ℕ → ChannelCall → Answer → Seen
on_channel ch mode named k a = cond (eqb named ch) (on_called mode k a) (left mode)

-- an accepted call: power-up and module reset leave "FIFO mode"
abbrev pub by_call : ℕ → ℕ → Call → Answer → Seen
by_call ch mode (PowerUp n) a = seen_as AllBegun fifo_mode
by_call ch mode Reset a = seen_as AllCleared fifo_mode
by_call ch mode (Wide k) a = left mode
by_call ch mode (On named k) a = on_channel ch mode named k a

-- "any refused one: nothing"
abbrev pub directly : ℕ → ℕ → Call → Answer → Seen
directly ch mode c a = cond (is_refused a) (left mode) (by_call ch mode c a)

abbrev pub by_access : ℕ → ℕ → Access → Answer → Seen
by_access ch mode (Direct c) a = directly ch mode c a
by_access ch mode (ReadRegister x) a = left mode
by_access ch mode (WriteRegister x v) a = left mode
