-- The number of each setting, and the paper's number and values for each answer.
use Rattle.std.specs.Prelude.{ℕ, List, [], ◌∷◌, Bool, true, false, cond, eqb, replicate}
use Rattle.block.specs.Layout.{receiver, transmitter, parity, matching, stamps, receive_mode, fifo_kind, transmit_mode, receive_size, almost_full, almost_empty, rate}
use Rattle.arrival.specs.Arrival.{outcome}
use Rattle.schedule.specs.Output.{values}
use Rattle.channel_calls.specs.declared.calls.Setting.{Setting}
use Rattle.channel_calls.specs.declared.calls.Setting.TheVariants.{Receiver, Transmitter, Parity, Match, Stamps, ReceiveMode, FifoKind, TransmitMode, ReceiveSize, AlmostFull, AlmostEmpty, Rate}
use Rattle.channel_calls.specs.declared.calls.SettingCall.{SettingCall}
use Rattle.channel_calls.specs.declared.calls.SettingCall.TheVariants.{WriteSetting, ReadSetting}
use Rattle.channel_calls.specs.declared.calls.MemoryCall.{MemoryCall}
use Rattle.channel_calls.specs.declared.calls.MemoryCall.TheVariants.{WriteMatch, ReadMatch, WriteSchedule, ReadSchedule, WriteMessage, ReadMessage}
use Rattle.channel_calls.specs.declared.calls.StatusCall.{StatusCall}
use Rattle.channel_calls.specs.declared.calls.StatusCall.TheVariants.{ReadStatus, ClearLatch, WriteEnable, ReadEnable, WriteLevelMask, ReadLevelMask, ReadPending}
use Rattle.channel_calls.specs.declared.calls.ReadCall.{ReadCall}
use Rattle.channel_calls.specs.declared.calls.ReadCall.TheVariants.{ReadCounts, ReadReceiveLevel, ReadTransmitLevel, ReadAsync}
use Rattle.channel_calls.specs.declared.calls.ReceiveCall.{ReceiveCall}
use Rattle.channel_calls.specs.declared.calls.ReceiveCall.TheVariants.{Arrive, ReadFifo, ReadMailbox}
use Rattle.channel_calls.specs.declared.calls.TransmitCall.{TransmitCall}
use Rattle.channel_calls.specs.declared.calls.TransmitCall.TheVariants.{WriteFifo, WriteAsync, Trigger, Pause, Stop, Step}
use Rattle.channel_calls.specs.declared.calls.ChannelCall.{ChannelCall}
use Rattle.channel_calls.specs.declared.calls.ChannelCall.TheVariants.{Settings, Memories, Status, Tests, Reads, Receive, Transmit}
use Rattle.channel_calls.specs.Answer.{Answer, Done, Refused, Value, Waiting, Fates, Arrived, Entry, Stepped}

-- a setting's number is its offset in the block
abbrev pub setting_number : Setting → ℕ
setting_number Receiver = receiver
setting_number Transmitter = transmitter
setting_number Parity = parity
setting_number Match = matching
setting_number Stamps = stamps
setting_number ReceiveMode = receive_mode
setting_number FifoKind = fifo_kind
setting_number TransmitMode = transmit_mode
setting_number ReceiveSize = receive_size
setting_number AlmostFull = almost_full
setting_number AlmostEmpty = almost_empty
setting_number Rate = rate

-- how many values a call answers beside the number
abbrev pub setting_values : SettingCall → ℕ
setting_values (WriteSetting s v) = 0
setting_values (ReadSetting s) = 1

abbrev pub memory_values : MemoryCall → ℕ
memory_values (WriteMatch i v) = 0
memory_values (ReadMatch i) = 1
memory_values (WriteSchedule a v) = 0
memory_values (ReadSchedule a) = 1
memory_values (WriteMessage a v) = 0
memory_values (ReadMessage a) = 1

abbrev pub status_values : StatusCall → ℕ
status_values ReadStatus = 1
status_values (ClearLatch m) = 0
status_values (WriteEnable m) = 0
status_values ReadEnable = 1
status_values (WriteLevelMask m) = 0
status_values ReadLevelMask = 1
status_values ReadPending = 1

abbrev pub read_values : ReadCall → ℕ
read_values ReadCounts = 7
read_values ReadReceiveLevel = 1
read_values ReadTransmitLevel = 1
read_values ReadAsync = 2

abbrev pub receive_values : ReceiveCall → ℕ
receive_values (Arrive w) = 1
receive_values ReadFifo = 3
receive_values (ReadMailbox i) = 3

abbrev pub transmit_values : TransmitCall → ℕ
transmit_values (WriteFifo w) = 0
transmit_values (WriteAsync w) = 0
transmit_values Trigger = 0
transmit_values Pause = 0
transmit_values Stop = 0
transmit_values Step = 4

abbrev pub channel_values : ChannelCall → ℕ
channel_values (Settings k) = setting_values k
channel_values (Memories k) = memory_values k
channel_values (Status k) = status_values k
channel_values (Tests k) = 0
channel_values (Reads k) = read_values k
channel_values (Receive k) = receive_values k
channel_values (Transmit k) = transmit_values k

-- an accepted call's answer, or its refusal
abbrev pub answer_unless : ℕ → Answer → Answer
answer_unless refusal a = cond (eqb refusal 0) a (Refused refusal)

abbrev pub is_refused : Answer → Bool
is_refused Done = false
is_refused (Refused r) = true
is_refused (Value x) = false
is_refused (Waiting m w) = false
is_refused (Fates a r c o t s d) = false
is_refused (Arrived a) = false
is_refused (Entry s w t) = false
is_refused (Stepped o) = false

-- the paper's number of an answer, and its values: 0 is "done"; "A refusal .. and every other result is 0"
abbrev pub numbers_of : ℕ → Answer → List ℕ
numbers_of n Done = 0 ∷ []
numbers_of n (Refused r) = r ∷ replicate n 0
numbers_of n (Value x) = 0 ∷ x ∷ []
numbers_of n (Waiting m w) = 0 ∷ m ∷ w ∷ []
numbers_of n (Fates a r c o t s d) = 0 ∷ a ∷ r ∷ c ∷ o ∷ t ∷ s ∷ d ∷ []
numbers_of n (Arrived a) = 0 ∷ outcome a ∷ []
numbers_of n (Entry s w t) = 0 ∷ s ∷ w ∷ t ∷ []
numbers_of n (Stepped o) = 0 ∷ values o
