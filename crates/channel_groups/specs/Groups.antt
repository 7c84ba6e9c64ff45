-- What each accepted call on a channel answers and leaves, group by group, before the rule runs.
use Rattle.std.specs.Prelude.{ℕ, List, cond, eqb, get_or, set}
use Rattle.block.specs.Layout.{word, latch, enable, level_mask, receive_level, transmit_level, async_mark, async_word, receive_accepted, receive_read, receive_cleared, receive_overwritten, transmit_accepted, transmit_sent, transmit_cleared, message_ram, schedule_ram}
use Rattle.settings.specs.Settings.{written}
use Rattle.memories.specs.Matching.{matched, match_written}
use Rattle.memories.specs.Memories.{ram_read, ram_written}
use Rattle.status.specs.Status.{pending, latch_cleared}
use Rattle.restart.specs.Tests.{tested}
use Rattle.fifos.specs.Clearing.{stopped}
use Rattle.arrival.specs.Arrival.{arrival}
use Rattle.receive.specs.Arrived.{arrived, arrival_signal}
use Rattle.receive_reads.specs.Reading.{read_answer, read_after, mailbox_answer, mailbox_after}
use Rattle.transmit_controls.specs.Writes.{fifo_written, async_written}
use Rattle.transmit_controls.specs.States.{after_trigger, after_pause}
use Rattle.transmit.specs.Step.{step_output, step_signal, step_after}
use Rattle.channel_calls.specs.Answers.{setting_number}
use Rattle.channel_calls.specs.declared.calls.SettingCall.{SettingCall}
use Rattle.channel_calls.specs.declared.calls.SettingCall.TheVariants.{WriteSetting, ReadSetting}
use Rattle.channel_calls.specs.declared.calls.MemoryCall.{MemoryCall}
use Rattle.channel_calls.specs.declared.calls.MemoryCall.TheVariants.{WriteMatch, ReadMatch, WriteSchedule, ReadSchedule, WriteMessage, ReadMessage}
use Rattle.channel_calls.specs.declared.calls.StatusCall.{StatusCall}
use Rattle.channel_calls.specs.declared.calls.StatusCall.TheVariants.{ReadStatus, ClearLatch, WriteEnable, ReadEnable, WriteLevelMask, ReadLevelMask, ReadPending}
use Rattle.channel_calls.specs.declared.calls.TestCall.{TestCall}
use Rattle.channel_calls.specs.declared.calls.TestCall.TheVariants.{Sample, ResetTest, InitiateTest}
use Rattle.channel_calls.specs.declared.calls.ReadCall.{ReadCall}
use Rattle.channel_calls.specs.declared.calls.ReadCall.TheVariants.{ReadCounts, ReadReceiveLevel, ReadTransmitLevel, ReadAsync}
use Rattle.channel_calls.specs.declared.calls.ReceiveCall.{ReceiveCall}
use Rattle.channel_calls.specs.declared.calls.ReceiveCall.TheVariants.{Arrive, ReadFifo, ReadMailbox}
use Rattle.channel_calls.specs.declared.calls.TransmitCall.{TransmitCall}
use Rattle.channel_calls.specs.declared.calls.TransmitCall.TheVariants.{WriteFifo, WriteAsync, Trigger, Pause, Stop, Step}
use Rattle.channel_calls.specs.declared.calls.ChannelCall.{ChannelCall}
use Rattle.channel_calls.specs.declared.calls.ChannelCall.TheVariants.{Settings, Memories, Status, Tests, Reads, Receive, Transmit}
use Rattle.channel_calls.specs.Answer.{Answer, Done, Value, Waiting, Fates, Arrived, Entry, Stepped}

-- ---- settings: "Channel settings"

abbrev pub setting_answer : SettingCall → List ℕ → Answer
setting_answer (WriteSetting s v) b = Done
setting_answer (ReadSetting s) b = Value (word b (setting_number s))

abbrev pub setting_after : SettingCall → List ℕ → List ℕ
setting_after (WriteSetting s v) b = written (setting_number s) v b
setting_after (ReadSetting s) b = b

-- ---- match set, schedule RAM and message RAM

abbrev pub memory_answer : MemoryCall → List ℕ → Answer
memory_answer (WriteMatch i v) b = Done
memory_answer (ReadMatch i) b = Value (matched i b)
memory_answer (WriteSchedule a v) b = Done
memory_answer (ReadSchedule a) b = Value (ram_read schedule_ram a b)
memory_answer (WriteMessage a v) b = Done
memory_answer (ReadMessage a) b = Value (ram_read message_ram a b)

abbrev pub memory_after : MemoryCall → List ℕ → List ℕ
memory_after (WriteMatch i v) b = match_written i v b
memory_after (ReadMatch i) b = b
memory_after (WriteSchedule a v) b = ram_written schedule_ram a v b
memory_after (ReadSchedule a) b = b
memory_after (WriteMessage a v) b = ram_written message_ram a v b
memory_after (ReadMessage a) b = b

-- ---- masks. A status or pending read is answered from the block after the rule

abbrev pub status_answer : StatusCall → List ℕ → Answer
status_answer ReadStatus b = Done
status_answer (ClearLatch m) b = Done
status_answer (WriteEnable m) b = Done
status_answer ReadEnable b = Value (word b enable)
status_answer (WriteLevelMask m) b = Done
status_answer ReadLevelMask b = Value (word b level_mask)
status_answer ReadPending b = Done

abbrev pub status_after : StatusCall → List ℕ → List ℕ
status_after ReadStatus b = b
status_after (ClearLatch m) b = latch_cleared m b
status_after (WriteEnable m) b = set b enable m
status_after ReadEnable b = b
status_after (WriteLevelMask m) b = set b level_mask m
status_after ReadLevelMask b = b
status_after ReadPending b = b

-- ---- tests. A sample and a test reset change the module's counter alone

abbrev pub test_after : TestCall → List ℕ → List ℕ
test_after (Sample r) b = b
test_after ResetTest b = b
test_after (InitiateTest r) b = tested r b

-- ---- counts, levels and the async word

abbrev pub count_answer : ReadCall → List ℕ → Answer
count_answer ReadCounts b =
    Fates (word b receive_accepted) (word b receive_read) (word b receive_cleared) (word b receive_overwritten)
    (word b transmit_accepted) (word b transmit_sent) (word b transmit_cleared)
count_answer ReadReceiveLevel b = Value (word b receive_level)
count_answer ReadTransmitLevel b = Value (word b transmit_level)
count_answer ReadAsync b = Waiting (word b async_mark) (cond (eqb (word b async_mark) 0) 0 (word b async_word))

-- ---- arrivals and reads of what was received: "Receive"

-- the answer that an entry's three words make
abbrev pub entry_answer : List ℕ → Answer
entry_answer e = Entry (get_or e 0 0) (get_or e 1 0) (get_or e 2 0)

abbrev pub receive_answer : ReceiveCall → List ℕ → Answer
receive_answer (Arrive w) b = Arrived (arrival w b)
receive_answer ReadFifo b = entry_answer (read_answer b)
receive_answer (ReadMailbox i) b = entry_answer (mailbox_answer i b)

abbrev pub receive_after : ℕ → ReceiveCall → List ℕ → List ℕ
receive_after stamp (Arrive w) b = arrived stamp w b
receive_after stamp ReadFifo b = read_after b
receive_after stamp (ReadMailbox i) b = mailbox_after i b

abbrev pub receive_signal : ReceiveCall → List ℕ → ℕ
receive_signal (Arrive w) b = arrival_signal w b
receive_signal ReadFifo b = 0
receive_signal (ReadMailbox i) b = 0

-- ---- the transmitter: "Transmit"

abbrev pub transmit_answer : TransmitCall → List ℕ → Answer
transmit_answer (WriteFifo w) b = Done
transmit_answer (WriteAsync w) b = Done
transmit_answer Trigger b = Done
transmit_answer Pause b = Done
transmit_answer Stop b = Done
transmit_answer Step b = Stepped (step_output b)

abbrev pub transmit_after : TransmitCall → List ℕ → List ℕ
transmit_after (WriteFifo w) b = fifo_written w b
transmit_after (WriteAsync w) b = async_written w b
transmit_after Trigger b = after_trigger b
transmit_after Pause b = after_pause b
transmit_after Stop b = stopped b
transmit_after Step b = step_after b

abbrev pub transmit_signal : TransmitCall → List ℕ → ℕ
transmit_signal (WriteFifo w) b = 0
transmit_signal (WriteAsync w) b = 0
transmit_signal Trigger b = 0
transmit_signal Pause b = 0
transmit_signal Stop b = 0
transmit_signal Step b = step_signal b

-- ---- every group

-- what an accepted call answers, and what it leaves, before the rule
abbrev pub did_answer : ChannelCall → List ℕ → Answer
did_answer (Settings k) b = setting_answer k b
did_answer (Memories k) b = memory_answer k b
did_answer (Status k) b = status_answer k b
did_answer (Tests k) b = Done
did_answer (Reads k) b = count_answer k b
did_answer (Receive k) b = receive_answer k b
did_answer (Transmit k) b = transmit_answer k b

abbrev pub did_leave : ℕ → ChannelCall → List ℕ → List ℕ
did_leave stamp (Settings k) b = setting_after k b
did_leave stamp (Memories k) b = memory_after k b
did_leave stamp (Status k) b = status_after k b
did_leave stamp (Tests k) b = test_after k b
did_leave stamp (Reads k) b = b
did_leave stamp (Receive k) b = receive_after stamp k b
did_leave stamp (Transmit k) b = transmit_after k b

-- the conditions that it signals: "4 and 5 hold only during the call that signals them"
abbrev pub did_signal : ChannelCall → List ℕ → ℕ
did_signal (Settings k) b = 0
did_signal (Memories k) b = 0
did_signal (Status k) b = 0
did_signal (Tests k) b = 0
did_signal (Reads k) b = 0
did_signal (Receive k) b = receive_signal k b
did_signal (Transmit k) b = transmit_signal k b

-- "A status or pending read shows what the rule left after it"
abbrev pub status_shown : StatusCall → List ℕ → Answer → Answer
status_shown ReadStatus b a = Value (word b latch)
status_shown (ClearLatch m) b a = a
status_shown (WriteEnable m) b a = a
status_shown ReadEnable b a = a
status_shown (WriteLevelMask m) b a = a
status_shown ReadLevelMask b a = a
status_shown ReadPending b a = Value (pending b)
