-- When a call on a sound channel is refused, and by which number (paper 01, "Memory and answer numbers", rows 4 to 7).
use Rattle.std.specs.Prelude.{ℕ, List, cond, ltb}
use Rattle.ring.specs.Ring.{last_slot}
use Rattle.schedule.specs.Codes.{last_message, last}
use Rattle.block.specs.Layout.{word, receive_level, transmit_level, transmit_mode, transmitter, async_mark, last_index}
use Rattle.block.specs.Modes.{scheduled}
use Rattle.block.specs.Ranges.{all_conditions}
use Rattle.block.specs.Refusals.{first}
use Rattle.settings.specs.Settings.{setting_refusal}
use Rattle.channel_calls.specs.Answers.{setting_number}
use Rattle.channel_calls.specs.declared.calls.SettingCall.{SettingCall}
use Rattle.channel_calls.specs.declared.calls.SettingCall.TheVariants.{WriteSetting, ReadSetting}
use Rattle.channel_calls.specs.declared.calls.MemoryCall.{MemoryCall}
use Rattle.channel_calls.specs.declared.calls.MemoryCall.TheVariants.{WriteMatch, ReadMatch, WriteSchedule, ReadSchedule, WriteMessage, ReadMessage}
use Rattle.channel_calls.specs.declared.calls.StatusCall.{StatusCall}
use Rattle.channel_calls.specs.declared.calls.StatusCall.TheVariants.{ReadStatus, ClearLatch, WriteEnable, ReadEnable, WriteLevelMask, ReadLevelMask, ReadPending}
use Rattle.channel_calls.specs.declared.calls.TestCall.{TestCall}
use Rattle.channel_calls.specs.declared.calls.TestCall.TheVariants.{Sample, ResetTest, InitiateTest}
use Rattle.channel_calls.specs.declared.calls.ReceiveCall.{ReceiveCall}
use Rattle.channel_calls.specs.declared.calls.ReceiveCall.TheVariants.{Arrive, ReadFifo, ReadMailbox}
use Rattle.channel_calls.specs.declared.calls.TransmitCall.{TransmitCall}
use Rattle.channel_calls.specs.declared.calls.TransmitCall.TheVariants.{WriteFifo, WriteAsync, Trigger, Pause, Stop, Step}
use Rattle.channel_calls.specs.declared.calls.ChannelCall.{ChannelCall}
use Rattle.channel_calls.specs.declared.calls.ChannelCall.TheVariants.{Settings, Memories, Status, Tests, Reads, Receive, Transmit}

-- a number's refusal where it is above a limit, or below one; else 0
unfoldable pub above : ℕ → ℕ → ℕ → ℕ
above limit x n = cond (ltb limit x) n 0

unfoldable pub below : ℕ → ℕ → ℕ → ℕ
below limit x n = cond (ltb x limit) n 0

-- "an argument outside its range"; "a size below the present level is refused with 5"
abbrev pub setting_call_refusal : SettingCall → List ℕ → ℕ
setting_call_refusal (WriteSetting s v) b = setting_refusal (setting_number s) v b
setting_call_refusal (ReadSetting s) b = 0

-- "a RAM address 0 to 255, a match index 0 to 1023", of the schedule RAM "run to 511" (paper 02 (vii)); a mark is 0 or 1
abbrev pub memory_call_refusal : MemoryCall → ℕ
memory_call_refusal (WriteMatch i v) = first (above last_index i 4) (above 1 v 4)
memory_call_refusal (ReadMatch i) = above last_index i 4
memory_call_refusal (WriteSchedule a v) = above last a 4
memory_call_refusal (ReadSchedule a) = above last a 4
memory_call_refusal (WriteMessage a v) = above last_message a 4
memory_call_refusal (ReadMessage a) = above last_message a 4

-- "latch, enable and level masks 0 to 127"
abbrev pub status_call_refusal : StatusCall → ℕ
status_call_refusal ReadStatus = 0
status_call_refusal (ClearLatch m) = above all_conditions m 4
status_call_refusal (WriteEnable m) = above all_conditions m 4
status_call_refusal ReadEnable = 0
status_call_refusal (WriteLevelMask m) = above all_conditions m 4
status_call_refusal ReadLevelMask = 0
status_call_refusal ReadPending = 0

-- "a sample or test result is 0 or 1"
abbrev pub test_call_refusal : TestCall → ℕ
test_call_refusal (Sample r) = above 1 r 4
test_call_refusal ResetTest = 0
test_call_refusal (InitiateTest r) = above 1 r 4

-- "receive FIFO read with none held": 7; a mailbox's "index 0 to 1023"
abbrev pub receive_call_refusal : ReceiveCall → List ℕ → ℕ
receive_call_refusal (Arrive w) b = 0
receive_call_refusal ReadFifo b = below 1 (word b receive_level) 7
receive_call_refusal (ReadMailbox i) b = above last_index i 4

-- "transmit FIFO written while it holds 255, or async written while an async word already waits": 6;
-- "Async is refused with 5 outside scheduled mode"; a trigger is "refused with 5 if the transmitter is off"
abbrev pub transmit_call_refusal : TransmitCall → List ℕ → ℕ
transmit_call_refusal (WriteFifo w) b = above last_slot (word b transmit_level) 6
transmit_call_refusal (WriteAsync w) b = first (below scheduled (word b transmit_mode) 5) (above 0 (word b async_mark) 6)
transmit_call_refusal Trigger b = below 1 (word b transmitter) 5
transmit_call_refusal Pause b = 0
transmit_call_refusal Stop b = 0
transmit_call_refusal Step b = 0

abbrev pub channel_refusal : ChannelCall → List ℕ → ℕ
channel_refusal (Settings k) b = setting_call_refusal k b
channel_refusal (Memories k) b = memory_call_refusal k
channel_refusal (Status k) b = status_call_refusal k
channel_refusal (Tests k) b = test_call_refusal k
channel_refusal (Reads k) b = 0
channel_refusal (Receive k) b = receive_call_refusal k b
channel_refusal (Transmit k) b = transmit_call_refusal k b
