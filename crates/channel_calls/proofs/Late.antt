-- A call on a sound channel is never refused with 1 to 3: those are the memory's refusals.
-- Assumes nothing.
use Prim.Native.Nat.{ℕ, ◌<◌}
use mathlib.Core.Path.{◌≡◌, refl}
use mathlib.Core.Bool.{Bool, true, false, cond}
use mathlib.Core.List.{List}
use native.Mathlib.Omega.{arith}
use lib.Dec.{eqb, ltb}
use Rattle.block.specs.Layout.{word, receive_size, receive_level}
use Rattle.block.specs.Ranges.{in_range}
use Rattle.block.specs.Refusals.{first}
use Rattle.settings.specs.Settings.{setting_refusal}
use Rattle.channel_calls.specs.Answers.{setting_number}
use Rattle.channel_calls.specs.Refusals.{above, below, setting_call_refusal, memory_call_refusal, status_call_refusal, test_call_refusal, receive_call_refusal, transmit_call_refusal, channel_refusal}
use Rattle.channel_calls.specs.declared.calls.SettingCall.{SettingCall}
use Rattle.channel_calls.specs.declared.calls.SettingCall.TheVariants.{WriteSetting, ReadSetting}
use Rattle.channel_calls.specs.declared.calls.MemoryCall.{MemoryCall}
use Rattle.channel_calls.specs.declared.calls.MemoryCall.TheVariants.{WriteMatch, ReadMatch, WriteSchedule, ReadSchedule, WriteMessage, ReadMessage}
use Rattle.channel_calls.specs.declared.calls.StatusCall.{StatusCall}
use Rattle.channel_calls.specs.declared.calls.StatusCall.TheVariants.{ReadStatus, ClearLatch, WriteEnable, ReadEnable, WriteLevelMask, ReadLevelMask, ReadPending}
use Rattle.channel_calls.specs.declared.calls.TestCall.{TestCall}
use Rattle.channel_calls.specs.declared.calls.TestCall.TheVariants.{Sample, ResetTest, InitiateTest}
use Rattle.channel_calls.specs.declared.calls.ReceiveCall.{ReceiveCall}
use Rattle.channel_calls.specs.declared.calls.ReceiveCall.TheVariants.{Arrive, ReadFifo, ReadMailbox}
use Rattle.channel_calls.specs.declared.calls.TransmitCall.{TransmitCall}
use Rattle.channel_calls.specs.declared.calls.TransmitCall.TheVariants.{WriteFifo, WriteAsync, Trigger, Pause, Stop, Step}
use Rattle.channel_calls.specs.declared.calls.ChannelCall.{ChannelCall}
use Rattle.channel_calls.specs.declared.calls.ChannelCall.TheVariants.{Settings, Memories, Status, Tests, Reads, Receive, Transmit}

-- a refusal behind 3, or none
abbrev pub Late : ℕ → Type 0
Late n = (n ≡ 0 → ⊥) → 3 < n

none : Late 0
none = λ refuses. absurd (refuses refl)

-- refused with n where a test holds, else by r
unless : (t : Bool) (n r : ℕ) → 3 < n → Late r → Late (cond t n r)
unless true n r h l = λ refuses. h
unless false n r h l = l

is_above : (limit x n : ℕ) → 3 < n → Late (above limit x n)
unfolding above
is_above limit x n h = unless (ltb limit x) n 0 h none

is_below : (limit x n : ℕ) → 3 < n → Late (below limit x n)
unfolding below
is_below limit x n h = unless (ltb x limit) n 0 h none

one_of : (a b : ℕ) → Late a → Late b → Late (first a b)
one_of a b p q = go (eqb a 0)
  where
    go : (t : Bool) → Late (cond t b a)
    go true = q
    go false = p

setting_late : (k : SettingCall) (b : List ℕ) → Late (setting_call_refusal k b)
unfolding setting_refusal
setting_late (WriteSetting s v) b = go (in_range (setting_number s) v) (eqb (setting_number s) receive_size) (ltb v (word b receive_level))
  where
    go : (p q r : Bool) → Late (cond p (cond q (cond r 5 0) 0) 4)
    go true true r = unless r 5 0 (omega arith) none
    go true false r = none
    go false q r = λ refuses. omega arith
setting_late (ReadSetting s) b = none

memory_late : (k : MemoryCall) → Late (memory_call_refusal k)
memory_late (WriteMatch i v) = one_of (above _ i 4) (above _ v 4) (is_above _ i 4 (omega arith)) (is_above _ v 4 (omega arith))
memory_late (ReadMatch i) = is_above _ i 4 (omega arith)
memory_late (WriteSchedule a v) = is_above _ a 4 (omega arith)
memory_late (ReadSchedule a) = is_above _ a 4 (omega arith)
memory_late (WriteMessage a v) = is_above _ a 4 (omega arith)
memory_late (ReadMessage a) = is_above _ a 4 (omega arith)

status_late : (k : StatusCall) → Late (status_call_refusal k)
status_late ReadStatus = none
status_late (ClearLatch m) = is_above _ m 4 (omega arith)
status_late (WriteEnable m) = is_above _ m 4 (omega arith)
status_late ReadEnable = none
status_late (WriteLevelMask m) = is_above _ m 4 (omega arith)
status_late ReadLevelMask = none
status_late ReadPending = none

test_late : (k : TestCall) → Late (test_call_refusal k)
test_late (Sample r) = is_above _ r 4 (omega arith)
test_late ResetTest = none
test_late (InitiateTest r) = is_above _ r 4 (omega arith)

receive_late : (k : ReceiveCall) (b : List ℕ) → Late (receive_call_refusal k b)
receive_late (Arrive w) b = none
receive_late ReadFifo b = is_below _ _ 7 (omega arith)
receive_late (ReadMailbox i) b = is_above _ i 4 (omega arith)

transmit_late : (k : TransmitCall) (b : List ℕ) → Late (transmit_call_refusal k b)
transmit_late (WriteFifo w) b = is_above _ _ 6 (omega arith)
transmit_late (WriteAsync w) b = one_of (below _ _ 5) (above _ _ 6) (is_below _ _ 5 (omega arith)) (is_above _ _ 6 (omega arith))
transmit_late Trigger b = is_below _ _ 5 (omega arith)
transmit_late Pause b = none
transmit_late Stop b = none
transmit_late Step b = none

pub late : (k : ChannelCall) (b : List ℕ) → Late (channel_refusal k b)
late (Settings k) b = setting_late k b
late (Memories k) b = memory_late k
late (Status k) b = status_late k
late (Tests k) b = test_late k
late (Reads k) b = none
late (Receive k) b = receive_late k b
late (Transmit k) b = transmit_late k b
