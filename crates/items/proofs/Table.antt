-- The table of ops, row by row: the definition gives each row its call, and every other op none.
-- Assumes nothing.
use Prim.Native.Nat.{ℕ, ◌<◌, ◌≤◌}
use mathlib.Core.Path.{◌≡◌, refl}
use native.Mathlib.Omega.{arith}
use Rattle.std.proofs.Common.{None, Some}
use borrow.Author.Tests.{lt-ltb, le-ltb, ne_eqb}
use Rattle.channel_calls.specs.declared.calls.Setting.TheVariants.{Receiver, Transmitter, Parity, Match, Stamps, ReceiveMode, FifoKind, TransmitMode, ReceiveSize, AlmostFull, AlmostEmpty, Rate}
use Rattle.channel_calls.specs.declared.calls.SettingCall.TheVariants.{WriteSetting, ReadSetting}
use Rattle.channel_calls.specs.declared.calls.MemoryCall.TheVariants.{WriteMatch, ReadMatch, WriteSchedule, ReadSchedule, WriteMessage, ReadMessage}
use Rattle.channel_calls.specs.declared.calls.StatusCall.TheVariants.{ReadStatus, ClearLatch, WriteEnable, ReadEnable, WriteLevelMask, ReadLevelMask, ReadPending}
use Rattle.channel_calls.specs.declared.calls.TestCall.TheVariants.{Sample, ResetTest, InitiateTest}
use Rattle.channel_calls.specs.declared.calls.ReadCall.TheVariants.{ReadCounts, ReadReceiveLevel, ReadTransmitLevel, ReadAsync}
use Rattle.channel_calls.specs.declared.calls.ReceiveCall.TheVariants.{Arrive, ReadFifo, ReadMailbox}
use Rattle.channel_calls.specs.declared.calls.TransmitCall.TheVariants.{WriteFifo, WriteAsync, Trigger, Pause, Stop, Step}
use Rattle.channel_calls.specs.declared.calls.ChannelCall.TheVariants.{Settings, Memories, Status, Tests, Reads, Receive, Transmit}
use Rattle.wide.specs.declared.calls.WideCall.TheVariants.{AdvanceStamp, ZeroStamp, ReadStamp, WriteResolution, ReadResolution, WriteThreshold, ReadThreshold}
use Rattle.module.specs.declared.calls.Call.TheVariants.{PowerUp, Reset, Wide, On}
use Rattle.registers.specs.declared.accesses.Access.TheVariants.{Direct, ReadRegister, WriteRegister}
use Rattle.items.specs.Items.{wide_of, switch_of, setting_of, setting_item, receive_of, match_of, transmit_of, ram_of, test_of, status_of, read_of, channel_of, register_item, decoded}

-- ops 1 to 9
pub wide_rows : (ch a b : ℕ) →
    (decoded 1 ch a b ≡ Some (Direct (PowerUp a))) ×
    (decoded 2 ch a b ≡ Some (Direct Reset)) ×
    (decoded 3 ch a b ≡ Some (Direct (Wide (AdvanceStamp a)))) ×
    (decoded 4 ch a b ≡ Some (Direct (Wide ZeroStamp))) ×
    (decoded 5 ch a b ≡ Some (Direct (Wide ReadStamp))) ×
    (decoded 6 ch a b ≡ Some (Direct (Wide (WriteResolution a)))) ×
    (decoded 7 ch a b ≡ Some (Direct (Wide ReadResolution))) ×
    (decoded 8 ch a b ≡ Some (Direct (Wide (WriteThreshold a)))) ×
    (decoded 9 ch a b ≡ Some (Direct (Wide ReadThreshold)))
unfolding decoded wide_of setting_item setting_of switch_of channel_of receive_of match_of transmit_of ram_of test_of status_of read_of
wide_rows ch a b = (refl, refl, refl, refl, refl, refl, refl, refl, refl)

-- ops 32 to 43
pub write_rows : (ch a b : ℕ) →
    (decoded 32 ch a b ≡ Some (Direct (On ch (Settings (WriteSetting Receiver a))))) ×
    (decoded 33 ch a b ≡ Some (Direct (On ch (Settings (WriteSetting Transmitter a))))) ×
    (decoded 34 ch a b ≡ Some (Direct (On ch (Settings (WriteSetting Parity a))))) ×
    (decoded 35 ch a b ≡ Some (Direct (On ch (Settings (WriteSetting Match a))))) ×
    (decoded 36 ch a b ≡ Some (Direct (On ch (Settings (WriteSetting Stamps a))))) ×
    (decoded 37 ch a b ≡ Some (Direct (On ch (Settings (WriteSetting ReceiveMode a))))) ×
    (decoded 38 ch a b ≡ Some (Direct (On ch (Settings (WriteSetting FifoKind a))))) ×
    (decoded 39 ch a b ≡ Some (Direct (On ch (Settings (WriteSetting TransmitMode a))))) ×
    (decoded 40 ch a b ≡ Some (Direct (On ch (Settings (WriteSetting ReceiveSize a))))) ×
    (decoded 41 ch a b ≡ Some (Direct (On ch (Settings (WriteSetting AlmostFull a))))) ×
    (decoded 42 ch a b ≡ Some (Direct (On ch (Settings (WriteSetting AlmostEmpty a))))) ×
    (decoded 43 ch a b ≡ Some (Direct (On ch (Settings (WriteSetting Rate a)))))
unfolding decoded wide_of setting_item setting_of switch_of channel_of receive_of match_of transmit_of ram_of test_of status_of read_of
write_rows ch a b = (refl, refl, refl, refl, refl, refl, refl, refl, refl, refl, refl, refl)

-- ops 64 to 75
pub read_rows : (ch a b : ℕ) →
    (decoded 64 ch a b ≡ Some (Direct (On ch (Settings (ReadSetting Receiver))))) ×
    (decoded 65 ch a b ≡ Some (Direct (On ch (Settings (ReadSetting Transmitter))))) ×
    (decoded 66 ch a b ≡ Some (Direct (On ch (Settings (ReadSetting Parity))))) ×
    (decoded 67 ch a b ≡ Some (Direct (On ch (Settings (ReadSetting Match))))) ×
    (decoded 68 ch a b ≡ Some (Direct (On ch (Settings (ReadSetting Stamps))))) ×
    (decoded 69 ch a b ≡ Some (Direct (On ch (Settings (ReadSetting ReceiveMode))))) ×
    (decoded 70 ch a b ≡ Some (Direct (On ch (Settings (ReadSetting FifoKind))))) ×
    (decoded 71 ch a b ≡ Some (Direct (On ch (Settings (ReadSetting TransmitMode))))) ×
    (decoded 72 ch a b ≡ Some (Direct (On ch (Settings (ReadSetting ReceiveSize))))) ×
    (decoded 73 ch a b ≡ Some (Direct (On ch (Settings (ReadSetting AlmostFull))))) ×
    (decoded 74 ch a b ≡ Some (Direct (On ch (Settings (ReadSetting AlmostEmpty))))) ×
    (decoded 75 ch a b ≡ Some (Direct (On ch (Settings (ReadSetting Rate)))))
unfolding decoded wide_of setting_item setting_of switch_of channel_of receive_of match_of transmit_of ram_of test_of status_of read_of
read_rows ch a b = (refl, refl, refl, refl, refl, refl, refl, refl, refl, refl, refl, refl)

-- ops 128 to 156
pub channel_rows : (ch a b : ℕ) →
    (decoded 128 ch a b ≡ Some (Direct (On ch (Receive (Arrive a))))) ×
    (decoded 129 ch a b ≡ Some (Direct (On ch (Receive ReadFifo)))) ×
    (decoded 130 ch a b ≡ Some (Direct (On ch (Receive (ReadMailbox a))))) ×
    (decoded 131 ch a b ≡ Some (Direct (On ch (Memories (WriteMatch a b))))) ×
    (decoded 132 ch a b ≡ Some (Direct (On ch (Memories (ReadMatch a))))) ×
    (decoded 133 ch a b ≡ Some (Direct (On ch (Transmit (WriteFifo a))))) ×
    (decoded 134 ch a b ≡ Some (Direct (On ch (Transmit (WriteAsync a))))) ×
    (decoded 135 ch a b ≡ Some (Direct (On ch (Transmit Trigger)))) ×
    (decoded 136 ch a b ≡ Some (Direct (On ch (Transmit Pause)))) ×
    (decoded 137 ch a b ≡ Some (Direct (On ch (Transmit Stop)))) ×
    (decoded 138 ch a b ≡ Some (Direct (On ch (Transmit Step)))) ×
    (decoded 139 ch a b ≡ Some (Direct (On ch (Memories (WriteSchedule a b))))) ×
    (decoded 140 ch a b ≡ Some (Direct (On ch (Memories (ReadSchedule a))))) ×
    (decoded 141 ch a b ≡ Some (Direct (On ch (Memories (WriteMessage a b))))) ×
    (decoded 142 ch a b ≡ Some (Direct (On ch (Memories (ReadMessage a))))) ×
    (decoded 143 ch a b ≡ Some (Direct (On ch (Tests (Sample a))))) ×
    (decoded 144 ch a b ≡ Some (Direct (On ch (Tests ResetTest)))) ×
    (decoded 145 ch a b ≡ Some (Direct (On ch (Tests (InitiateTest a))))) ×
    (decoded 146 ch a b ≡ Some (Direct (On ch (Status ReadStatus)))) ×
    (decoded 147 ch a b ≡ Some (Direct (On ch (Status (ClearLatch a))))) ×
    (decoded 148 ch a b ≡ Some (Direct (On ch (Status (WriteEnable a))))) ×
    (decoded 149 ch a b ≡ Some (Direct (On ch (Status ReadEnable)))) ×
    (decoded 150 ch a b ≡ Some (Direct (On ch (Status (WriteLevelMask a))))) ×
    (decoded 151 ch a b ≡ Some (Direct (On ch (Status ReadLevelMask)))) ×
    (decoded 152 ch a b ≡ Some (Direct (On ch (Status ReadPending)))) ×
    (decoded 153 ch a b ≡ Some (Direct (On ch (Reads ReadCounts)))) ×
    (decoded 154 ch a b ≡ Some (Direct (On ch (Reads ReadReceiveLevel)))) ×
    (decoded 155 ch a b ≡ Some (Direct (On ch (Reads ReadTransmitLevel)))) ×
    (decoded 156 ch a b ≡ Some (Direct (On ch (Reads ReadAsync))))
unfolding decoded wide_of setting_item setting_of switch_of channel_of receive_of match_of transmit_of ram_of test_of status_of read_of
channel_rows ch a b = (refl, refl, refl, refl, refl, refl, refl, refl, refl, refl, refl, refl, refl, refl, refl, refl, refl, refl, refl, refl, refl, refl, refl, refl, refl, refl, refl, refl, refl)

-- ops 160 and 161
pub register_rows : (ch a b : ℕ) → (decoded 160 ch a b ≡ Some (ReadRegister a)) × (decoded 161 ch a b ≡ Some (WriteRegister a b))
unfolding decoded register_item
register_rows ch a b = (refl, refl)

-- no call: ops 0, 10 to 31, 44 to 63, 76 to 127, 157 to 159, and from 162 on
pub none_low : (ch a b : ℕ) → decoded 0 ch a b ≡ None
unfolding decoded
none_low ch a b = refl

pub none_to_31 : (op ch a b : ℕ) → 10 ≤ op → op < 32 → decoded op ch a b ≡ None
unfolding decoded setting_item
none_to_31 op ch a b l h =
    simp (le-ltb op 1 (omega arith), ne_eqb op 1 (λ e. omega (arith, l, e)), ne_eqb op 2 (λ e. omega (arith, l, e)), le-ltb op 10 (omega arith), lt-ltb op 128 (omega arith), lt-ltb op 32 (omega arith))

pub none_to_63 : (op ch a b : ℕ) → 44 ≤ op → op < 64 → decoded op ch a b ≡ None
unfolding decoded setting_item
none_to_63 op ch a b l h =
    simp (le-ltb op 1 (omega arith), ne_eqb op 1 (λ e. omega (arith, l, e)), ne_eqb op 2 (λ e. omega (arith, l, e)), le-ltb op 10 (omega arith), lt-ltb op 128 (omega arith), le-ltb op 32 (omega arith), le-ltb op 44 (omega arith), lt-ltb op 64 (omega arith))

pub none_to_127 : (op ch a b : ℕ) → 76 ≤ op → op < 128 → decoded op ch a b ≡ None
unfolding decoded setting_item
none_to_127 op ch a b l h =
    simp (le-ltb op 1 (omega arith), ne_eqb op 1 (λ e. omega (arith, l, e)), ne_eqb op 2 (λ e. omega (arith, l, e)), le-ltb op 10 (omega arith), lt-ltb op 128 (omega arith), le-ltb op 32 (omega arith), le-ltb op 44 (omega arith), le-ltb op 64 (omega arith), le-ltb op 76 (omega arith))

-- beside 160 and 161
none_beside : (op ch a b : ℕ) → 157 ≤ op → (op ≡ 160 → ⊥) → (op ≡ 161 → ⊥) → decoded op ch a b ≡ None
unfolding decoded register_item
none_beside op ch a b l m n =
    simp (le-ltb op 1 (omega arith), ne_eqb op 1 (λ e. omega (arith, l, e)), ne_eqb op 2 (λ e. omega (arith, l, e)), le-ltb op 10 (omega arith), le-ltb op 128 (omega arith), le-ltb op 157 (omega arith), ne_eqb op 160 m, ne_eqb op 161 n)

pub none_to_159 : (op ch a b : ℕ) → 157 ≤ op → op < 160 → decoded op ch a b ≡ None
none_to_159 op ch a b l h = none_beside op ch a b l (λ e. omega (arith, h, e)) (λ e. omega (arith, h, e))

pub none_above : (op ch a b : ℕ) → 162 ≤ op → decoded op ch a b ≡ None
none_above op ch a b l = none_beside op ch a b (omega arith) (λ e. omega (arith, l, e)) (λ e. omega (arith, l, e))
