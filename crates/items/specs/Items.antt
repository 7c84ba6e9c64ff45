-- The accesses of items `op channel a b`: the table of ops. A word that an op does not use is ignored.
use Rattle.std.specs.Prelude.{ℕ, ◌-◌, cond, eqb, ltb, Option, None, Some}
use Rattle.channel_calls.specs.declared.calls.Setting.{Setting}
use Rattle.channel_calls.specs.declared.calls.Setting.TheVariants.{Receiver, Transmitter, Parity, Match, Stamps, ReceiveMode, FifoKind, TransmitMode, ReceiveSize, AlmostFull, AlmostEmpty, Rate}
use Rattle.channel_calls.specs.declared.calls.SettingCall.TheVariants.{WriteSetting, ReadSetting}
use Rattle.channel_calls.specs.declared.calls.MemoryCall.{MemoryCall}
use Rattle.channel_calls.specs.declared.calls.MemoryCall.TheVariants.{WriteMatch, ReadMatch, WriteSchedule, ReadSchedule, WriteMessage, ReadMessage}
use Rattle.channel_calls.specs.declared.calls.StatusCall.{StatusCall}
use Rattle.channel_calls.specs.declared.calls.StatusCall.TheVariants.{ReadStatus, ClearLatch, WriteEnable, ReadEnable, WriteLevelMask, ReadLevelMask, ReadPending}
use Rattle.channel_calls.specs.declared.calls.TestCall.{TestCall}
use Rattle.channel_calls.specs.declared.calls.TestCall.TheVariants.{Sample, ResetTest, InitiateTest}
use Rattle.channel_calls.specs.declared.calls.ReadCall.{ReadCall}
use Rattle.channel_calls.specs.declared.calls.ReadCall.TheVariants.{ReadCounts, ReadReceiveLevel, ReadTransmitLevel, ReadAsync}
use Rattle.channel_calls.specs.declared.calls.ReceiveCall.{ReceiveCall}
use Rattle.channel_calls.specs.declared.calls.ReceiveCall.TheVariants.{Arrive, ReadFifo, ReadMailbox}
use Rattle.channel_calls.specs.declared.calls.TransmitCall.{TransmitCall}
use Rattle.channel_calls.specs.declared.calls.TransmitCall.TheVariants.{WriteFifo, WriteAsync, Trigger, Pause, Stop, Step}
use Rattle.channel_calls.specs.declared.calls.ChannelCall.{ChannelCall}
use Rattle.channel_calls.specs.declared.calls.ChannelCall.TheVariants.{Settings, Memories, Status, Tests, Reads, Receive, Transmit}
use Rattle.wide.specs.declared.calls.WideCall.{WideCall}
use Rattle.wide.specs.declared.calls.WideCall.TheVariants.{AdvanceStamp, ZeroStamp, ReadStamp, WriteResolution, ReadResolution, WriteThreshold, ReadThreshold}
use Rattle.module.specs.declared.calls.Call.TheVariants.{PowerUp, Reset, Wide, On}
use Rattle.registers.specs.declared.accesses.Access.{Access}
use Rattle.registers.specs.declared.accesses.Access.TheVariants.{Direct, ReadRegister, WriteRegister}

-- ops 3 to 9
unfoldable pub wide_of : ℕ → ℕ → WideCall
wide_of op a =
    cond (eqb op 3) (AdvanceStamp a)
    (cond (eqb op 4) ZeroStamp
    (cond (eqb op 5) ReadStamp
    (cond (eqb op 6) (WriteResolution a)
    (cond (eqb op 7) ReadResolution
    (cond (eqb op 8) (WriteThreshold a) ReadThreshold)))))

-- settings 0 to 4
unfoldable pub switch_of : ℕ → Setting
switch_of s = cond (eqb s 0) Receiver (cond (eqb s 1) Transmitter (cond (eqb s 2) Parity (cond (eqb s 3) Match Stamps)))

-- settings 0 to 11
unfoldable pub setting_of : ℕ → Setting
setting_of s =
    cond (ltb s 5) (switch_of s)
    (cond (eqb s 5) ReceiveMode
    (cond (eqb s 6) FifoKind
    (cond (eqb s 7) TransmitMode
    (cond (eqb s 8) ReceiveSize
    (cond (eqb s 9) AlmostFull
    (cond (eqb s 10) AlmostEmpty Rate))))))

-- ops below 128: 32 and a setting's number writes it, 64 and its number reads it
unfoldable pub setting_item : ℕ → ℕ → ℕ → Option Access
setting_item op ch a =
    cond (ltb op 32) None
    (cond (ltb op 44) (Some (Direct (On ch (Settings (WriteSetting (setting_of (op - 32)) a)))))
    (cond (ltb op 64) None
    (cond (ltb op 76) (Some (Direct (On ch (Settings (ReadSetting (setting_of (op - 64))))))) None)))

-- ops 128 to 130
unfoldable pub receive_of : ℕ → ℕ → ReceiveCall
receive_of op a = cond (eqb op 128) (Arrive a) (cond (eqb op 129) ReadFifo (ReadMailbox a))

-- ops 131 and 132
unfoldable pub match_of : ℕ → ℕ → ℕ → MemoryCall
match_of op a b = cond (eqb op 131) (WriteMatch a b) (ReadMatch a)

-- ops 133 to 138
unfoldable pub transmit_of : ℕ → ℕ → TransmitCall
transmit_of op a =
    cond (eqb op 133) (WriteFifo a)
    (cond (eqb op 134) (WriteAsync a)
    (cond (eqb op 135) Trigger
    (cond (eqb op 136) Pause
    (cond (eqb op 137) Stop Step))))

-- ops 139 to 142
unfoldable pub ram_of : ℕ → ℕ → ℕ → MemoryCall
ram_of op a b =
    cond (eqb op 139) (WriteSchedule a b)
    (cond (eqb op 140) (ReadSchedule a)
    (cond (eqb op 141) (WriteMessage a b) (ReadMessage a)))

-- ops 143 to 145
unfoldable pub test_of : ℕ → ℕ → TestCall
test_of op a = cond (eqb op 143) (Sample a) (cond (eqb op 144) ResetTest (InitiateTest a))

-- ops 146 to 152
unfoldable pub status_of : ℕ → ℕ → StatusCall
status_of op a =
    cond (eqb op 146) ReadStatus
    (cond (eqb op 147) (ClearLatch a)
    (cond (eqb op 148) (WriteEnable a)
    (cond (eqb op 149) ReadEnable
    (cond (eqb op 150) (WriteLevelMask a)
    (cond (eqb op 151) ReadLevelMask ReadPending)))))

-- ops 153 to 156
unfoldable pub read_of : ℕ → ReadCall
read_of op = cond (eqb op 153) ReadCounts (cond (eqb op 154) ReadReceiveLevel (cond (eqb op 155) ReadTransmitLevel ReadAsync))

-- ops 128 to 156
unfoldable pub channel_of : ℕ → ℕ → ℕ → ChannelCall
channel_of op a b =
    cond (ltb op 131) (Receive (receive_of op a))
    (cond (ltb op 133) (Memories (match_of op a b))
    (cond (ltb op 139) (Transmit (transmit_of op a))
    (cond (ltb op 143) (Memories (ram_of op a b))
    (cond (ltb op 146) (Tests (test_of op a))
    (cond (ltb op 153) (Status (status_of op a)) (Reads (read_of op)))))))

-- ops above 156: 160 reads the register at an address, 161 writes it
unfoldable pub register_item : ℕ → ℕ → ℕ → Option Access
register_item op a b = cond (eqb op 160) (Some (ReadRegister a)) (cond (eqb op 161) (Some (WriteRegister a b)) None)

-- the access of an item: op 1 is the power-up, op 2 the module reset; an op that is not in the table is no call
unfoldable pub decoded : ℕ → ℕ → ℕ → ℕ → Option Access
decoded op ch a b =
    cond (ltb op 1) None
    (cond (eqb op 1) (Some (Direct (PowerUp a)))
    (cond (eqb op 2) (Some (Direct Reset))
    (cond (ltb op 10) (Some (Direct (Wide (wide_of op a))))
    (cond (ltb op 128) (setting_item op ch a)
    (cond (ltb op 157) (Some (Direct (On ch (channel_of op a b)))) (register_item op a b))))))
