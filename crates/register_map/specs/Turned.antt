-- "turns 32-bit reads and writes into calls" (paper 02 (vi)).
use Rattle.std.specs.Prelude.{ℕ, ◌%◌, cond, eqb}
use Rattle.channel_calls.specs.declared.calls.Setting.TheVariants.{Rate}
use Rattle.channel_calls.specs.declared.calls.SettingCall.TheVariants.{WriteSetting, ReadSetting}
use Rattle.channel_calls.specs.declared.calls.MemoryCall.TheVariants.{WriteSchedule, ReadSchedule, WriteMessage, ReadMessage}
use Rattle.channel_calls.specs.declared.calls.StatusCall.TheVariants.{ReadStatus}
use Rattle.channel_calls.specs.declared.calls.ReadCall.TheVariants.{ReadAsync}
use Rattle.channel_calls.specs.declared.calls.TransmitCall.TheVariants.{WriteAsync}
use Rattle.channel_calls.specs.declared.calls.ChannelCall.TheVariants.{Settings, Memories, Status, Reads, Transmit}
use Rattle.register_map.specs.Map.{bytes, register_at}
use Rattle.register_map.specs.Registers.{Register, NoRegister, RateOf, AsyncOf, StatusOf, ScheduleOf, MessageOf, ControlOf}
use Rattle.register_map.specs.declared.shown.Bits.TheVariants.{AllBits, CommandBits, StatusBits}
use Rattle.register_map.specs.Turns.{Turned, NotTurned, OneCall, EachNamed}

-- "30 not aligned to four, 31 no register of twelve channels .., 32 wrong way (status only reads; trigger, pause and stop only write), in that
-- order"
-- a rate is shown whole: one above D19 to D0 is outside its range and unsound
abbrev pub read_of : Register → Turned
read_of NoRegister = NotTurned 31
read_of (RateOf ch) = OneCall ch (Settings (ReadSetting Rate)) AllBits
read_of (AsyncOf ch) = OneCall ch (Reads ReadAsync) AllBits
read_of (StatusOf ch) = OneCall ch (Status ReadStatus) StatusBits
read_of (ScheduleOf ch at) = OneCall ch (Memories (ReadSchedule at)) CommandBits
read_of (MessageOf ch at) = OneCall ch (Memories (ReadMessage at)) AllBits
read_of (ControlOf c) = NotTurned 32

abbrev pub write_of : Register → ℕ → Turned
write_of NoRegister v = NotTurned 31
write_of (RateOf ch) v = OneCall ch (Settings (WriteSetting Rate v)) AllBits
write_of (AsyncOf ch) v = OneCall ch (Transmit (WriteAsync v)) AllBits
write_of (StatusOf ch) v = NotTurned 32
write_of (ScheduleOf ch at) v = OneCall ch (Memories (WriteSchedule at v)) AllBits
write_of (MessageOf ch at) v = OneCall ch (Memories (WriteMessage at v)) AllBits
write_of (ControlOf c) v = EachNamed c v

unfoldable pub read_turned : ℕ → Turned
read_turned a = cond (eqb (a % bytes) 0) (read_of (register_at a)) (NotTurned 30)

unfoldable pub write_turned : ℕ → ℕ → Turned
write_turned a v = cond (eqb (a % bytes) 0) (write_of (register_at a) v) (NotTurned 30)
