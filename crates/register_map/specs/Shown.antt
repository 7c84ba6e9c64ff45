-- How a register shows what its call answers: "Bit positions: 004, other bits read 0" (paper 02 (vi); docs/REGISTERS.md).
use Rattle.std.specs.Prelude.{ℕ, ◌+◌, ◌*◌, ◌/◌, ◌%◌}
use Rattle.channel_calls.specs.Answer.{Answer, Done, Refused, Value, Waiting, Fates, Arrived, Entry, Stepped}
use Rattle.register_map.specs.declared.shown.Bits.{Bits}
use Rattle.register_map.specs.declared.shown.Bits.TheVariants.{AllBits, CommandBits, StatusBits}

-- 004, Channel Status: conditions 0 to 6 at D1, D2, D5, D4, D7, D10 and D9; of "what a status read shows", the latch, though 004 has its Dynamic
-- Status at that address
unfoldable pub status_bits : ℕ → ℕ
status_bits latch =
    latch % 2 * 0x2
    + latch / 2 % 2 * 0x4
    + latch / 4 % 2 * 0x20
    + latch / 8 % 2 * 0x10
    + latch / 16 % 2 * 0x80
    + latch / 32 % 2 * 0x400
    + latch / 64 % 2 * 0x200

-- 004, 5.2.2.1, the schedule RAM: "Only bits 0 to 15 are utilized"
abbrev pub bits_of : Bits → ℕ → ℕ
bits_of AllBits x = x
bits_of CommandBits x = x % 0x10000
bits_of StatusBits x = status_bits x

-- "async .. (read, in any mode: the waiting word or 0)"; a write that is done answers 0; no register's call gives an answer of the last four forms
abbrev pub shown : Bits → Answer → Answer
shown bits Done = Value 0
shown bits (Refused r) = Refused r
shown bits (Value x) = Value (bits_of bits x)
shown bits (Waiting m w) = Value (bits_of bits w)
shown bits (Fates a r c o t s d) = Value 0
shown bits (Arrived a) = Value 0
shown bits (Entry s w t) = Value 0
shown bits (Stepped o) = Value 0
