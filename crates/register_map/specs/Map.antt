-- Which register stands at an address (paper 02 (vi); docs/REGISTERS.md).
use Rattle.std.specs.Prelude.{ℕ, ◌+◌, ◌-◌, ◌*◌, ◌/◌, ◌%◌, ◌≤◌, ◌<◌, ◌≡◌, cond, eqb, ltb, leb}
use Rattle.schedule.specs.Codes.{messages, commands}
use Rattle.frame.specs.Layout.{most}
use Rattle.register_map.specs.declared.map.Control.TheVariants.{TriggerEach, PauseEach, StopEach}
use Rattle.register_map.specs.Registers.{Register, NoRegister, RateOf, AsyncOf, StatusOf, ScheduleOf, MessageOf, ControlOf}

-- a register has 32 bits, so that the next one's address is four more
abbrev pub bytes : ℕ
bytes = 4

-- "channel 1's transmit rate at 0x111C and async at 0x1120 .., each plus 0x100 a further channel"
abbrev pub rate_at : ℕ
rate_at = 0x111C

abbrev pub async_at : ℕ
async_at = 0x1120

abbrev pub channel_step : ℕ
channel_step = 0x100

-- "channel status (what a status read shows) at 0x0810 plus 0x10"
abbrev pub status_at : ℕ
status_at = 0x0810

abbrev pub status_step : ℕ
status_step = 0x10

-- "schedule at 0x80000 plus 0x1000, message RAM at 0x90000 likewise"
abbrev pub schedule_at : ℕ
schedule_at = 0x80000

abbrev pub message_at : ℕ
message_at = 0x90000

abbrev pub ram_step : ℕ
ram_step = 0x1000

-- "trigger, pause and stop at 0x1000, 0x1004, 0x1008"
abbrev pub trigger_at : ℕ
trigger_at = 0x1000

abbrev pub pause_at : ℕ
pause_at = 0x1004

abbrev pub stop_at : ℕ
stop_at = 0x1008

-- ---- a register's address

abbrev pub address_of : Register → ℕ
address_of NoRegister = 0
address_of (RateOf ch) = rate_at + (ch - 1) * channel_step
address_of (AsyncOf ch) = async_at + (ch - 1) * channel_step
address_of (StatusOf ch) = status_at + (ch - 1) * status_step
address_of (ScheduleOf ch at) = schedule_at + (ch - 1) * ram_step + at * bytes
address_of (MessageOf ch at) = message_at + (ch - 1) * ram_step + at * bytes
address_of (ControlOf TriggerEach) = trigger_at
address_of (ControlOf PauseEach) = pause_at
address_of (ControlOf StopEach) = stop_at

-- the registers "of twelve channels", with the words of their RAMs
abbrev pub Stands : Register → Type 0
Stands NoRegister = ⊥
Stands (RateOf ch) = (1 ≤ ch) × (ch ≤ most)
Stands (AsyncOf ch) = (1 ≤ ch) × (ch ≤ most)
Stands (StatusOf ch) = (1 ≤ ch) × (ch ≤ most)
Stands (ScheduleOf ch at) = (1 ≤ ch) × (ch ≤ most) × (at < commands)
Stands (MessageOf ch at) = (1 ≤ ch) × (ch ≤ most) × (at < messages)
Stands (ControlOf c) = Unit

-- what stands at an address: none, or a register of twelve channels with that address
abbrev pub StandsAt : ℕ → Register → Type 0
StandsAt a NoRegister = (r : Register) → Stands r → address_of r ≡ a → ⊥
StandsAt a (RateOf ch) = Stands (RateOf ch) × (address_of (RateOf ch) ≡ a)
StandsAt a (AsyncOf ch) = Stands (AsyncOf ch) × (address_of (AsyncOf ch) ≡ a)
StandsAt a (StatusOf ch) = Stands (StatusOf ch) × (address_of (StatusOf ch) ≡ a)
StandsAt a (ScheduleOf ch at) = Stands (ScheduleOf ch at) × (address_of (ScheduleOf ch at) ≡ a)
StandsAt a (MessageOf ch at) = Stands (MessageOf ch at) × (address_of (MessageOf ch at) ≡ a)
StandsAt a (ControlOf c) = address_of (ControlOf c) ≡ a

-- ---- an address's register

-- the channel, from 1, whose registers an address a is among, 0 where it is among none "of twelve channels": channel 1's are `size` bytes from
-- `first` on, and a further channel's stand a step behind
unfoldable pub channel_in : ℕ → ℕ → ℕ → ℕ → ℕ
channel_in first step size a =
    cond (ltb a first) 0
    (cond (leb (most * step) (a - first)) 0
    (cond (leb size ((a - first) % step)) 0
    ((a - first) / step + 1)))

-- "(also past a RAM's end)": a RAM's registers end with its last word; the word's address in the RAM
abbrev pub place_at : ℕ → ℕ
place_at a = a % ram_step / bytes

unfoldable pub masked_at : ℕ → Register
masked_at a =
    cond (eqb a trigger_at) (ControlOf TriggerEach)
    (cond (eqb a pause_at) (ControlOf PauseEach)
    (cond (eqb a stop_at) (ControlOf StopEach) NoRegister))

unfoldable pub ram_at : ℕ → Register
ram_at a =
    cond (eqb (channel_in schedule_at ram_step (bytes * commands) a) 0)
    (cond (eqb (channel_in message_at ram_step (bytes * messages) a) 0)
    (masked_at a)
    (MessageOf (channel_in message_at ram_step (bytes * messages) a) (place_at a)))
    (ScheduleOf (channel_in schedule_at ram_step (bytes * commands) a) (place_at a))

unfoldable pub register_at : ℕ → Register
register_at a =
    cond (eqb (channel_in rate_at channel_step bytes a) 0)
    (cond (eqb (channel_in async_at channel_step bytes a) 0)
    (cond (eqb (channel_in status_at status_step bytes a) 0)
    (ram_at a)
    (StatusOf (channel_in status_at status_step bytes a)))
    (AsyncOf (channel_in async_at channel_step bytes a)))
    (RateOf (channel_in rate_at channel_step bytes a))
