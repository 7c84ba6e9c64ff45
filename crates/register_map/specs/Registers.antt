-- The registers of the AR1 module (paper 02 (vi)), and none.
use Rattle.std.specs.Prelude.{ℕ, Option, Some, None}
use Rattle.register_map.specs.declared.map.Control.{Control}
use Rattle.register_map.specs.declared.map.Register.TheVariants as declared_register
use Rattle.register_map.specs.declared.map.Register as declared

pub data Register : Type 0 where
  NoRegister : Register
  -- a channel, from 1
  RateOf : ℕ → Register
  AsyncOf : ℕ → Register
  StatusOf : ℕ → Register
  -- a channel and an address in its RAM
  ScheduleOf : ℕ → ℕ → Register
  MessageOf : ℕ → ℕ → Register
  ControlOf : Control → Register

-- the register that the code found, or none
abbrev pub found : Option declared.Register → Register
found None = NoRegister
found (Some (declared_register.RateOf ch)) = RateOf ch
found (Some (declared_register.AsyncOf ch)) = AsyncOf ch
found (Some (declared_register.StatusOf ch)) = StatusOf ch
found (Some (declared_register.ScheduleOf ch at)) = ScheduleOf ch at
found (Some (declared_register.MessageOf ch at)) = MessageOf ch at
found (Some (declared_register.ControlOf c)) = ControlOf c
