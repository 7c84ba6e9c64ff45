-- The calls that register accesses are turned into: what a history keeps, and what they answer.
-- Assumes nothing.
use Prim.Native.Nat.{ℕ, ◌%◌}
use mathlib.Core.Path.{◌≡◌, refl}
use mathlib.Core.Bool.{Bool, true, false, cond}
use mathlib.Core.List.{List}
use lib.Dec.{eqb}
use Rattle.fifos.specs.Fifos.{Stays}
use Rattle.channel.specs.Channel.{block_answer}
use Rattle.channel_calls.specs.declared.calls.SettingCall.TheVariants.{WriteSetting, ReadSetting}
use Rattle.channel_calls.specs.declared.calls.TransmitCall.TheVariants.{WriteFifo, WriteAsync, Trigger, Pause, Stop, Step}
use Rattle.channel_calls.specs.declared.calls.ChannelCall.{ChannelCall}
use Rattle.channel_calls.specs.declared.calls.ChannelCall.TheVariants.{Settings, Memories, Status, Tests, Reads, Receive, Transmit}
use Rattle.channel_calls.specs.declared.calls.Given.{Given}
use Rattle.channel_calls.specs.Answer.{Answer, Done}
use Rattle.channel_laws.specs.Effects.{nothing, effect}
use Rattle.register_map.specs.Map.{bytes, register_at}
use Rattle.register_map.specs.Turned.{read_of, read_turned, write_of, write_turned}
use Rattle.registers.specs.Masked.{control_call}
use Rattle.register_map.specs.declared.map.Control.{Control}
use Rattle.register_map.specs.declared.map.Control.TheVariants.{TriggerEach, PauseEach, StopEach}
use Rattle.register_map.specs.Registers.{Register, NoRegister, RateOf, AsyncOf, StatusOf, ScheduleOf, MessageOf, ControlOf}
use Rattle.register_map.specs.Turns.{Turned, NotTurned, OneCall, EachNamed}

-- ---- calls that change nothing that a history keeps

abbrev pub Quiet : ChannelCall → Type 0
Quiet (Settings (WriteSetting s v)) = ⊥
Quiet (Settings (ReadSetting s)) = Unit
Quiet (Memories k) = Unit
Quiet (Status k) = Unit
Quiet (Tests k) = ⊥
Quiet (Reads k) = Unit
Quiet (Receive k) = ⊥
Quiet (Transmit (WriteFifo w)) = ⊥
Quiet (Transmit (WriteAsync w)) = Unit
Quiet (Transmit Trigger) = Unit
Quiet (Transmit Pause) = Unit
Quiet (Transmit Stop) = Unit
Quiet (Transmit Step) = ⊥

pub quiet_effect : (stamp : ℕ) (k : ChannelCall) (a : Answer) (l : List ℕ) → Quiet k → effect stamp k a l ≡ nothing l
quiet_effect stamp (Settings (WriteSetting s v)) a l q = absurd q
quiet_effect stamp (Settings (ReadSetting s)) a l q = refl
quiet_effect stamp (Memories k) a l q = refl
quiet_effect stamp (Status k) a l q = refl
quiet_effect stamp (Tests k) a l q = absurd q
quiet_effect stamp (Reads k) a l q = refl
quiet_effect stamp (Receive k) a l q = absurd q
quiet_effect stamp (Transmit (WriteFifo w)) a l q = absurd q
quiet_effect stamp (Transmit (WriteAsync w)) a l q = refl
quiet_effect stamp (Transmit Trigger) a l q = refl
quiet_effect stamp (Transmit Pause) a l q = refl
quiet_effect stamp (Transmit Stop) a l q = refl
quiet_effect stamp (Transmit Step) a l q = absurd q

pub control_quiet : (c : Control) → Quiet (control_call c)
control_quiet TriggerEach = tt
control_quiet PauseEach = tt
control_quiet StopEach = tt

-- ---- a register read

abbrev pub AsRead : Turned → Type 0
AsRead (NotTurned r) = Unit
AsRead (OneCall ch k bits) = Quiet k
AsRead (EachNamed c mask) = ⊥

pub read_is : (x : ℕ) → AsRead (read_turned x)
unfolding read_turned
read_is x = go (eqb (x % bytes) 0)
  where
    of_register : (r : Register) → AsRead (read_of r)
    of_register NoRegister = tt
    of_register (RateOf ch) = tt
    of_register (AsyncOf ch) = tt
    of_register (StatusOf ch) = tt
    of_register (ScheduleOf ch at) = tt
    of_register (MessageOf ch at) = tt
    of_register (ControlOf c) = tt

    go : (t : Bool) → AsRead (cond t (read_of (register_at x)) (NotTurned 30))
    go true = of_register (register_at x)
    go false = tt

-- ---- a register write

-- a call that answers done, and changes no FIFO
pub record Writes (k : ChannelCall) : Type 0 where
  pub done : (g : Given) (b : List ℕ) → block_answer g k b ≡ Done
  pub receive : (stamp : ℕ) (a : Answer) (l : List ℕ) → (effect stamp k a l).receive ≡ Stays
  pub transmit : (stamp : ℕ) (a : Answer) (l : List ℕ) → (effect stamp k a l).transmit ≡ Stays

abbrev pub AsWrite : Turned → Type 0
AsWrite (NotTurned r) = Unit
AsWrite (OneCall ch k bits) = Writes k
AsWrite (EachNamed c mask) = Unit

pub write_is : (x v : ℕ) → AsWrite (write_turned x v)
unfolding write_turned
write_is x v = go (eqb (x % bytes) 0)
  where
    of_register : (r : Register) → AsWrite (write_of r v)
    of_register NoRegister = tt
    of_register (RateOf ch) = record { done = λ g b. refl; receive = λ s a l. refl; transmit = λ s a l. refl }
    of_register (AsyncOf ch) = record { done = λ g b. refl; receive = λ s a l. refl; transmit = λ s a l. refl }
    of_register (StatusOf ch) = tt
    of_register (ScheduleOf ch at) = record { done = λ g b. refl; receive = λ s a l. refl; transmit = λ s a l. refl }
    of_register (MessageOf ch at) = record { done = λ g b. refl; receive = λ s a l. refl; transmit = λ s a l. refl }
    of_register (ControlOf c) = tt

    go : (t : Bool) → AsWrite (cond t (write_of (register_at x) v) (NotTurned 30))
    go true = of_register (register_at x)
    go false = tt
