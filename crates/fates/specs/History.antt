-- The history of a list of accesses and answers, the latest first (paper 01, "Fates": "and nothing from memory").
use Rattle.std.specs.Prelude.{ℕ, ◌+◌, List, [], ◌∷◌, map, cond, eqb}
use Rattle.fifos.specs.Counts.{counted}
use Rattle.settings.specs.Kept.{Kept, kept_first, Effect, kept_by}
use Rattle.channel_calls.specs.Answers.{is_refused}
use Rattle.channel_calls.specs.Answer.{Answer, Done}
use Rattle.channel_laws.specs.Effects.{nothing, effect, reset_effect, power_effect}
use Rattle.wide.specs.Part.{Part}
use Rattle.wide.specs.declared.calls.WideCall.{WideCall}
use Rattle.wide.specs.declared.calls.WideCall.TheVariants.{AdvanceStamp, ZeroStamp, ReadStamp, WriteResolution, ReadResolution, WriteThreshold, ReadThreshold}
use Rattle.module.specs.declared.calls.Call.{Call}
use Rattle.module.specs.declared.calls.Call.TheVariants.{PowerUp, Reset, Wide, On}
use Rattle.register_map.specs.Turned.{write_turned}
use Rattle.registers.specs.declared.accesses.Access.{Access}
use Rattle.registers.specs.declared.accesses.Access.TheVariants.{Direct, ReadRegister, WriteRegister}
use Rattle.register_map.specs.Turns.{Turned, NotTurned, OneCall, EachNamed}

-- "It keeps the stamp, all settings and, for each FIFO, the held entries and whole-number counts.", and the count of channels
pub record History : Type 0 where
  pub count : ℕ
  pub part : Part
  pub kept : ℕ → Kept

-- "Accepted power-up: factory settings, stamp .. 0"
abbrev pub part_first : Part
part_first = record { stamp = 0; resolution = 0; threshold = 5 }

-- before any call: no channels
abbrev pub start : History
start = record { count = 0; part = part_first; kept = λ ch. kept_first }

-- "An advance by any 32-bit number is added and the counter rolls over. It can be zeroed."
abbrev pub part_by : WideCall → Part → Part
part_by (AdvanceStamp n) p = record { stamp = counted p.stamp n; resolution = p.resolution; threshold = p.threshold }
part_by ZeroStamp p = record { stamp = 0; resolution = p.resolution; threshold = p.threshold }
part_by ReadStamp p = p
part_by (WriteResolution x) p = record { stamp = p.stamp; resolution = x; threshold = p.threshold }
part_by ReadResolution p = p
part_by (WriteThreshold x) p = record { stamp = p.stamp; resolution = p.resolution; threshold = x }
part_by ReadThreshold p = p

-- what an accepted call makes of the count and of the module part
abbrev pub count_after : Call → ℕ → ℕ
count_after (PowerUp n) k = n
count_after Reset k = k
count_after (Wide w) k = k
count_after (On ch w) k = k

abbrev pub part_after : Call → Part → Part
part_after (PowerUp n) p = part_first
part_after Reset p = part_first
part_after (Wide k) p = part_by k p
part_after (On ch k) p = p

-- ---- what an access tells

-- a call that was accepted, with its answer; or nothing that a history keeps
pub data Telling : Type 0 where
  Silent : Telling
  Performed : Call → Answer → Telling

-- a register write that was not refused: the call that it was turned into. A masked trigger, pause or stop changes neither settings nor FIFOs
abbrev pub write_tells : Turned → Telling
write_tells (NotTurned r) = Silent
write_tells (OneCall ch k bits) = Performed (On ch k) Done
write_tells (EachNamed c mask) = Silent

-- "Any other call, and any refused one: nothing."; a register read is such a call
abbrev pub tells : Access → Answer → Telling
tells (Direct c) a = cond (is_refused a) Silent (Performed c a)
tells (ReadRegister x) a = Silent
tells (WriteRegister x v) a = cond (is_refused a) Silent (write_tells (write_turned x v))

-- what a list of accesses with their answers tells
abbrev pub told : List (Access × Answer) → List Telling
told es = map (λ e. tells e.0 e.1) es

-- ---- what it makes of a history

-- what an accepted call does to channel ch
abbrev pub accepted_effect : ℕ → Call → Answer → History → Effect
accepted_effect ch (PowerUp n) a h = power_effect
accepted_effect ch Reset a h = reset_effect
accepted_effect ch (Wide k) a h = nothing (h.kept ch).settings
accepted_effect ch (On ch' k) a h =
    cond (eqb ch' ch) (effect h.part.stamp k a (h.kept ch).settings) (nothing (h.kept ch).settings)

-- what an access does to channel ch, to the count and to the module part
abbrev pub effect_on : ℕ → Telling → History → Effect
effect_on ch Silent h = nothing (h.kept ch).settings
effect_on ch (Performed c a) h = accepted_effect ch c a h

abbrev pub count_by : Telling → ℕ → ℕ
count_by Silent k = k
count_by (Performed c a) k = count_after c k

abbrev pub part_told : Telling → Part → Part
part_told Silent p = p
part_told (Performed c a) p = part_after c p

-- the history after it
abbrev pub history_step : Telling → History → History
history_step t h =
    record {
      count = count_by t h.count;
      part = part_told t h.part;
      kept = λ ch. kept_by ◌+◌ (effect_on ch t h) (h.kept ch);
    }

abbrev pub history : List Telling → History
history [] = start
history (t ∷ before) = history_step t (history before)
