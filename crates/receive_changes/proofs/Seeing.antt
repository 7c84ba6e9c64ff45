-- What the code sees of an access is what the history's table of effects gives: the change of the receive FIFO, and the receive mode.
-- Assumes nothing.
use Prim.Native.Nat.{ℕ, ◌%◌}
use mathlib.Core.Path.{◌≡◌, refl, sym, ◌∙◌}
use mathlib.Core.Logic.{◌≢◌}
use mathlib.Core.Bool.{Bool, true, false, cond}
use mathlib.Core.List.{List, [], ◌∷◌}
use native.Mathlib.Omega.{arith}
use lib.Dec.{eqb}
use lib.ListN.{length, set, length-set}
use lib.Seq.{get_or-set_same, get_or-set_other}
use Rattle.block.specs.Layout.{word, settings, receive_mode, rate}
use Rattle.settings.specs.Kept.{Effect}
use Rattle.arrival.specs.declared.Arrival.{Arrival}
use Rattle.arrival.specs.declared.Arrival.TheVariants.{Ignored, Filtered, Appended, Dropped, Overwriting, AlreadyListed}
use Rattle.receive.specs.Fates.{arrival_change}
use Rattle.channel_calls.specs.Answers.{setting_number, is_refused}
use Rattle.channel_calls.specs.declared.calls.Setting.{Setting}
use Rattle.channel_calls.specs.declared.calls.Setting.TheVariants.{Receiver, Transmitter, Parity, Match, Stamps, ReceiveMode, FifoKind, TransmitMode, ReceiveSize, AlmostFull, AlmostEmpty, Rate}
use Rattle.channel_calls.specs.declared.calls.SettingCall.TheVariants.{WriteSetting, ReadSetting}
use Rattle.channel_calls.specs.declared.calls.TestCall.TheVariants.{Sample, ResetTest, InitiateTest}
use Rattle.channel_calls.specs.declared.calls.ReceiveCall.TheVariants.{Arrive, ReadFifo, ReadMailbox}
use Rattle.channel_calls.specs.declared.calls.TransmitCall.TheVariants.{WriteFifo, WriteAsync, Trigger, Pause, Stop, Step}
use Rattle.channel_calls.specs.declared.calls.ChannelCall.{ChannelCall}
use Rattle.channel_calls.specs.declared.calls.ChannelCall.TheVariants.{Settings, Memories, Status, Tests, Reads, Receive, Transmit}
use Rattle.channel_calls.specs.Answer.{Answer, Done, Refused, Value, Waiting, Fates, Arrived, Entry, Stepped}
use Rattle.channel_laws.specs.Effects.{arrive_change, read_change, nothing, effect}
use Rattle.module.specs.declared.calls.Call.{Call}
use Rattle.module.specs.declared.calls.Call.TheVariants.{PowerUp, Reset, Wide, On}
use Rattle.register_map.specs.Map.{bytes, register_at}
use Rattle.register_map.specs.Turned.{write_of, write_turned}
use Rattle.registers.specs.declared.accesses.Access.{Access}
use Rattle.registers.specs.declared.accesses.Access.TheVariants.{Direct, ReadRegister, WriteRegister}
use Rattle.register_map.specs.Registers.{Register, NoRegister, RateOf, AsyncOf, StatusOf, ScheduleOf, MessageOf, ControlOf}
use Rattle.register_map.specs.Turns.{Turned, NotTurned, OneCall, EachNamed}
use Rattle.fates.specs.History.{History, Telling, Silent, Performed, write_tells, tells, effect_on, history}
use Rattle.receive_changes.specs.Changes.{happening, left, by_mode, by_setting, by_outcome, by_arrival, by_read, on_called, by_call, by_access}
use Rattle.receive_changes.specs.declared.Seen.{Seen}

-- ---- a history's settings

effect-length : (stamp : ℕ) (k : ChannelCall) (a : Answer) (l : List ℕ) → length (effect stamp k a l).settings ≡ length l
effect-length stamp (Settings (WriteSetting s v)) a l = length-set l (setting_number s) v
effect-length stamp (Settings (ReadSetting s)) a l = refl
effect-length stamp (Memories k) a l = refl
effect-length stamp (Status k) a l = refl
effect-length stamp (Tests (Sample r)) a l = refl
effect-length stamp (Tests ResetTest) a l = refl
effect-length stamp (Tests (InitiateTest r)) a l = refl
effect-length stamp (Reads k) a l = refl
effect-length stamp (Receive (Arrive w)) a l = refl
effect-length stamp (Receive ReadFifo) a l = refl
effect-length stamp (Receive (ReadMailbox i)) a l = refl
effect-length stamp (Transmit (WriteFifo w)) a l = refl
effect-length stamp (Transmit (WriteAsync w)) a l = refl
effect-length stamp (Transmit Trigger) a l = refl
effect-length stamp (Transmit Pause) a l = refl
effect-length stamp (Transmit Stop) a l = refl
effect-length stamp (Transmit Step) a l = refl

module _ (ch : ℕ) where
  -- the settings of the channel, and the receive mode among them
  abbrev pub settings_by : List Telling → List ℕ
  settings_by ts = ((history ts).kept ch).settings

  abbrev pub mode_by : List Telling → ℕ
  mode_by ts = word (settings_by ts) receive_mode

  step_length : (t : Telling) (h : History) → length (h.kept ch).settings ≡ settings → length (effect_on ch t h).settings ≡ settings
  step_length Silent h e = e
  step_length (Performed (PowerUp n) a) h e = refl
  step_length (Performed Reset a) h e = refl
  step_length (Performed (Wide k) a) h e = e
  step_length (Performed (On named k) a) h e = go (eqb named ch)
    where
      go : (t : Bool) → length (cond t (effect h.part.stamp k a (h.kept ch).settings) (nothing (h.kept ch).settings)).settings ≡ settings
      go true = effect-length h.part.stamp k a (h.kept ch).settings ∙ e
      go false = e

  pub settings-length : (ts : List Telling) → length (settings_by ts) ≡ settings
  settings-length [] = refl
  settings-length (t ∷ before) = step_length t (history before) (settings-length before)

-- ---- one call

-- what was seen is what the effect says
pub record Sees (s : Seen) (e : Effect) : Type 0 where
  pub happens : s.happening ≡ happening e.receive
  pub mode : s.mode ≡ word e.settings receive_mode

-- an arrival and a FIFO read, by their answers
outcome_seen : (o : Arrival) (e : List ℕ) (mode : ℕ) → ((by_outcome mode o).happening ≡ happening (arrival_change o e)) × ((by_outcome mode o).mode ≡ mode)
outcome_seen Ignored e mode = (refl, refl)
outcome_seen Filtered e mode = (refl, refl)
outcome_seen Appended e mode = (refl, refl)
outcome_seen Dropped e mode = (refl, refl)
outcome_seen Overwriting e mode = (refl, refl)
outcome_seen AlreadyListed e mode = (refl, refl)

arrival_seen : (a : Answer) (e : List ℕ) (mode : ℕ) → ((by_arrival mode a).happening ≡ happening (arrive_change e a)) × ((by_arrival mode a).mode ≡ mode)
arrival_seen Done e mode = (refl, refl)
arrival_seen (Refused r) e mode = (refl, refl)
arrival_seen (Value x) e mode = (refl, refl)
arrival_seen (Waiting m w) e mode = (refl, refl)
arrival_seen (Fates x r c o t s d) e mode = (refl, refl)
arrival_seen (Arrived o) e mode = outcome_seen o e mode
arrival_seen (Entry s w t) e mode = (refl, refl)
arrival_seen (Stepped o) e mode = (refl, refl)

read_seen : (a : Answer) (mode : ℕ) → ((by_read mode a).happening ≡ happening (read_change a)) × ((by_read mode a).mode ≡ mode)
read_seen Done mode = (refl, refl)
read_seen (Refused r) mode = (refl, refl)
read_seen (Value x) mode = (refl, refl)
read_seen (Waiting m w) mode = (refl, refl)
read_seen (Fates x r c o t s d) mode = (refl, refl)
read_seen (Arrived o) mode = (refl, refl)
read_seen (Entry s w t) mode = (refl, refl)
read_seen (Stepped o) mode = (refl, refl)

module _ (l : List ℕ) (whole : length l ≡ settings) where
  -- another setting is written
  elsewhere : (n v : ℕ) → receive_mode ≢ n → word l receive_mode ≡ word (set l n v) receive_mode
  elsewhere n v d = sym (get_or-set_other l n receive_mode v 0 d)

  -- receive mode is written
  mode_written : (v : ℕ) (t : Bool) → eqb (word l receive_mode) v ≡ t → Sees (by_mode (word l receive_mode) v) (effect 0 (Settings (WriteSetting ReceiveMode v)) Done l)
  mode_written v true e = rw e (record { happens = refl; mode = sym (get_or-set_same l receive_mode v 0 (omega (arith, whole))) })
  mode_written v false e = rw e (record { happens = refl; mode = sym (get_or-set_same l receive_mode v 0 (omega (arith, whole))) })

  setting_written : (stamp : ℕ) (s : Setting) (v : ℕ) (a : Answer) → Sees (by_setting (word l receive_mode) s v) (effect stamp (Settings (WriteSetting s v)) a l)
  setting_written stamp Receiver v a = record { happens = refl; mode = elsewhere _ v (omega arith) }
  setting_written stamp Transmitter v a = record { happens = refl; mode = elsewhere _ v (omega arith) }
  setting_written stamp Parity v a = record { happens = refl; mode = elsewhere _ v (omega arith) }
  setting_written stamp Match v a = record { happens = refl; mode = elsewhere _ v (omega arith) }
  setting_written stamp Stamps v a = record { happens = refl; mode = elsewhere _ v (omega arith) }
  setting_written stamp ReceiveMode v a = mode_written v (eqb (word l receive_mode) v) refl
  setting_written stamp FifoKind v a = record { happens = refl; mode = elsewhere _ v (omega arith) }
  setting_written stamp TransmitMode v a = record { happens = refl; mode = elsewhere _ v (omega arith) }
  setting_written stamp ReceiveSize v a = record { happens = refl; mode = elsewhere _ v (omega arith) }
  setting_written stamp AlmostFull v a = record { happens = refl; mode = elsewhere _ v (omega arith) }
  setting_written stamp AlmostEmpty v a = record { happens = refl; mode = elsewhere _ v (omega arith) }
  setting_written stamp Rate v a = record { happens = refl; mode = elsewhere _ v (omega arith) }

  called : (stamp : ℕ) (k : ChannelCall) (a : Answer) → Sees (on_called (word l receive_mode) k a) (effect stamp k a l)
  called stamp (Settings (WriteSetting s v)) a = setting_written stamp s v a
  called stamp (Settings (ReadSetting s)) a = record { happens = refl; mode = refl }
  called stamp (Memories k) a = record { happens = refl; mode = refl }
  called stamp (Status k) a = record { happens = refl; mode = refl }
  called stamp (Tests (Sample r)) a = record { happens = refl; mode = refl }
  called stamp (Tests ResetTest) a = record { happens = refl; mode = refl }
  called stamp (Tests (InitiateTest r)) a = record { happens = refl; mode = refl }
  called stamp (Reads k) a = record { happens = refl; mode = refl }
  called stamp (Receive (Arrive w)) a = let s = arrival_seen a _ (word l receive_mode) in record { happens = s.0; mode = s.1 }
  called stamp (Receive ReadFifo) a = let s = read_seen a (word l receive_mode) in record { happens = s.0; mode = s.1 }
  called stamp (Receive (ReadMailbox i)) a = record { happens = refl; mode = refl }
  called stamp (Transmit (WriteFifo w)) a = record { happens = refl; mode = refl }
  called stamp (Transmit (WriteAsync w)) a = record { happens = refl; mode = refl }
  called stamp (Transmit Trigger) a = record { happens = refl; mode = refl }
  called stamp (Transmit Pause) a = record { happens = refl; mode = refl }
  called stamp (Transmit Stop) a = record { happens = refl; mode = refl }
  called stamp (Transmit Step) a = record { happens = refl; mode = refl }

-- ---- a register write: "A register access never changes the receive FIFO"

abbrev Leaves : Turned → Type 0
Leaves (NotTurned r) = Unit
Leaves (OneCall ch k bits) = (stamp : ℕ) (a : Answer) (l : List ℕ) → Sees (left (word l receive_mode)) (effect stamp k a l)
Leaves (EachNamed c mask) = Unit

write_leaves : (x v : ℕ) → Leaves (write_turned x v)
unfolding write_turned
write_leaves x v = go (eqb (x % bytes) 0)
  where
    of_register : (r : Register) → Leaves (write_of r v)
    of_register NoRegister = tt
    of_register (RateOf ch) = λ stamp a l. record { happens = refl; mode = sym (get_or-set_other l rate receive_mode v 0 (omega arith)) }
    of_register (AsyncOf ch) = λ stamp a l. record { happens = refl; mode = refl }
    of_register (StatusOf ch) = tt
    of_register (ScheduleOf ch at) = λ stamp a l. record { happens = refl; mode = refl }
    of_register (MessageOf ch at) = λ stamp a l. record { happens = refl; mode = refl }
    of_register (ControlOf c) = tt

    go : (t : Bool) → Leaves (cond t (write_of (register_at x) v) (NotTurned 30))
    go true = of_register (register_at x)
    go false = tt

-- ---- an access behind a list

module _ (ch : ℕ) (ts : List Telling) where
  abbrev h : History
  h = history ts

  abbrev l : List ℕ
  l = ((history ts).kept ch).settings

  stays : Sees (left (word l receive_mode)) (nothing l)
  stays = record { happens = refl; mode = refl }

  call_seen : (c : Call) (a : Answer) → Sees (by_call ch (word l receive_mode) c a) (effect_on ch (Performed c a) h)
  call_seen (PowerUp n) a = record { happens = refl; mode = refl }
  call_seen Reset a = record { happens = refl; mode = refl }
  call_seen (Wide k) a = stays
  call_seen (On named k) a = go (eqb named ch)
    where
      go : (t : Bool) → Sees (cond t (on_called (word l receive_mode) k a) (left (word l receive_mode))) (cond t (effect h.part.stamp k a l) (nothing l))
      go true = called l (settings-length ch ts) h.part.stamp k a
      go false = stays

  direct_seen : (c : Call) (a : Answer) (t : Bool)
      → Sees (cond t (left (word l receive_mode)) (by_call ch (word l receive_mode) c a)) (effect_on ch (cond t Silent (Performed c a)) h)
  direct_seen c a true = stays
  direct_seen c a false = call_seen c a

  turned_seen : (t : Turned) → Leaves t → Sees (left (word l receive_mode)) (effect_on ch (write_tells t) h)
  turned_seen (NotTurned r) k = stays
  turned_seen (OneCall named k bits) w = go (eqb named ch)
    where
      go : (t : Bool) → Sees (left (word l receive_mode)) (cond t (effect h.part.stamp k Done l) (nothing l))
      go true = w h.part.stamp Done l
      go false = stays
  turned_seen (EachNamed c mask) k = stays

  write_seen : (x v : ℕ) (t : Bool) → Sees (left (word l receive_mode)) (effect_on ch (cond t Silent (write_tells (write_turned x v))) h)
  write_seen x v true = stays
  write_seen x v false = turned_seen (write_turned x v) (write_leaves x v)

  pub access_seen : (x : Access) (a : Answer) → Sees (by_access ch (mode_by ch ts) x a) (effect_on ch (tells x a) h)
  access_seen (Direct c) a = direct_seen c a (is_refused a)
  access_seen (ReadRegister x) a = stays
  access_seen (WriteRegister x v) a = write_seen x v (is_refused a)
