-- Where the answers are those that the history gives, every change fits what the history holds.
-- Assumes nothing.
use Prim.Native.Nat.{ℕ, ◌+◌, ◌%◌, ◌^◌, ◌<◌}
use mathlib.Core.Path.{◌≡◌, refl, sym, ap, ◌∙◌, subst}
use mathlib.Core.Bool.{Bool, true, false, cond, true≢false}
use mathlib.Core.List.{List, [], ◌∷◌}
use native.Mathlib.Omega.{arith}
use borrow.Author.Tests.{eqb-true, eqb-false}
use lib.Dec.{eqb, ltb}
use lib.ListN.{length, get_or, drop}
use Rattle.word.proofs.Laws.{sent_keeps}
use Rattle.block.specs.Layout.{word, parity, receive_mode, transmit_mode}
use Rattle.block.specs.Modes.{scheduled}
use Rattle.fifos.specs.Fifos.{Fifo, Change, Stays, Adds, Overwrites, Takes, Clears, Begins, changed}
use Rattle.settings.specs.Kept.{Kept, Effect}
use Rattle.schedule.specs.declared.Output.{Output}
use Rattle.schedule.specs.declared.Output.TheVariants.{Quiet, FifoWord, Message, Null, Async, Reserved, NullMessage}
use Rattle.receive.specs.Entries.{word_entry, index_entry, entry_of}
use Rattle.receive_reads.specs.Reading.{shown}
use Rattle.receive.specs.Fates.{arrival_change}
use Rattle.arrival.specs.declared.Arrival.{Arrival}
use Rattle.arrival.specs.declared.Arrival.TheVariants.{Ignored, Filtered, Appended, Dropped, Overwriting, AlreadyListed}
use Rattle.receive.proofs.Laws.{entry_shown}
use Rattle.channel_groups.specs.Groups.{entry_answer}
use Rattle.channel_groups.specs.Told.{oldest_of, outcome_by, ArrivalTold, WordTold, StepTold, Told}
use Rattle.channel_calls.specs.Answers.{setting_number, answer_unless, is_refused}
use Rattle.channel_calls.specs.declared.calls.SettingCall.TheVariants.{WriteSetting, ReadSetting}
use Rattle.channel_calls.specs.declared.calls.TestCall.TheVariants.{Sample, ResetTest, InitiateTest}
use Rattle.channel_calls.specs.declared.calls.ReceiveCall.TheVariants.{Arrive, ReadFifo, ReadMailbox}
use Rattle.channel_calls.specs.declared.calls.TransmitCall.TheVariants.{WriteFifo, WriteAsync, Trigger, Pause, Stop, Step}
use Rattle.channel_calls.specs.declared.calls.ChannelCall.{ChannelCall}
use Rattle.channel_calls.specs.declared.calls.ChannelCall.TheVariants.{Settings, Memories, Status, Tests, Reads, Receive, Transmit}
use Rattle.channel_calls.specs.Answer.{Answer, Done, Refused, Value, Waiting, Fates, Arrived, Entry, Stepped}
use Rattle.channel_laws.specs.Effects.{by_answer, arrive_change, read_change, output_change, step_change, nothing, effect}
use Rattle.module.specs.declared.calls.Call.{Call}
use Rattle.module.specs.declared.calls.Call.TheVariants.{PowerUp, Reset, Wide, On}
use Rattle.register_map.specs.Turned.{write_turned}
use Rattle.registers.specs.declared.accesses.Access.{Access}
use Rattle.registers.specs.declared.accesses.Access.TheVariants.{Direct, ReadRegister, WriteRegister}
use Rattle.register_map.specs.Turns.{Turned, NotTurned, OneCall, EachNamed}
use Rattle.module_laws.specs.Reduced.{reduced}
use Rattle.fates.specs.History.{History, Telling, Silent, Performed, write_tells, tells, effect_on, history}
use Rattle.fates.specs.Ledger.{Side, Receiving, Transmitting, fifo_of, change_of, aside, Fits}
use Rattle.fates.specs.Answers.{need_of, is_outside, CallTold, CallAnswered, Answered}
use Rattle.fates.specs.Theorem.{Every}
use Rattle.fates.proofs.Registers.{AsWrite, write_is}
use Rattle.fates.proofs.Ledger.{every_append}

-- a fact of the change that an answer tells, by what the answer says
by_answer_lem : (P : Change → Type 0) {arrived : Arrival → Change} {entry : List ℕ → Change} {stepped : Output → Change} → P Stays → ((o : Arrival) → P (arrived o))
    → ((e : List ℕ) → P (entry e)) → ((o : Output) → P (stepped o)) → (a : Answer) → P (by_answer Stays arrived entry stepped a)
by_answer_lem P s r e o Done = s
by_answer_lem P s r e o (Refused n) = s
by_answer_lem P s r e o (Value x) = s
by_answer_lem P s r e o (Waiting m w) = s
by_answer_lem P s r e o (Fates a b c d t u v) = s
by_answer_lem P s r e o (Arrived a) = r a
by_answer_lem P s r e o (Entry x w t) = e (x ∷ w ∷ t ∷ [])
by_answer_lem P s r e o (Stepped x) = o x

-- ---- entries that a read gives back as they were accepted

abbrev three_of : List ℕ → List ℕ
three_of e = get_or e 0 0 ∷ get_or e 1 0 ∷ get_or e 2 0 ∷ []

record Readable (e : List ℕ) : Type 0 where
  shows : shown e ≡ e
  three : three_of e ≡ e

entry_readable : (stamp w : ℕ) (l : List ℕ) → Readable (entry_of stamp w l)
unfolding entry_of
entry_readable stamp w l = record { shows = entry_shown stamp w l; three = go (eqb (word l receive_mode) 0) }
  where
    go : (t : Bool) → three_of (cond t (word_entry stamp w l) (index_entry w)) ≡ cond t (word_entry stamp w l) (index_entry w)
    go true = refl
    go false = refl

-- a change of the receive FIFO accepts such an entry, if any
abbrev AcceptsReadable : Change → Type 0
AcceptsReadable Stays = Unit
AcceptsReadable (Adds e) = Readable e
AcceptsReadable (Overwrites e) = Readable e
AcceptsReadable (Takes e) = Unit
AcceptsReadable Clears = Unit
AcceptsReadable Begins = Unit

one_less_lem : (s : List (List ℕ)) → Every Readable s → Every Readable (drop 1 s)
one_less_lem [] h = tt
one_less_lem (x ∷ s) h = h.1

readable_after : (c : Change) (f : Fifo) → AcceptsReadable c → Every Readable f.held → Every Readable (changed ◌+◌ c f).held
readable_after Stays f r h = h
readable_after (Adds e) f r h = every_append Readable f.held (e ∷ []) h (r, tt)
readable_after (Overwrites e) f r h = every_append Readable (drop 1 f.held) (e ∷ []) (one_less_lem f.held h) (r, tt)
readable_after (Takes e) f r h = one_less_lem f.held h
readable_after Clears f r h = tt
readable_after Begins f r h = tt

arrival_readable : (o : Arrival) (e : List ℕ) → Readable e → AcceptsReadable (arrival_change o e)
arrival_readable Ignored e r = tt
arrival_readable Filtered e r = tt
arrival_readable Appended e r = r
arrival_readable Dropped e r = tt
arrival_readable Overwriting e r = r
arrival_readable AlreadyListed e r = tt

-- by whether the receive mode is written, and changes
mode_cases : (P : Change → Type 0) → P Stays → P Clears → (p q : Bool) → P (cond p (cond q Stays Clears) Stays)
mode_cases P s c true true = s
mode_cases P s c true false = c
mode_cases P s c false q = s

channel_readable : (stamp : ℕ) (k : ChannelCall) (a : Answer) (l : List ℕ) → AcceptsReadable (effect stamp k a l).receive
channel_readable stamp (Settings (WriteSetting s v)) a l = mode_cases AcceptsReadable tt tt (eqb (setting_number s) receive_mode) (eqb (word l receive_mode) v)
channel_readable stamp (Settings (ReadSetting s)) a l = tt
channel_readable stamp (Memories k) a l = tt
channel_readable stamp (Status k) a l = tt
channel_readable stamp (Tests (Sample x)) a l = tt
channel_readable stamp (Tests ResetTest) a l = tt
channel_readable stamp (Tests (InitiateTest x)) a l = tt
channel_readable stamp (Reads k) a l = tt
channel_readable stamp (Receive (Arrive w)) a l =
    by_answer_lem AcceptsReadable {entry = λ e. Stays} {stepped = λ o. Stays} tt (λ o. arrival_readable o (entry_of stamp w l) (entry_readable stamp w l)) (λ e. tt) (λ o. tt) a
channel_readable stamp (Receive ReadFifo) a l = by_answer_lem AcceptsReadable {arrived = λ o. Stays} {entry = Takes} {stepped = λ o. Stays} tt (λ o. tt) (λ e. tt) (λ o. tt) a
channel_readable stamp (Receive (ReadMailbox i)) a l = tt
channel_readable stamp (Transmit (WriteFifo w)) a l = tt
channel_readable stamp (Transmit (WriteAsync w)) a l = tt
channel_readable stamp (Transmit Trigger) a l = tt
channel_readable stamp (Transmit Pause) a l = tt
channel_readable stamp (Transmit Stop) a l = tt
channel_readable stamp (Transmit Step) a l = tt

effect_readable : (ch : ℕ) (t : Telling) (h : History) → AcceptsReadable (effect_on ch t h).receive
effect_readable ch Silent h = tt
effect_readable ch (Performed (PowerUp n) a) h = tt
effect_readable ch (Performed Reset a) h = tt
effect_readable ch (Performed (Wide k) a) h = tt
effect_readable ch (Performed (On ch' k) a) h = go (eqb ch' ch)
  where
    go : (t : Bool) → AcceptsReadable (cond t (effect h.part.stamp k a (h.kept ch).settings) (nothing (h.kept ch).settings)).receive
    go true = channel_readable h.part.stamp k a (h.kept ch).settings
    go false = tt

-- every entry that a history holds
readable : (ts : List Telling) (ch : ℕ) → Every Readable ((history ts).kept ch).receive.held
readable [] ch = tt
readable (t ∷ before) ch =
    readable_after (effect_on ch t (history before)).receive ((history before).kept ch).receive (effect_readable ch t (history before)) (readable before ch)

first_readable : (s : List (List ℕ)) → Every Readable s → 0 < length s → Readable (get_or s 0 [])
first_readable [] h l = absurd (omega arith)
first_readable (x ∷ s) h l = h.0

-- the oldest is shown as it is
pub oldest-shown : (es : List Telling) (ch : ℕ) → shown (oldest_of ((history es).kept ch).receive) ≡ oldest_of ((history es).kept ch).receive
oldest-shown es ch = go ((history es).kept ch).receive.held (readable es ch)
  where
    go : (s : List (List ℕ)) → Every Readable s → shown (get_or s 0 []) ≡ get_or s 0 []
    go [] h = refl
    go (x ∷ s) h = h.0.shows

-- ---- a call on the channel

module _ (h : Kept) (r : Every Readable h.receive.held) where
  arrive_fits : (a : Answer) (e : List ℕ) → ArrivalTold (reduced h) a → Fits Receiving (arrive_change e a) h.receive
  arrive_fits a e t = subst (λ (x : Answer). Fits Receiving (arrive_change e x) h.receive) (sym t.answer) (go (outcome_by (reduced h) t.filtered t.listed) t.some)
    where
      go : (o : Arrival) → (o ≡ Overwriting → 0 < length h.receive.held) → Fits Receiving (arrival_change o e) h.receive
      go Ignored s = tt
      go Filtered s = tt
      go Appended s = tt
      go Dropped s = tt
      go Overwriting s = s refl
      go AlreadyListed s = tt

  read_fits : (a : Answer) → is_refused a ≡ false → a ≡ answer_unless (cond (eqb (length h.receive.held) 0) 7 0) (entry_answer (oldest_of h.receive))
      → Fits Receiving (read_change a) h.receive
  read_fits a n e = go (eqb (length h.receive.held) 0) refl e
    where
      go : (t : Bool) → eqb (length h.receive.held) 0 ≡ t → a ≡ answer_unless (cond t 7 0) (entry_answer (oldest_of h.receive))
          → Fits Receiving (read_change a) h.receive
      go true p q = absurd (true≢false (sym (ap is_refused q) ∙ n))
      go false p q =
          let some : 0 < length h.receive.held = omega (arith, eqb-false (length h.receive.held) 0 p) in
          subst (λ (x : Answer). Fits Receiving (read_change x) h.receive) (sym q)
          (some, (first_readable h.receive.held r some).three)

  step_fits : (a : Answer) → StepTold (reduced h) a → Fits Transmitting (step_change (word h.settings transmit_mode) a) h.transmit
  step_fits a t =
      subst (λ (x : Answer). Fits Transmitting (step_change (word h.settings transmit_mode) x) h.transmit) (sym t.answer)
      (by_output t.output t.sends)
    where
      sent : (w gap : ℕ) → WordTold (reduced h) w gap → (b : Bool) → Fits Transmitting (cond b Stays (Takes (w ∷ []))) h.transmit
      sent w gap s true = tt
      sent w gap s false = (
        subst (λ (x : List (List ℕ)). 0 < length x) (sym s.first) (omega arith),
        ap (λ (x : ℕ). x % 2 ^ 31 ∷ []) s.is_word ∙ ap (λ (x : ℕ). x ∷ []) (sent_keeps (word h.settings parity) s.oldest)
            ∙ ap (λ (x : List (List ℕ)). aside Transmitting (get_or x 0 [])) (sym s.first),
      )

      by_output : (o : Output) → ((w gap : ℕ) → o ≡ FifoWord w gap → WordTold (reduced h) w gap)
          → Fits Transmitting (output_change (word h.settings transmit_mode) o) h.transmit
      by_output Quiet t = tt
      by_output (FifoWord w gap) t = sent w gap (t w gap refl) (eqb (word h.settings transmit_mode) scheduled)
      by_output (Message w) t = tt
      by_output (Null g) t = tt
      by_output (Async w rest) t = tt
      by_output (Reserved at) t = tt
      by_output (NullMessage w) t = tt

  -- both FIFOs
  abbrev BothFit : Effect → Type 0
  BothFit e = Fits Receiving e.receive h.receive × Fits Transmitting e.transmit h.transmit

  channel_fits : (stamp : ℕ) (k : ChannelCall) (a : Answer) → is_refused a ≡ false → Told (reduced h) k a → BothFit (effect stamp k a h.settings)
  channel_fits stamp (Settings (WriteSetting s v)) a n t =
      (mode_cases (λ c. Fits Receiving c h.receive) tt tt (eqb (setting_number s) receive_mode) (eqb (word h.settings receive_mode) v), tt)
  channel_fits stamp (Settings (ReadSetting s)) a n t = (tt, tt)
  channel_fits stamp (Memories k) a n t = (tt, tt)
  channel_fits stamp (Status k) a n t = (tt, tt)
  channel_fits stamp (Tests (Sample x)) a n t = (tt, tt)
  channel_fits stamp (Tests ResetTest) a n t = (tt, tt)
  channel_fits stamp (Tests (InitiateTest x)) a n t = (tt, tt)
  channel_fits stamp (Reads k) a n t = (tt, tt)
  channel_fits stamp (Receive (Arrive w)) a n t = (arrive_fits a (entry_of stamp w h.settings) t, tt)
  channel_fits stamp (Receive ReadFifo) a n t = (read_fits a n t, tt)
  channel_fits stamp (Receive (ReadMailbox i)) a n t = (tt, tt)
  channel_fits stamp (Transmit (WriteFifo w)) a n t = (tt, tt)
  channel_fits stamp (Transmit (WriteAsync w)) a n t = (tt, tt)
  channel_fits stamp (Transmit Trigger) a n t = (tt, tt)
  channel_fits stamp (Transmit Pause) a n t = (tt, tt)
  channel_fits stamp (Transmit Stop) a n t = (tt, tt)
  channel_fits stamp (Transmit Step) a n t = (tt, step_fits a t)

-- ---- any access

-- an answer that is no refusal is told by the call
accepted-told : (n : ℕ) (c : Call) (a : Answer) (h : History) → is_refused a ≡ false → CallAnswered n c a h → CallTold c a h
accepted-told n c a h ok t = go (ltb n (need_of c h)) (is_outside c h) t
  where
    go : (p q : Bool) → cond p (a ≡ Refused 1) (cond q (a ≡ Refused 3) (CallTold c a h)) → CallTold c a h
    go true q e = absurd (true≢false (sym (ap is_refused e) ∙ ok))
    go false true e = absurd (true≢false (sym (ap is_refused e) ∙ ok))
    go false false e = e

module _ (es : List Telling) where
  abbrev h : History
  h = history es

  -- what a telling does to both FIFOs of channel ch
  abbrev TellingFits : ℕ → Telling → Type 0
  TellingFits ch t = BothFit (h.kept ch) (readable es ch) (effect_on ch t h)

  accepted_fits : (a : Answer) (ch : ℕ) (c : Call) → is_refused a ≡ false → CallTold c a h → TellingFits ch (Performed c a)
  accepted_fits a ch (PowerUp n) ok t = (tt, tt)
  accepted_fits a ch Reset ok t = (tt, tt)
  accepted_fits a ch (Wide k) ok t = (tt, tt)
  accepted_fits a ch (On ch' k) ok t = go (eqb ch' ch) refl
    where
      go : (b : Bool) → eqb ch' ch ≡ b
          → BothFit (h.kept ch) (readable es ch) (cond b (effect h.part.stamp k a (h.kept ch).settings) (nothing (h.kept ch).settings))
      go true p =
          channel_fits (h.kept ch) (readable es ch) h.part.stamp k a ok
          (subst (λ (x : ℕ). Told (reduced (h.kept x)) k a) (eqb-true ch' ch p) t.0)
      go false p = (tt, tt)

  call_fits : (a : Answer) (ch n : ℕ) (c : Call) → CallAnswered n c a h → TellingFits ch (tells (Direct c) a)
  call_fits a ch n c t = go (is_refused a) refl
    where
      go : (b : Bool) → is_refused a ≡ b → TellingFits ch (cond b Silent (Performed c a))
      go true p = (tt, tt)
      go false p = accepted_fits a ch c p (accepted-told n c a h p t)

  -- a register write changes no FIFO
  write_fits : (ch : ℕ) (t : Turned) → AsWrite t → TellingFits ch (write_tells t)
  write_fits ch (NotTurned r) w = (tt, tt)
  write_fits ch (OneCall ch' k bits) w = go (eqb ch' ch)
    where
      go : (b : Bool)
          → BothFit (h.kept ch) (readable es ch) (cond b (effect h.part.stamp k Done (h.kept ch).settings) (nothing (h.kept ch).settings))
      go true = (
        subst (λ (c : Change). Fits Receiving c (h.kept ch).receive) (sym (w.receive h.part.stamp Done (h.kept ch).settings)) tt,
        subst (λ (c : Change). Fits Transmitting c (h.kept ch).transmit) (sym (w.transmit h.part.stamp Done (h.kept ch).settings)) tt,
      )
      go false = (tt, tt)
  write_fits ch (EachNamed c mask) w = (tt, tt)

  both_fit : (a : Answer) (ch n : ℕ) (x : Access) → Answered n x a h → TellingFits ch (tells x a)
  both_fit a ch n (Direct c) t = call_fits a ch n c t
  both_fit a ch n (ReadRegister x) t = (tt, tt)
  both_fit a ch n (WriteRegister x v) t = go (is_refused a)
    where
      go : (b : Bool) → TellingFits ch (cond b Silent (write_tells (write_turned x v)))
      go true = (tt, tt)
      go false = write_fits ch (write_turned x v) (write_is x v)

pub fits : (es : List Telling) (n : ℕ) (x : Access) (a : Answer) → Answered n x a (history es) → (side : Side) (ch : ℕ)
    → Fits side (change_of side (effect_on ch (tells x a) (history es))) (fifo_of side ((history es).kept ch))
fits es n x a t Receiving ch = (both_fit es a ch n x t).0
fits es n x a t Transmitting ch = (both_fit es a ch n x t).1
