-- Every call keeps the schedule's words apart.
-- Assumes nothing.
use Prim.Native.Nat.{ℕ, ◌≤◌}
use mathlib.Core.Path.{◌≡◌, refl, sym, ap, subst}
use mathlib.Core.Bool.{Bool, true, false, cond}
use mathlib.Core.List.{List, [], ◌∷◌, ◌++◌}
use borrow.Author.Tests.{eqb-true, eqb-false}
use native.Mathlib.Omega.{arith}
use lib.Dec.{eqb}
use lib.ListN.{take}
use Rattle.block.specs.Layout.{word, settings, message_mark}
use Rattle.settings.specs.Kept.{Kept}
use Rattle.schedule.specs.Spacing.{Item, Forgotten}
use Rattle.schedule.proofs.Spacing.{Each, Apart}
use Rattle.channel.specs.Channel.{block_answer}
use Rattle.channel_calls.specs.declared.calls.SettingCall.TheVariants.{WriteSetting, ReadSetting}
use Rattle.channel_calls.specs.declared.calls.TransmitCall.TheVariants.{WriteFifo, WriteAsync, Trigger, Pause, Stop, Step}
use Rattle.channel_calls.specs.declared.calls.ChannelCall.{ChannelCall}
use Rattle.channel_calls.specs.declared.calls.ChannelCall.TheVariants.{Settings, Memories, Status, Tests, Reads, Receive, Transmit}
use Rattle.channel_calls.specs.declared.calls.Given.{Given}
use Rattle.channel_laws.specs.Spacing.{line_of}
use Rattle.channel_laws.proofs.Spacing.{call_apart}
use Rattle.frame.specs.Layout.{block}
use Rattle.power.specs.Power.{powered}
use Rattle.reset.specs.Reset.{module_reset}
use Rattle.wide.specs.Refusals.{call_refusal}
use Rattle.wide.specs.OnModule.{wide_after}
use Rattle.wide.specs.declared.calls.WideCall.{WideCall}
use Rattle.module.specs.OnChannel.{on_refusal, given_of, accepted_after}
use Rattle.module.specs.declared.calls.Call.TheVariants.{On}
use Rattle.module_laws.proofs.OnChannel.{on_within, on_same, on_other}
use Rattle.module_laws.proofs.OnModule.{wide_others}
use Rattle.fates.specs.History.{History, Telling, Performed, history}
use Rattle.fates.specs.Agrees.{Agrees}
use Rattle.fates.proofs.Registers.{Quiet}
use Rattle.fates.proofs.Along.{Invariant}
use Rattle.spacing.specs.Line.{line}

-- the words of channel ch are apart, and its mark tells whether the next may follow at once
pub record Holds (ch k : ℕ) (m : List ℕ) (l : List Item) : Type 0 where
  pub each : Each l
  pub mark : 1 ≤ ch → ch ≤ k → Apart (word (block m ch) message_mark) l

-- what holds along a list, of channel ch
abbrev pub Spaces : ℕ → List Telling → List ℕ → Type 0
Spaces ch es m = Holds ch (history es).count m (line ch es)

-- a call that forgets the mark, whatever it leaves
forgets : (ch k : ℕ) (m : List ℕ) {l : List Item} → Each l → Holds ch k m (Forgotten ∷ l)
forgets ch k m e = record { each = e; mark = λ p q. record { each = e; ready = λ z. tt } }

module _ (ch : ℕ) (es : List Telling) (m : List ℕ) (g : Agrees (history es) m) (a : Spaces ch es m) where
  abbrev h : History
  h = history es

  abbrev l : List Item
  l = line ch es

  -- a call on this channel
  own : (k : ChannelCall) → on_refusal ch k m ≡ 0
      → Apart (word (block (accepted_after ch k m) ch) message_mark) (line_of k (block_answer (given_of ch k m) k (block m ch)) (h.kept ch).settings ++ l)
  own k e =
      let w = on_within ch k m e in
      let high : ch ≤ h.count = rw g.count at w.high in
      let before : take settings (block m ch) ≡ (h.kept ch).settings = ap (λ (x : Kept). x.settings) (g.kept ch w.low high) in
      rw (on_same ch k m e, ← before) (call_apart w.usable l (a.mark w.low high) (given_of ch k m) k)

  -- a call on a channel
  module _ (ch' : ℕ) (k : ChannelCall) (e : on_refusal ch' k m ≡ 0) where
    -- what holds of a call on channel x
    abbrev Keeps : ℕ → Type 0
    Keeps x = Apart (word (block (accepted_after x k m) ch) message_mark) (line_of k (block_answer (given_of x k m) k (block m x)) (h.kept ch).settings ++ l)

    on_accepted : (t : Bool) → eqb ch' ch ≡ t
        → Holds ch h.count (accepted_after ch' k m) (cond t (line_of k (block_answer (given_of ch' k m) k (block m ch')) (h.kept ch).settings) [] ++ l)
    on_accepted true z =
        let is : ch' ≡ ch = eqb-true ch' ch z in
        let o : Keeps ch' = subst Keeps (sym is) (own k (subst (λ (x : ℕ). on_refusal x k m ≡ 0) is e)) in
        record { each = o.each; mark = λ p q. o }
    on_accepted false z = record { each = a.each; mark = λ p q. rw (on_other ch' k m e ch p (eqb-false ch' ch z)) (a.mark p q) }

  -- the stamp's calls and the fault threshold's
  wide_accepts : (k : WideCall) → call_refusal k m ≡ 0 → Holds ch h.count (wide_after k m) l
  wide_accepts k e =
      record { each = a.each; mark = λ p q. rw (wide_others g.sane k e ch p (rw g.count q) message_mark (omega arith)) (a.mark p q) }

-- a call on a channel that puts nothing on the line need not be told
quiet_line : (k : ChannelCall) → Quiet k → (g : Given) (b : List ℕ) (l : List ℕ) → line_of k (block_answer g k b) l ≡ []
quiet_line (Settings (WriteSetting s v)) q g b l = absurd q
quiet_line (Settings (ReadSetting s)) q g b l = refl
quiet_line (Memories k) q g b l = refl
quiet_line (Status k) q g b l = refl
quiet_line (Tests k) q g b l = absurd q
quiet_line (Reads k) q g b l = refl
quiet_line (Receive k) q g b l = absurd q
quiet_line (Transmit (WriteFifo w)) q g b l = absurd q
quiet_line (Transmit (WriteAsync w)) q g b l = refl
quiet_line (Transmit Trigger) q g b l = refl
quiet_line (Transmit Pause) q g b l = refl
quiet_line (Transmit Stop) q g b l = refl
quiet_line (Transmit Step) q g b l = absurd q

quietly : (ch : ℕ) (es : List Telling) (m : List ℕ) (ch' : ℕ) (k : ChannelCall) → Quiet k → (g : Given) (b : List ℕ)
    → Spaces ch (Performed (On ch' k) (block_answer g k b) ∷ es) m → Spaces ch es m
quietly ch es m ch' k q g b = go (eqb ch' ch)
  where
    go : (t : Bool) → Holds ch (history es).count m (cond t (line_of k (block_answer g k b) ((history es).kept ch).settings) [] ++ line ch es)
        → Holds ch (history es).count m (line ch es)
    go true h = subst (λ (x : List Item). Holds ch (history es).count m (x ++ line ch es)) (quiet_line k q g b ((history es).kept ch).settings) h
    go false h = h

pub spaces : (ch : ℕ) → Invariant (Spaces ch)
spaces ch =
    record {
      first = λ n l r e. forgets ch n (powered n l ++ r) tt;
      power = λ es m p n l r e. forgets ch n (powered n l ++ r) p.each;
      silent = λ es m p. p;
      on = λ es m g p x k e. on_accepted ch es m g p x k e (eqb x ch) refl;
      wide = λ es m g p k e. wide_accepts ch es m g p k e;
      reset = λ es m g p e. forgets ch (history es).count (module_reset m) p.each;
      quiet = quietly ch;
    }
