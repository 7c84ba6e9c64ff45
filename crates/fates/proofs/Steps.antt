-- One call, lent the first words of a memory that agrees with the history: the memory agrees with the history after it.
-- Assumes nothing.
use Prim.Native.Nat.{ℕ, ◌+◌, ◌≤◌, ◌<◌}
use mathlib.Core.Path.{◌≡◌, refl, sym, ap, ◌∙◌, subst}
use mathlib.Core.Bool.{Bool, true, false, cond}
use mathlib.Core.List.{List, ◌++◌}
use native.Mathlib.Omega.{arith}
use borrow.Author.Tests.{eqb-true, eqb-false, ltb-true, ltb-false}
use lib.Dec.{eqb, ltb}
use lib.ListN.{length, set}
use lib.Seq.{get_or-set_same, get_or-set_other}
use Rattle.block.specs.Layout.{word}
use Rattle.fifos.specs.Counts.{counted}
use Rattle.settings.specs.Kept.{Kept, kept_of, kept_by}
use Rattle.channel.specs.Channel.{block_answer, block_after}
use Rattle.channel_calls.specs.Answers.{is_refused}
use Rattle.channel_calls.specs.Answer.{Answer, Done, Refused}
use Rattle.channel_calls.specs.declared.calls.ChannelCall.{ChannelCall}
use Rattle.channel_laws.specs.Effects.{nothing, effect, reset_effect}
use Rattle.channel_laws.proofs.Calls.{left}
use Rattle.frame.specs.Layout.{count, stamp, resolution, threshold, counters, module_words, need, block}
use Rattle.frame.specs.Refusals.{wide_refusal}
use Rattle.power.specs.Power.{power_refusal, powered}
use Rattle.reset.specs.Reset.{module_reset}
use Rattle.wide.specs.Refusals.{call_refusal}
use Rattle.wide.specs.OnModule.{wide_answer, wide_stored, wide_after}
use Rattle.wide.specs.Part.{Part, part_of}
use Rattle.wide.specs.declared.calls.WideCall.{WideCall}
use Rattle.wide.specs.declared.calls.WideCall.TheVariants.{AdvanceStamp, ZeroStamp, ReadStamp, WriteResolution, ReadResolution, WriteThreshold, ReadThreshold}
use Rattle.module.specs.OnChannel.{on_refusal, given_of, accepted_after}
use Rattle.module.specs.Perform.{answer, after}
use Rattle.module.specs.declared.calls.Call.{Call}
use Rattle.module.specs.declared.calls.Call.TheVariants.{PowerUp, Reset, Wide, On}
use Rattle.registers.specs.declared.accesses.Access.TheVariants.{Direct}
use Rattle.module_laws.specs.Reduced.{reduced}
use Rattle.module_laws.proofs.Rolls.{rolls}
use Rattle.module_laws.proofs.OnChannel.{on_within, on_call, on_word, on_same, on_other, on_sane}
use Rattle.module_laws.proofs.OnModule.{wide_sane, wide_count, wide_word, wide_kept}
use Rattle.module_laws.proofs.Reset.{reset_sane, reset_word, reset_kept}
use Rattle.power.proofs.Laws.{powered-word}
use Rattle.module_laws.proofs.Lent.{Alike, Short, front, front_on, front_wide, front_reset, short_on, short_wide, short_reset, powered_kept, powered_sane}
use Rattle.fates.specs.History.{History, part_by, Silent, Performed, tells, history_step}
use Rattle.fates.specs.Agrees.{Agrees}
use Rattle.fates.proofs.Accepted.{block-accepted, wide_accepted}

-- the module part, by its words
part_is : {s s' r r' t t' : ℕ} → s ≡ s' → r ≡ r' → t ≡ t'
    → ◌≡◌ {A = Part} (record { stamp = s; resolution = r; threshold = t }) (record { stamp = s'; resolution = r'; threshold = t' })
part_is s r t = λ i. record { stamp = s i; resolution = r i; threshold = t i }

-- the history after a call with its answer
abbrev pub call_step : Call → Answer → History → History
call_step c a h = history_step (tells (Direct c) a) h

accepted_step : (c : Call) (a : Answer) (h : History) (m : List ℕ) → is_refused a ≡ false → Agrees (history_step (Performed c a) h) m → Agrees (call_step c a h) m
accepted_step c a h m e g = subst (λ (t : Bool). Agrees (history_step (cond t Silent (Performed c a)) h) m) (sym e) g

-- an access that tells nothing
pub silent : {h : History} {m : List ℕ} → Agrees h m → Agrees (history_step Silent h) m
silent g = record { sane = g.sane; count = g.count; part = g.part; kept = g.kept }

-- ---- a power-up, whatever was before

pub powers : (n : ℕ) (h : History) (l r : List ℕ) → power_refusal n (length l) ≡ 0 → Agrees (call_step (PowerUp n) Done h) (powered n l ++ r)
powers n h l r e =
    record {
      sane = powered_sane n l r e;
      count = powered-word n count l r (omega arith);
      part = part_is (powered-word n stamp l r (omega arith)) (powered-word n resolution l r (omega arith)) (powered-word n threshold l r (omega arith));
      kept = λ ch p q. powered_kept n l r ch p q;
    }

-- ---- on the whole memory

module _ {h : History} {m : List ℕ} (g : Agrees h m) where
  -- a call on a channel
  module _ (ch : ℕ) (k : ChannelCall) where
    abbrev a : Answer
    a = block_answer (given_of ch k m) k (block m ch)

    module _ (e : on_refusal ch k m ≡ 0) where
      same : kept_of (block (accepted_after ch k m) ch) ≡ reduced (kept_by ◌+◌ (effect h.part.stamp k a (h.kept ch).settings) (h.kept ch))
      same =
          let w = on_within ch k m e in
          ap kept_of (on_same ch k m e)
          ∙ (left (given_of ch k m) k w.usable (on_call ch k m e)).is
          ∙ ap (λ (p : Part). kept_by counted (effect p.stamp k a (kept_of (block m ch)).settings) (kept_of (block m ch))) g.part
          ∙ ap (λ (x : Kept). kept_by counted (effect h.part.stamp k a x.settings) x) (g.kept ch w.low (rw g.count at w.high))
          ∙ sym (rolls (effect h.part.stamp k a (h.kept ch).settings) (h.kept ch))

      each : (ch' : ℕ) → 1 ≤ ch' → ch' ≤ h.count → (t : Bool) → eqb ch ch' ≡ t
          → kept_of (block (accepted_after ch k m) ch')
          ≡ reduced (kept_by ◌+◌ (cond t (effect h.part.stamp k a (h.kept ch').settings) (nothing (h.kept ch').settings)) (h.kept ch'))
      each ch' p q true z =
          subst (λ (x : ℕ). kept_of (block (accepted_after ch k m) x) ≡ reduced (kept_by ◌+◌ (effect h.part.stamp k a (h.kept x).settings) (h.kept x)))
          (eqb-true ch ch' z) same
      each ch' p q false z = ap kept_of (on_other ch k m e ch' p (eqb-false ch ch' z)) ∙ g.kept ch' p q

      on_accepted : Agrees (history_step (Performed (On ch k) a) h) (accepted_after ch k m)
      on_accepted =
          let still : (i : ℕ) → i < counters → word (accepted_after ch k m) i ≡ word m i = on_word ch k m e in
          record {
            sane = on_sane ch k m e g.sane;
            count = still count (omega arith) ∙ g.count;
            part =
                part_is (still stamp (omega arith) ∙ ap (λ (p : Part). p.stamp) g.part)
                (still resolution (omega arith) ∙ ap (λ (p : Part). p.resolution) g.part)
                (still threshold (omega arith) ∙ ap (λ (p : Part). p.threshold) g.part);
            kept = λ ch' p q. each ch' p q (eqb ch ch') refl;
          }

    on_step : (t : Bool) → eqb (on_refusal ch k m) 0 ≡ t
        → Agrees (call_step (On ch k) (cond t a (Refused (on_refusal ch k m))) h) (cond t (accepted_after ch k m) m)
    on_step true e =
        accepted_step (On ch k) a h (accepted_after ch k m) (block-accepted k (block_after (given_of ch k m) k (block m ch)) (block m ch)) (on_accepted (eqb-true _ _ e))
    on_step false e = silent g

  -- a module reset
  reset_step : (t : Bool) → eqb (wide_refusal m) 0 ≡ t
      → Agrees (call_step Reset (cond t Done (Refused (wide_refusal m))) h) (cond t (module_reset m) m)
  reset_step true e =
      record {
        sane = reset_sane g.sane;
        count = reset_word g.sane count (omega arith) ∙ g.count;
        part =
            part_is (reset_word g.sane stamp (omega arith)) (reset_word g.sane resolution (omega arith)) (reset_word g.sane threshold (omega arith));
        kept =
            λ ch p q. reset_kept g.sane ch p (rw g.count q) ∙ ap (kept_by counted reset_effect) (g.kept ch p q) ∙ sym (rolls reset_effect (h.kept ch));
      }
  reset_step false e = silent g

  -- the stamp's calls and the fault threshold's: a word of the module part written, and another
  here : (i v : ℕ) → i < module_words → word (set m i v) i ≡ v
  here i v l = get_or-set_same m i v 0 (omega (arith, g.sane.frame))

  there : (i j v : ℕ) → (j ≡ i → ⊥) → word (set m i v) j ≡ word m j
  there i j v ne = get_or-set_other m i j v 0 ne

  stored : (k : WideCall) → part_of (wide_stored k m) ≡ part_by k (part_of m)
  stored (AdvanceStamp n) = part_is (here stamp _ (omega arith)) (there stamp resolution _ (omega arith)) (there stamp threshold _ (omega arith))
  stored ZeroStamp = part_is (here stamp 0 (omega arith)) (there stamp resolution 0 (omega arith)) (there stamp threshold 0 (omega arith))
  stored ReadStamp = refl
  stored (WriteResolution x) = part_is (there resolution stamp x (omega arith)) (here resolution x (omega arith)) (there resolution threshold x (omega arith))
  stored ReadResolution = refl
  stored (WriteThreshold x) = part_is (there threshold stamp x (omega arith)) (there threshold resolution x (omega arith)) (here threshold x (omega arith))
  stored ReadThreshold = refl

  wide_step : (k : WideCall) (t : Bool) → eqb (call_refusal k m) 0 ≡ t
      → Agrees (call_step (Wide k) (cond t (wide_answer k m) (Refused (call_refusal k m))) h) (cond t (wide_after k m) m)
  wide_step k true z =
      let e = eqb-true (call_refusal k m) 0 z in
      let w = wide_word g.sane k e in
      accepted_step (Wide k) (wide_answer k m) h (wide_after k m) (wide_accepted k m)
      (record {
        sane = wide_sane g.sane k e;
        count = wide_count g.sane k e ∙ g.count;
        part = part_is (w stamp (omega arith)) (w resolution (omega arith)) (w threshold (omega arith)) ∙ stored k ∙ ap (part_by k) g.part;
        kept = λ ch p q. wide_kept g.sane k e ch p (rw g.count q) ∙ g.kept ch p q;
      })
  wide_step k false e = silent g

-- ---- on its first words

module _ {h : History} (l r : List ℕ) (g : Agrees h (l ++ r)) where
  alike : (c : Call) → Alike c l r → Agrees (call_step c (answer c (l ++ r)) h) (after c (l ++ r)) → Agrees (call_step c (answer c l) h) (after c l ++ r)
  alike c s k = rw (s.answers, s.leaves) k

  short : (c : Call) → Short c l → Agrees (call_step c (answer c l) h) (after c l ++ r)
  short c s = rw (s.answers, s.leaves) (silent g)

  power_step : (n : ℕ) (t : Bool) → eqb (power_refusal n (length l)) 0 ≡ t
      → Agrees (call_step (PowerUp n) (cond t Done (Refused (power_refusal n (length l)))) h) (cond t (powered n l) l ++ r)
  power_step n true e = powers n h l r (eqb-true _ _ e)
  power_step n false e = silent g

  -- by whether enough words are lent
  by_length : (c : Call) (t : Bool) → ltb (length l) (need (word (l ++ r) count)) ≡ t → Agrees (call_step c (answer c l) h) (after c l ++ r)
  by_length (PowerUp n) t e = power_step n (eqb (power_refusal n (length l)) 0) refl
  by_length Reset true e = short Reset (short_reset l r g.sane (ltb-true _ _ e))
  by_length Reset false e =
      alike Reset (front_reset (front l r g.sane (ltb-false _ _ e))) (reset_step g (eqb (wide_refusal (l ++ r)) 0) refl)
  by_length (Wide k) true e = short (Wide k) (short_wide l r g.sane (ltb-true _ _ e) k)
  by_length (Wide k) false e =
      alike (Wide k) (front_wide (front l r g.sane (ltb-false _ _ e)) k) (wide_step g k (eqb (call_refusal k (l ++ r)) 0) refl)
  by_length (On ch k) true e = short (On ch k) (short_on l r g.sane (ltb-true _ _ e) ch k)
  by_length (On ch k) false e =
      alike (On ch k) (front_on (front l r g.sane (ltb-false _ _ e)) ch k) (on_step g ch k (eqb (on_refusal ch k (l ++ r)) 0) refl)

  pub lent_step : (c : Call) → Agrees (call_step c (answer c l) h) (after c l ++ r)
  lent_step c = by_length c (ltb (length l) (need (word (l ++ r) count))) refl
