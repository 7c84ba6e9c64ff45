-- Every answer is the one that the history before the call gives.
-- Assumes nothing.
use Prim.Native.Nat.{ℕ, zero, suc, ◌<◌, ◌≤◌, zero-le}
use mathlib.Core.Path.{◌≡◌, refl, sym, ap, ◌∙◌, subst}
use mathlib.Core.Bool.{Bool, true, false, cond, not, ◌&&◌, ◌||◌, true≢false}
use mathlib.Core.List.{List, ◌++◌}
use native.Mathlib.Omega.{arith}
use borrow.Author.Tests.{eqb-false, ltb-true, ltb-false, le-ltb}
use lib.Dec.{eqb, ltb}
use lib.ListN.{length, take, drop, take-append-drop}
use Rattle.block.specs.Layout.{word, transmitter}
use Rattle.fifos.specs.Fifos.{receive_offsets, fifo}
use Rattle.settings.specs.Kept.{Kept, kept_of}
use Rattle.receive_reads.specs.Reading.{shown}
use Rattle.channel.specs.Channel.{block_answer, block_after}
use Rattle.channel_groups.specs.Told.{oldest_of, Told}
use Rattle.channel.proofs.Answered.{block-told}
use Rattle.channel_calls.specs.Answers.{answer_unless, is_refused}
use Rattle.channel_calls.specs.Refusals.{channel_refusal}
use Rattle.channel_calls.proofs.Late.{late}
use Rattle.channel_calls.specs.Answer.{Answer, Done, Refused, Value}
use Rattle.channel_calls.specs.declared.calls.ChannelCall.{ChannelCall}
use Rattle.frame.specs.Layout.{count, most, need, block}
use Rattle.power.specs.Power.{power_refusal}
use Rattle.wide.specs.Refusals.{call_refusal, wide_call_refusal}
use Rattle.wide.specs.OnModule.{wide_answer}
use Rattle.wide.specs.Part.{Part, WideTold}
use Rattle.wide.proofs.Told.{wide_told}
use Rattle.wide.specs.declared.calls.WideCall.{WideCall}
use Rattle.module.specs.OnChannel.{on_refusal, given_of, on_answer}
use Rattle.module.specs.Perform.{answer}
use Rattle.module.specs.declared.calls.Call.{Call}
use Rattle.module.specs.declared.calls.Call.TheVariants.{PowerUp, Reset, Wide, On}
use Rattle.register_map.specs.Shown.{shown as register_shown}
use Rattle.registers.specs.Access.{turned_answer, access_answer}
use Rattle.register_map.specs.Turned.{read_turned, write_turned}
use Rattle.registers.specs.Masked.{control_call, refused_on, tried_to, refused_to, masked_answer}
use Rattle.registers.specs.declared.accesses.Access.{Access}
use Rattle.registers.specs.declared.accesses.Access.TheVariants.{Direct, ReadRegister, WriteRegister}
use Rattle.register_map.specs.declared.map.Control.{Control}
use Rattle.register_map.specs.declared.map.Control.TheVariants.{TriggerEach, PauseEach, StopEach}
use Rattle.register_map.specs.Turns.{Turned, NotTurned, OneCall, EachNamed}
use Rattle.module_laws.specs.Reduced.{reduced}
use Rattle.module_laws.proofs.Sane.{sane_part, sane_wide}
use Rattle.module_laws.proofs.Lent.{front, front_on, front_wide, front_reset, sane_on, part_short, short_on, short_wide, short_reset}
use Rattle.fates.specs.History.{History}
use Rattle.fates.specs.Answers.{CallTold, CallAnswered, refuses_by, mask_to, NoMask, TurnedTold, Answered}
use Rattle.fates.specs.Agrees.{Agrees}
use Rattle.fates.proofs.Accepted.{block-accepted}
use Rattle.fates.proofs.Registers.{AsWrite, write_is}
use Rattle.fates.proofs.Accesses.{tried_agrees}
use Rattle.fates.proofs.Untouched.{tried_length}

-- ---- a power-up, on any memory

pub power-answered : (k n : ℕ) (h : History) → CallAnswered n (PowerUp k) (answer_unless (power_refusal k n) Done) h
unfolding power_refusal
power-answered k n h = go (ltb k 1) (ltb most k)
  where
    none : ltb n 0 ≡ false
    none = le-ltb n 0 zero-le

    enough : (t : Bool) → cond t (answer_unless (cond t 1 0) Done ≡ Refused 1) (answer_unless (cond t 1 0) Done ≡ Done)
    enough true = refl
    enough false = refl

    go : (p q : Bool) →
        let a : Answer = answer_unless (cond p 4 (cond q 4 (cond (ltb n (need k)) 1 0))) Done in
        cond (ltb n (cond (not p && not q) (need k) 0)) (a ≡ Refused 1) (a ≡ answer_unless (cond (not p && not q) 0 4) Done)
    go true q = rw none refl
    go false true = rw none refl
    go false false = enough (ltb n (need k))

-- ---- on the whole memory of a module that agrees with the history

module _ {h : History} {m : List ℕ} (g : Agrees h m) where
  -- a call on a channel is refused with none of 1 to 3
  not_early : (ch : ℕ) (k : ChannelCall) (b : List ℕ) (r : ℕ)
      → answer_unless (channel_refusal k b) (block_answer (given_of ch k m) k b) ≡ Refused r → 3 < r
  not_early ch k b r e = go (eqb (channel_refusal k b) 0) refl e
    where
      go : (t : Bool) → eqb (channel_refusal k b) 0 ≡ t → cond t (block_answer (given_of ch k m) k b) (Refused (channel_refusal k b)) ≡ Refused r → 3 < r
      go true p q = absurd (true≢false (sym (ap is_refused q) ∙ block-accepted k (block_after (given_of ch k m) k b) b))
      go false p q =
          let same : channel_refusal k b ≡ r = cc in
          subst (λ (n : ℕ). 3 < n) same (late k b (eqb-false (channel_refusal k b) 0 p))

  on_answered : (ch : ℕ) (k : ChannelCall) → shown (oldest_of (h.kept ch).receive) ≡ oldest_of (h.kept ch).receive → (t u : Bool) → ltb ch 1 ≡ t
      → ltb (word m count) ch ≡ u
      → cond (t || u) (answer (On ch k) m ≡ Refused 3) (CallTold (On ch k) (answer (On ch k) m) h)
  on_answered ch k r true u p q = rw (sane_on g.sane ch k true u p q) refl
  on_answered ch k r false true p q = rw (sane_on g.sane ch k false true p q) refl
  on_answered ch k r false false p q =
      rw (sane_on g.sane ch k false false p q)
      (subst (λ (x : Kept). Told x k a) kept (block-told b (given_of ch k m) k (g.sane.usable ch low high) shows), not_early ch k b)
    where
      b : List ℕ
      b = block m ch

      a : Answer
      a = answer_unless (channel_refusal k (block m ch)) (block_answer (given_of ch k m) k (block m ch))

      low : 1 ≤ ch
      low = ltb-false ch 1 p

      high : ch ≤ word m count
      high = ltb-false (word m count) ch q

      kept : kept_of (block m ch) ≡ reduced (h.kept ch)
      kept = g.kept ch low (rw g.count at high)

      shows : shown (oldest_of (fifo receive_offsets (block m ch))) ≡ oldest_of (fifo receive_offsets (block m ch))
      shows = subst (λ (x : Kept). shown (oldest_of x.receive) ≡ oldest_of x.receive) (sym kept) r

  reset_answered : answer Reset m ≡ Done
  reset_answered = rw (sane_wide g.sane) refl

  wide_answered : (k : WideCall) → WideTold h.part k (answer (Wide k) m)
  unfolding call_refusal
  wide_answered k = rw (sane_wide g.sane) (subst (λ (p : Part). WideTold p k (answer_unless (wide_call_refusal k) (wide_answer k m))) g.part (wide_told k m))

-- ---- on its first words

module _ {h : History} (l r : List ℕ) (g : Agrees h (l ++ r)) where
  by_length : (c : Call) → ((ch : ℕ) → shown (oldest_of (h.kept ch).receive) ≡ oldest_of (h.kept ch).receive) → (t : Bool)
      → ltb (length l) (need (word (l ++ r) count)) ≡ t → CallAnswered (length l) c (answer c l) h
  by_length (PowerUp n) s t e = power-answered n (length l) h
  by_length Reset s true e = rw (← g.count, e) (short_reset l r g.sane (ltb-true _ _ e)).answers
  by_length Reset s false e = rw (← g.count, e, (front_reset (front l r g.sane (ltb-false _ _ e))).answers) (reset_answered g)
  by_length (Wide k) s true e = rw (← g.count, e) (short_wide l r g.sane (ltb-true _ _ e) k).answers
  by_length (Wide k) s false e = rw (← g.count, e, (front_wide (front l r g.sane (ltb-false _ _ e)) k).answers) (wide_answered g k)
  by_length (On ch k) s true e = rw (← g.count, e) (short_on l r g.sane (ltb-true _ _ e) ch k).answers
  by_length (On ch k) s false e =
      rw (← g.count, e, (front_on (front l r g.sane (ltb-false _ _ e)) ch k).answers)
      (on_answered g ch k (s ch) (ltb ch 1) (ltb (word (l ++ r) count) ch) refl refl)

  -- ---- a register

  module _ (s : (ch : ℕ) → shown (oldest_of (h.kept ch).receive) ≡ oldest_of (h.kept ch).receive) where
    call_answered : (c : Call) → CallAnswered (length l) c (answer c l) h
    call_answered c = by_length c s (ltb (length l) (need (word (l ++ r) count))) refl

-- whether a named channel refuses, by the history
refused_by : (h : History) (c : Control) (ch n : ℕ) (a : Answer) → 1 ≤ ch → need h.count ≤ n → CallAnswered n (On ch (control_call c)) a h
    → is_refused a ≡ refuses_by c ch h
refused_by h c ch n a low enough t = go c (ltb h.count ch) refl (rw (le-ltb n (need h.count) enough, le-ltb ch 1 low) at t)
  where
    trigger : (b : Bool) → is_refused (answer_unless (cond b 5 0) Done) ≡ b
    trigger true = refl
    trigger false = refl

    go : (c : Control) (b : Bool) → ltb h.count ch ≡ b → cond b (a ≡ Refused 3) (CallTold (On ch (control_call c)) a h) → is_refused a ≡ refuses_by c ch h
    go TriggerEach true p e = rw p (ap is_refused e)
    go TriggerEach false p e = rw p (ap is_refused e.0 ∙ trigger (eqb (word (h.kept ch).settings transmitter) 0))
    go PauseEach true p e = rw p (ap is_refused e)
    go PauseEach false p e = rw p (ap is_refused e.0)
    go StopEach true p e = rw p (ap is_refused e)
    go StopEach false p e = rw p (ap is_refused e.0)

-- a write that is done answers 0
no_mask : (l : List ℕ) (t : Turned) → AsWrite t → NoMask t (turned_answer t l)
no_mask l (NotTurned n) w = tt
no_mask l (OneCall ch k bits) w = go (eqb (on_refusal ch k l) 0)
  where
    go : (t : Bool) →
        let a : Answer = register_shown bits (cond t (block_answer (given_of ch k l) k (block l ch)) (Refused (on_refusal ch k l))) in
        is_refused a ≡ false → a ≡ Value 0
    go true e = ap (register_shown bits) (w.done (given_of ch k l) (block l ch))
    go false e = absurd (true≢false e)
no_mask l (EachNamed c mask) w = tt

module _ {h : History} (r : List ℕ) (s : (ch : ℕ) → shown (oldest_of (h.kept ch).receive) ≡ oldest_of (h.kept ch).receive) where
  module _ (l : List ℕ) (g : Agrees h (l ++ r)) (c : Control) (mask : ℕ) where
    -- the mask, with enough words lent
    mask_is : need h.count ≤ length l → (n : ℕ) → refused_to c mask n l ≡ mask_to c mask h n
    unfolding refused_to refused_on
    mask_is enough zero = refl
    mask_is enough (suc n) =
        let m : List ℕ = tried_to c mask n l in
        let t = call_answered m r (tried_agrees r c mask l g n) s (On (suc n) (control_call c)) in
        let e = refused_by h c (suc n) (length m) (on_answer (suc n) (control_call c) m) (omega arith) (rw (tried_length c mask l n) enough) t in
        rw (e, mask_is enough n) refl

    masked_answered : (t : Bool) → ltb (length l) (need h.count) ≡ t
        → masked_answer c mask l ≡ cond t (Refused 1) (Value (mask_to c mask h most))
    masked_answered true p = rw (part_short l r g.sane (rw g.count (ltb-true _ _ p))) refl
    masked_answered false p =
        let enough : need h.count ≤ length l = ltb-false _ _ p in
        rw (sane_part (front l r g.sane (rw g.count enough)).sane) (ap Value (mask_is enough most))

  turned_answered : (l : List ℕ) → Agrees h (l ++ r) → (t : Turned) → TurnedTold (length l) t (turned_answer t l) h
  turned_answered l g (NotTurned n) = refl
  turned_answered l g (OneCall ch k bits) = record { answer = on_answer ch k l; told = call_answered l r g s (On ch k); is = refl }
  turned_answered l g (EachNamed c mask) = masked_answered l g c mask (ltb (length l) (need h.count)) refl

  access_answered : (l : List ℕ) → Agrees h (l ++ r) → (x : Access) → Answered (length l) x (access_answer x l) h
  access_answered l g (Direct c) = call_answered l r g s c
  access_answered l g (ReadRegister x) = turned_answered l g (read_turned x)
  access_answered l g (WriteRegister x v) = (turned_answered l g (write_turned x v), no_mask l (write_turned x v) (write_is x v))

-- an access that is lent the first k words
pub answered : {h : History} {m : List ℕ} → Agrees h m → ((ch : ℕ) → shown (oldest_of (h.kept ch).receive) ≡ oldest_of (h.kept ch).receive) → (k : ℕ)
    (x : Access) → Answered (length (take k m)) x (access_answer x (take k m)) h
answered {h} {m} g s k x = access_answered (drop k m) s (take k m) (subst (Agrees h) (sym (take-append-drop k m)) g) x
