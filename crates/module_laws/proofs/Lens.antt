-- The laws of a channel's share: a call goes by it, a call on one channel leaves another's, and what two put back can be put in either order.
-- Assumes nothing.
use Prim.Native.Nat.{ℕ, ◌+◌, ◌≤◌}
use mathlib.Core.Path.{◌≡◌, refl, sym, ap, ◌∙◌}
use mathlib.Core.Bool.{Bool, true, false, cond, true≢false}
use mathlib.Core.List.{List}
use native.Mathlib.Omega.{arith}
use borrow.Author.Tests.{eqb-true, ltb-false}
use lib.Dec.{eqb, ltb}
use lib.ListN.{length, set, length-set}
use lib.Seq.{set_comm}
use Rattle.block.specs.Layout.{word, block_words}
use Rattle.block.specs.Refusals.{leave_unless}
use Rattle.channel_calls.specs.Answer.{Refused}
use Rattle.channel_calls.specs.declared.calls.ChannelCall.{ChannelCall}
use Rattle.channel.specs.Channel.{block_answer}
use Rattle.frame.specs.Layout.{count, stamp, threshold, most, base, with_block}
use Rattle.frame.specs.Refusals.{part_refusal, channel_of}
use Rattle.frame.proofs.Refused.{standing}
use Rattle.frame.proofs.Blocks.{with_set, with_comm}
use Rattle.module.specs.OnChannel.{on_refusal, counter_at, accepted_after, on_answer, on_after}
use Rattle.module_laws.specs.Lens.{Share, seen, put, refusal_by, given_by, answer_by, accepted_by, after_by}
use Rattle.module_laws.proofs.Sane.{standing_part}
use Rattle.module_laws.proofs.OnChannel.{on_within, on_word, on_part, on_other, on_standing, usable_after, in_most}

-- ---- a call goes by what it sees

module _ (ch : ℕ) (k : ChannelCall) (m : List ℕ) where
  pub refusal_by_lem : on_refusal ch k m ≡ refusal_by ch k (seen ch m)
  unfolding on_refusal refusal_by channel_of
  refusal_by_lem = refl

  pub answer_by_lem : on_answer ch k m ≡ answer_by ch k (seen ch m)
  unfolding on_refusal refusal_by channel_of
  answer_by_lem = refl

  pub after_by_lem : on_after ch k m ≡ after_by ch k (seen ch m) m
  unfolding on_refusal refusal_by channel_of
  after_by_lem = refl

-- ---- a call on one channel leaves another's share

-- for a call on channel ch a memory m' is as m is
pub record Same (ch : ℕ) (m' m : List ℕ) : Type 0 where
  pub part : part_refusal m' ≡ part_refusal m
  pub channels : word m' count ≡ word m count
  pub share : 1 ≤ ch → ch ≤ word m count → ch ≤ most → seen ch m' ≡ seen ch m

share_is : {s s' : Share} → s.part ≡ s'.part → s.count ≡ s'.count → s.stamp ≡ s'.stamp → s.threshold ≡ s'.threshold → s.counter ≡ s'.counter
    → s.block ≡ s'.block → s ≡ s'
share_is p c t h n b = λ i. record { part = p i; count = c i; stamp = t i; threshold = h i; counter = n i; block = b i }

module _ (ch : ℕ) (k : ChannelCall) (m : List ℕ) (e : on_refusal ch k m ≡ 0) (other : ℕ) (ne : ch ≡ other → ⊥) where
  same_part : part_refusal (accepted_after ch k m) ≡ part_refusal m
  same_part = standing_part (on_standing ch k m e) ∙ sym (standing_part (on_within ch k m e).standing)

  same_share : 1 ≤ other → other ≤ most → seen other (accepted_after ch k m) ≡ seen other m
  same_share low high =
      let w = on_within ch k m e in
      let l = w.low in
      let h = in_most ch k m e in
      share_is same_part (on_word ch k m e count (omega arith)) (on_word ch k m e stamp (omega arith)) (on_word ch k m e threshold (omega arith))
      (on_part ch k m e (counter_at other) (omega arith) (omega arith)) (on_other ch k m e other low ne)

pub stays : (ch : ℕ) (k : ChannelCall) (m : List ℕ) (other : ℕ) → (ch ≡ other → ⊥) → Same other (on_after ch k m) m
stays ch k m other ne = go (eqb (on_refusal ch k m) 0) refl
  where
    go : (t : Bool) → eqb (on_refusal ch k m) 0 ≡ t → Same other (cond t (accepted_after ch k m) m) m
    go true z =
        let e = eqb-true _ _ z in
        record {
          part = same_part ch k m e other ne;
          channels = on_word ch k m e count (omega arith);
          share = λ low here high. same_share ch k m e other ne low high;
        }
    go false z = record { part = refl; channels = refl; share = λ low here high. refl }

-- ---- so it does there what it does here

-- a refusal of the module part comes first, and a channel outside the count before its block is looked at
part_first_lem : (ch : ℕ) (k : ChannelCall) (m : List ℕ) → eqb (part_refusal m) 0 ≡ false → on_refusal ch k m ≡ part_refusal m
unfolding on_refusal channel_of
part_first_lem ch k m z = rw (z, z) refl

outside : (ch : ℕ) (k : ChannelCall) (m : List ℕ) (t u : Bool) → part_refusal m ≡ 0 → ltb ch 1 ≡ t → ltb (word m count) ch ≡ u → cond t true u ≡ true
    → on_refusal ch k m ≡ 3
unfolding on_refusal channel_of
outside ch k m true u z p q e = rw (z, p) refl
outside ch k m false true z p q e = rw (z, p, q) refl
outside ch k m false false z p q e = absurd (true≢false (sym e))

module _ (ch : ℕ) (k : ChannelCall) (m' m : List ℕ) (h : Same ch m' m) where
  pub same_refusal : on_refusal ch k m' ≡ on_refusal ch k m
  same_refusal = go (eqb (part_refusal m) 0) refl
    where
      here : part_refusal m ≡ 0 → (t u : Bool) → ltb ch 1 ≡ t → ltb (word m count) ch ≡ u → on_refusal ch k m' ≡ on_refusal ch k m
      here z true u p q =
          outside ch k m' true u (h.part ∙ z) p (ap (λ (n : ℕ). ltb n ch) h.channels ∙ q) refl ∙ sym (outside ch k m true u z p q refl)
      here z false true p q =
          outside ch k m' false true (h.part ∙ z) p (ap (λ (n : ℕ). ltb n ch) h.channels ∙ q) refl ∙ sym (outside ch k m false true z p q refl)
      here z false false p q =
          let high : ch ≤ word m count = ltb-false _ _ q in
          let f = (standing m z).frame in
          refusal_by_lem ch k m' ∙ ap (refusal_by ch k) (h.share (ltb-false _ _ p) high (omega (arith, high, f.high))) ∙ sym (refusal_by_lem ch k m)

      go : (t : Bool) → eqb (part_refusal m) 0 ≡ t → on_refusal ch k m' ≡ on_refusal ch k m
      go true z = here (eqb-true _ _ z) (ltb ch 1) (ltb (word m count) ch) refl refl
      go false z = part_first_lem ch k m' (ap (λ (n : ℕ). eqb n 0) h.part ∙ z) ∙ h.part ∙ sym (part_first_lem ch k m z)

  -- a call that is not refused sees the same
  same_seen : on_refusal ch k m ≡ 0 → seen ch m' ≡ seen ch m
  same_seen e = let w = on_within ch k m e in h.share w.low w.high (in_most ch k m e)

  pub same_answer : on_answer ch k m' ≡ on_answer ch k m
  same_answer = rw same_refusal (go (eqb (on_refusal ch k m) 0) refl (on_refusal ch k m))
    where
      go : (t : Bool) → eqb (on_refusal ch k m) 0 ≡ t → (r : ℕ)
          → cond t (block_answer (given_by ch k (seen ch m')) k (seen ch m').block) (Refused r) ≡ cond t (block_answer (given_by ch k (seen ch m)) k (seen ch m).block) (Refused r)
      go true z r = ap (λ (s : Share). block_answer (given_by ch k s) k s.block) (same_seen (eqb-true _ _ z))
      go false z r = refl

  pub same_effect : on_after ch k m' ≡ leave_unless (on_refusal ch k m) (accepted_by ch k (seen ch m) m') m'
  same_effect = rw same_refusal (go (eqb (on_refusal ch k m) 0) refl)
    where
      go : (t : Bool) → eqb (on_refusal ch k m) 0 ≡ t → cond t (accepted_after ch k m') m' ≡ cond t (accepted_by ch k (seen ch m) m') m'
      go true z = ap (λ (s : Share). accepted_by ch k s m') (same_seen (eqb-true _ _ z))
      go false z = refl

-- ---- what two channels put back, in either order

pub put_put : (m b c : List ℕ) (ch ch' x y : ℕ) → length b ≡ block_words → length c ≡ block_words → base ch + block_words ≤ length m
    → base ch' + block_words ≤ length m → 1 ≤ ch → 1 ≤ ch' → ch ≤ most → ch' ≤ most → (ch ≡ ch' → ⊥)
    → put ch' y c (put ch x b m) ≡ put ch x b (put ch' y c m)
put_put m b c ch ch' x y p q r s low low' high high' ne =
    ap (λ (l : List ℕ). with_block l ch' c) (with_set (set m (counter_at ch) x) b ch (counter_at ch') y (omega arith) (rw length-set (omega arith)))
    ∙ with_comm (set (set m (counter_at ch) x) (counter_at ch') y) b c ch ch' p q (rw (length-set, length-set) r) (rw (length-set, length-set) s) low low' ne
    ∙ ap (λ (l : List ℕ). with_block (with_block l ch' c) ch b) (set_comm m (counter_at ch) (counter_at ch') x y (omega arith))
    ∙ sym (ap (λ (l : List ℕ). with_block l ch b) (with_set (set m (counter_at ch') y) c ch' (counter_at ch) x (omega arith) (rw length-set (omega arith))))

-- two calls on different channels
pub in_either_order : (ch ch' : ℕ) (k k' : ChannelCall) (m : List ℕ) → (ch ≡ ch' → ⊥) → on_after ch k (on_after ch' k' m) ≡ on_after ch' k' (on_after ch k m)
in_either_order ch ch' k k' m ne =
    same_effect ch k (on_after ch' k' m) m (stays ch' k' m ch (λ e. ne (sym e)))
    ∙ both (eqb (on_refusal ch k m) 0) (eqb (on_refusal ch' k' m) 0) refl refl
    ∙ sym (same_effect ch' k' (on_after ch k m) m (stays ch k m ch' ne))
  where
    both : (s t : Bool) → eqb (on_refusal ch k m) 0 ≡ s → eqb (on_refusal ch' k' m) 0 ≡ t →
        let here : List ℕ = cond s (accepted_after ch k m) m in
        let there : List ℕ = cond t (accepted_after ch' k' m) m in
        cond s (accepted_by ch k (seen ch m) there) there ≡ cond t (accepted_by ch' k' (seen ch' m) here) here
    both true true e f =
        let z = eqb-true _ _ e in
        let z' = eqb-true _ _ f in
        let w = on_within ch k m z in
        let w' = on_within ch' k' m z' in
        put_put m _ _ ch' ch _ _ (usable_after ch' k' m z').whole (usable_after ch k m z).whole w'.room w.room w'.low w.low
        (in_most ch' k' m z') (in_most ch k m z) (λ q. ne (sym q))
    both true false e f = refl
    both false true e f = refl
    both false false e f = refl
