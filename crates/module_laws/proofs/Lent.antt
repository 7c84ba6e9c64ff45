-- A call that is lent the first words of a sane memory: of the memory l ++ r it is lent l.
-- Assumes nothing.
use Prim.Native.Nat.{ℕ, zero, suc, ◌+◌, ◌≤◌, ◌<◌}
use mathlib.Core.Path.{◌≡◌, refl, sym, ap, ◌∙◌, subst}
use mathlib.Core.Bool.{Bool, true, false, cond}
use mathlib.Core.List.{List, ◌++◌, append_assoc}
use native.Mathlib.Omega.{arith}
use borrow.Author.Tests.{eqb-true, ltb-false, le-ltb, lt-ltb}
use lib.Dec.{eqb, ltb}
use lib.ListN.{length, set, drop, length-set, length-append, get_or-append}
use lib.Seq.{set-append_left, drop-append-le}
use Rattle.fifos.specs.Counts.{counted}
use Rattle.block.specs.Layout.{word, block_words}
use Rattle.block.specs.Ranges.{Usable}
use Rattle.block.proofs.Sound.{each_in}
use Rattle.channel_calls.specs.Refusals.{channel_refusal}
use Rattle.channel.specs.Channel.{block_answer, block_after}
use Rattle.channel_calls.specs.Answer.{Answer, Done, Refused, Value}
use Rattle.channel_calls.specs.declared.calls.ChannelCall.{ChannelCall}
use Rattle.settings.specs.Kept.{kept_of, kept_first}
use Rattle.channel_laws.proofs.Resets.{first_holds}
use Rattle.frame.specs.Layout.{count, stamp, threshold, layout, module_words, most, need, base, block, with_block, Framed}
use Rattle.frame.specs.Each.{each_to}
use Rattle.frame.specs.Refusals.{frame_of, frame_refusal, part_leasts, part_greatests, part_refusal, channel_of, wide_refusal}
use Rattle.frame.proofs.Parts.{part_front, splice_front}
use Rattle.frame.proofs.Blocks.{Within, channel_room}
use Rattle.frame.proofs.Each.{Own, each_length}
use Rattle.power.specs.Power.{power_refusal, part_with, powered}
use Rattle.power.proofs.Laws.{power_framed, powered-length, powered-word, powered-block}
use Rattle.wide.specs.Effects.{wide_effect, place_of, PartWord}
use Rattle.wide.specs.Refusals.{call_refusal}
use Rattle.wide.specs.Rule.{ruled_all}
use Rattle.wide.specs.OnModule.{effect_answer, effect_after}
use Rattle.wide.specs.declared.calls.WideCall.{WideCall}
use Rattle.wide.specs.declared.calls.WideEffect.{WideEffect}
use Rattle.wide.specs.declared.calls.WideEffect.TheVariants.{Shows, Stores, Advances}
use Rattle.wide.proofs.Laws.{ruled_own}
use Rattle.wide.proofs.Places.{part_word}
use Rattle.wide.proofs.Stored.{count_kept, stored_framed}
use Rattle.reset.specs.Reset.{reset_to, module_reset}
use Rattle.reset.proofs.Laws.{reset_own}
use Rattle.block.specs.Refusals.{leave_unless}
use Rattle.channel_calls.specs.Answers.{answer_unless}
use Rattle.module.specs.OnChannel.{on_refusal, counter_at, given_of, accepted_after}
use Rattle.module.specs.Perform.{answer, after}
use Rattle.module.specs.declared.calls.Call.{Call}
use Rattle.module.specs.declared.calls.Call.TheVariants.{Reset, Wide, On}
use Rattle.module_laws.specs.Sane.{Sane}
use Rattle.module_laws.proofs.Sane.{sane_part, sane_wide}
use Rattle.module_laws.proofs.Stores.{part_in}
use Rattle.module_laws.proofs.OnChannel.{on_within}
use Rattle.module_laws.proofs.Power.{factory_in}

-- ---- what stands in the first words

word_front : (l r : List ℕ) (i : ℕ) → i < length l → word l i ≡ word (l ++ r) i
word_front l r i h = sym (get_or-append l r 0 i h)

block_front : (l r : List ℕ) (ch : ℕ) → base ch + block_words ≤ length l → block l ch ≡ block (l ++ r) ch
unfolding block
block_front l r ch h = sym (part_front (base ch) block_words l r h)

with_front : (l r b : List ℕ) (ch : ℕ) → base ch + block_words ≤ length l → with_block l ch b ++ r ≡ with_block (l ++ r) ch b
unfolding with_block
with_front l r b ch h = sym (splice_front (base ch) block_words l r h b)

-- enough words are lent: they are a sane memory themselves, with the same module part and the same blocks
pub record Front (l r : List ℕ) : Type 0 where
  pub whole : Sane (l ++ r)
  pub sane : Sane l
  pub words : (i : ℕ) → i < module_words → word l i ≡ word (l ++ r) i
  pub blocks : (ch : ℕ) → 1 ≤ ch → ch ≤ word (l ++ r) count → block l ch ≡ block (l ++ r) ch

pub front : (l r : List ℕ) → Sane (l ++ r) → need (word (l ++ r) count) ≤ length l → Front l r
front l r s h =
    record {
      whole = s;
      sane =
          record {
            frame = rw (same count (omega arith)) framed;
            part = each_in part_leasts part_greatests l module_words (λ i q. rw (same i q) (part_in s i q));
            usable =
                λ ch p q. let q' : ch ≤ word (l ++ r) count = rw (same count (omega arith)) at q in
                subst Usable (sym (alike ch p q')) (s.usable ch p q');
          };
      words = same;
      blocks = alike;
    }
  where
    framed : Framed (length l) (word (l ++ r) count)
    framed = record { low = s.frame.low; high = s.frame.high; room = h }

    same : (i : ℕ) → i < module_words → word l i ≡ word (l ++ r) i
    same i q = word_front l r i (omega arith)

    alike : (ch : ℕ) → 1 ≤ ch → ch ≤ word (l ++ r) count → block l ch ≡ block (l ++ r) ch
    alike ch p q = block_front l r ch (channel_room (length l) (word (l ++ r) count) ch framed p q)

-- a call answers and leaves on the lent words what it does on the whole memory
pub record Alike (c : Call) (l r : List ℕ) : Type 0 where
  pub answers : answer c l ≡ answer c (l ++ r)
  pub leaves : after c l ++ r ≡ after c (l ++ r)

-- the same refusal, and the same where it is 0
answer_by_lem : {x y : ℕ} (a b : Answer) → x ≡ y → (x ≡ 0 → a ≡ b) → answer_unless x a ≡ answer_unless y b
answer_by_lem {x} {y} a b e h = go (eqb x 0) refl ∙ ap (λ (n : ℕ). answer_unless n b) e
  where
    go : (t : Bool) → eqb x 0 ≡ t → cond t a (Refused x) ≡ cond t b (Refused x)
    go true p = h (eqb-true x 0 p)
    go false p = refl

leave_by : {x y : ℕ} (l r p q : List ℕ) → x ≡ y → (x ≡ 0 → p ++ r ≡ q) → leave_unless x p l ++ r ≡ leave_unless y q (l ++ r)
leave_by {x} {y} l r p q e h = go (eqb x 0) refl ∙ ap (λ (n : ℕ). leave_unless n q (l ++ r)) e
  where
    go : (t : Bool) → eqb x 0 ≡ t → cond t p l ++ r ≡ cond t q (l ++ r)
    go true z = h (eqb-true x 0 z)
    go false z = refl

-- ---- enough words, a call on a channel

-- on a sane memory the channel's number decides, then the call
pub sane_on : {m : List ℕ} → Sane m → (ch : ℕ) (k : ChannelCall) (t u : Bool) → ltb ch 1 ≡ t → ltb (word m count) ch ≡ u
    → on_refusal ch k m ≡ cond t 3 (cond u 3 (channel_refusal k (block m ch)))
unfolding on_refusal channel_of
sane_on s ch k true u p q = rw (sane_part s, p) refl
sane_on s ch k false true p q = rw (sane_part s, p, q) refl
sane_on {m} s ch k false false p q =
    rw (sane_part s, p, q, (s.usable ch (ltb-false ch 1 p) (ltb-false (word m count) ch q)).sound) refl

module _ {l r : List ℕ} (f : Front l r) (ch : ℕ) (k : ChannelCall) where
  same_count : word l count ≡ word (l ++ r) count
  same_count = f.words count (omega arith)

  refusal_same : on_refusal ch k l ≡ on_refusal ch k (l ++ r)
  refusal_same = go (ltb ch 1) (ltb (word (l ++ r) count) ch) refl refl
    where
      here : (t u : Bool) → ltb ch 1 ≡ t → ltb (word (l ++ r) count) ch ≡ u
          → cond t 3 (cond u 3 (channel_refusal k (block l ch))) ≡ cond t 3 (cond u 3 (channel_refusal k (block (l ++ r) ch)))
      here true u p q = refl
      here false true p q = refl
      here false false p q = ap (channel_refusal k) (f.blocks ch (ltb-false ch 1 p) (ltb-false (word (l ++ r) count) ch q))

      go : (t u : Bool) → ltb ch 1 ≡ t → ltb (word (l ++ r) count) ch ≡ u → on_refusal ch k l ≡ on_refusal ch k (l ++ r)
      go t u p q =
          sane_on f.sane ch k t u p (ap (λ (n : ℕ). ltb n ch) same_count ∙ q) ∙ here t u p q ∙ sym (sane_on f.whole ch k t u p q)

  module _ (e : on_refusal ch k l ≡ 0) where
    in_front : Within l ch
    in_front = on_within ch k l e

    in_part_lem : counter_at ch < module_words
    in_part_lem = let w = in_front in omega (arith, w.low, w.high, w.standing.frame.high)

    same_block : block l ch ≡ block (l ++ r) ch
    same_block = f.blocks ch in_front.low (rw same_count at in_front.high)

    accepted-answer : block_answer (given_of ch k l) k (block l ch) ≡ block_answer (given_of ch k (l ++ r)) k (block (l ++ r) ch)
    accepted-answer =
        rw (f.words stamp (omega arith), f.words threshold (omega arith), f.words (counter_at ch) in_part_lem, same_block) refl

    accepted-after : accepted_after ch k l ++ r ≡ accepted_after ch k (l ++ r)
    accepted-after =
        with_front (set l (counter_at ch) _) r _ ch (rw length-set in_front.room)
        ∙ ap (λ (m : List ℕ). with_block m ch (block_after (given_of ch k l) k (block l ch))) (sym (set-append_left l r (counter_at ch) _ (omega (arith, in_part_lem, f.sane.frame))))
        ∙ rw (f.words stamp (omega arith), f.words threshold (omega arith), f.words (counter_at ch) in_part_lem, same_block) refl

  pub front_on : Alike (On ch k) l r
  front_on = record { answers = answer_by_lem _ _ refusal_same accepted-answer; leaves = leave_by l r _ _ refusal_same accepted-after }

-- ---- enough words, a module-wide call and a module reset

-- a change of the blocks of channels 1 to n
each_front : {f : List ℕ → ℕ → List ℕ} → Own f → (l r : List ℕ) → Framed (length l) (word l count) → (n : ℕ) → n ≤ word l count
    → each_to f n l ++ r ≡ each_to f n (l ++ r)
unfolding each_to
each_front own l r g zero h = refl
each_front {f} own l r g (suc n) h =
    let room : base (suc n) + block_words ≤ length (each_to f n l) = rw (each_length own l g n (omega arith)) (channel_room (length l) (word l count) (suc n) g (omega arith) h) in
    let same : f (each_to f n l) (suc n) ≡ f (each_to f n l ++ r) (suc n) = own.same (each_to f n l) (each_to f n l ++ r) (suc n) (omega arith) (omega (arith, g.high)) (λ i q. word_front (each_to f n l) r i (omega arith)) (block_front (each_to f n l) r (suc n) room) in
    with_front (each_to f n l) r _ (suc n) room
    ∙ ap (with_block (each_to f n l ++ r) (suc n)) same
    ∙ ap (λ (m : List ℕ). with_block m (suc n) (f m (suc n))) (each_front own l r g n (omega arith))

module _ {l r : List ℕ} (f : Front l r) where
  write_front : (i v v' : ℕ) → count < i → i < module_words → v ≡ v' → ruled_all l (set l i v) ++ r ≡ ruled_all (l ++ r) (set (l ++ r) i v')
  write_front i v v' p q e =
      each_front (ruled_own (word l threshold)) (set l i v) r (stored_framed l i v p f.sane.frame) (word l count) (rw (count_kept l i v p) (omega arith))
      ∙ rw (← e, set-append_left l r i v (omega (arith, f.sane.frame)), f.words threshold (omega arith), f.words count (omega arith)) refl

  wide_answers : (e : WideEffect) → PartWord (place_of e) → effect_answer e l ≡ effect_answer e (l ++ r)
  wide_answers (Shows i) p = ap Value (f.words i p.high)
  wide_answers (Stores i v) p = refl
  wide_answers (Advances n) p = refl

  wide_leaves : (e : WideEffect) → PartWord (place_of e) → effect_after e l ++ r ≡ effect_after e (l ++ r)
  wide_leaves (Shows i) p = refl
  wide_leaves (Stores i v) p = write_front i v v p.low p.high refl
  wide_leaves (Advances n) p = write_front stamp _ _ p.low p.high (ap (λ (x : ℕ). counted x n) (f.words stamp p.high))

  wide_same : (k : WideCall) → call_refusal k l ≡ call_refusal k (l ++ r)
  unfolding call_refusal
  wide_same k = rw (sane_wide f.sane, sane_wide f.whole) refl

  pub front_wide : (k : WideCall) → Alike (Wide k) l r
  front_wide k =
      record {
        answers = answer_by_lem _ _ (wide_same k) (λ e. wide_answers (wide_effect k) (part_word k));
        leaves = leave_by l r _ _ (wide_same k) (λ e. wide_leaves (wide_effect k) (part_word k));
      }

  -- a module reset
  memory_same : wide_refusal l ≡ wide_refusal (l ++ r)
  memory_same = sane_wide f.sane ∙ sym (sane_wide f.whole)

  reset_leaves : module_reset l ++ r ≡ module_reset (l ++ r)
  unfolding module_reset
  reset_leaves =
      let k : ℕ = word l count in
      let e = each_length reset_own l f.sane.frame k (omega arith) in
      let long : module_words ≤ length (reset_to k l) = omega (arith, e, f.sane.frame) in
      append_assoc (part_with k (word l layout)) (drop module_words (reset_to k l)) r
      ∙ ap (λ (t : List ℕ). part_with k (word l layout) ++ t)
      (sym (drop-append-le module_words (reset_to k l) r long) ∙ ap (drop module_words) (each_front reset_own l r f.sane.frame k (omega arith)))
      ∙ rw (f.words count (omega arith), f.words layout (omega arith)) refl

  pub front_reset : Alike Reset l r
  front_reset =
      record { answers = answer_by_lem Done Done memory_same (λ e. refl); leaves = leave_by l r _ _ memory_same (λ e. reset_leaves) }

-- ---- too few words

-- the call is refused as short and leaves what it was lent
pub record Short (c : Call) (l : List ℕ) : Type 0 where
  pub answers : answer c l ≡ Refused 1
  pub leaves : after c l ≡ l

frame_short : (n k k' : ℕ) → 1 ≤ k → k ≤ most → n < need k → (module_words ≤ n → k' ≡ k) → frame_of n k' ≡ 1
unfolding frame_of
frame_short n k k' low high less same = go (ltb n module_words) refl
  where
    go : (t : Bool) → ltb n module_words ≡ t → ◌≡◌ {A = ℕ} (cond t 1 (cond (ltb k' 1) 2 (cond (ltb most k') 2 (cond (ltb n (need k')) 1 0)))) 1
    go true e = refl
    go false e = rw (same (ltb-false n module_words e), le-ltb k 1 low, le-ltb most k high, lt-ltb n (need k) less) refl

module _ (l r : List ℕ) (s : Sane (l ++ r)) (less : length l < need (word (l ++ r) count)) where
  pub part_short : part_refusal l ≡ 1
  unfolding part_refusal
  part_short =
      let e : frame_refusal l ≡ 1 = frame_short (length l) (word (l ++ r) count) (word l count) s.frame.low s.frame.high less (λ h. word_front l r count (omega arith)) in
      rw e refl

  on_short : (ch : ℕ) (k : ChannelCall) → on_refusal ch k l ≡ 1
  unfolding on_refusal channel_of
  on_short ch k = rw part_short refl

  memory_short : wide_refusal l ≡ 1
  unfolding wide_refusal
  memory_short = rw part_short refl

  wide_short : (k : WideCall) → call_refusal k l ≡ 1
  unfolding call_refusal
  wide_short k = rw memory_short refl

  pub short_on : (ch : ℕ) (k : ChannelCall) → Short (On ch k) l
  short_on ch k = record { answers = rw (on_short ch k) refl; leaves = rw (on_short ch k) refl }

  pub short_wide : (k : WideCall) → Short (Wide k) l
  short_wide k = record { answers = rw (wide_short k) refl; leaves = rw (wide_short k) refl }

  pub short_reset : Short Reset l
  short_reset = record { answers = rw memory_short refl; leaves = rw memory_short refl }

-- ---- the memory after a power-up, with the words that were not lent

module _ (k : ℕ) (l r : List ℕ) where
  pub powered_kept : (ch : ℕ) → 1 ≤ ch → ch ≤ k → kept_of (block (powered k l ++ r) ch) ≡ kept_first
  powered_kept ch p q = ap kept_of (powered-block k ch l r p q) ∙ (first_holds block_words refl).is

  pub powered_sane : power_refusal k (length l) ≡ 0 → Sane (powered k l ++ r)
  powered_sane e =
      record {
        frame = rw channels (record { low = f.low; high = f.high; room = omega (arith, f.room, powered-length k l f.room, length-append (powered k l) r) });
        part =
            each_in part_leasts part_greatests (powered k l ++ r) module_words
            (λ i h. rw (powered-word k i l r h) (factory_in k i f.low f.high h));
        usable = λ ch p q. subst Usable (sym (powered-block k ch l r p (rw channels at q))) (first_holds block_words refl).usable;
      }
    where
      f : Framed (length l) k
      f = power_framed k (length l) e

      channels : word (powered k l ++ r) count ≡ k
      channels = powered-word k count l r (omega arith)
