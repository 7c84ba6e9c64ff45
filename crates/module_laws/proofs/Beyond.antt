-- "Words beyond the need are never touched": every call, on any memory, leaves those words and the length as they were.
-- Assumes nothing.
use Prim.Native.Nat.{ℕ, zero, suc, ◌+◌, ◌*◌, ◌-◌, ◌≤◌, ◌<◌}
use mathlib.Core.Path.{◌≡◌, refl, sym, ap, ◌∙◌}
use mathlib.Core.Bool.{Bool, true, false, cond}
use mathlib.Core.List.{List, ◌++◌, append_assoc}
use native.Mathlib.Omega.{arith}
use borrow.Author.Tests.{eqb-true}
use lib.Dec.{eqb}
use lib.ListN.{length, take, drop, set, length-set, length-take, length-append}
use lib.Seq.{drop-set-lt, drop-append-add, drop_at, drop-drop}
use Rattle.block.specs.Layout.{word, block_words}
use Rattle.settings.specs.Factory.{factory_of}
use Rattle.block.specs.Refusals.{leave_unless}
use Rattle.block.proofs.Refusals.{neither}
use Rattle.channel_calls.specs.declared.calls.ChannelCall.{ChannelCall}
use Rattle.channel_laws.proofs.Calls.{left}
use Rattle.frame.specs.Layout.{count, stamp, threshold, layout, module_words, need, base, with_block, Framed}
use Rattle.frame.specs.Each.{each_to}
use Rattle.frame.specs.Refusals.{wide_refusal}
use Rattle.frame.proofs.Parts.{splice}
use Rattle.frame.proofs.Refused.{wide_framed}
use Rattle.frame.proofs.Blocks.{with_length}
use Rattle.frame.proofs.Each.{Own, each_length}
use Rattle.power.specs.Power.{power_refusal, part_with, factory_part, factory_blocks, powered}
use Rattle.power.proofs.Filling.{repeated-length, factory_length}
use Rattle.power.proofs.Laws.{power_framed, powered-length}
use Rattle.wide.specs.Effects.{wide_effect, place_of, PartWord}
use Rattle.wide.specs.Refusals.{call_refusal}
use Rattle.wide.specs.Rule.{ruled_all}
use Rattle.wide.specs.OnModule.{effect_after, wide_after}
use Rattle.wide.specs.declared.calls.WideCall.{WideCall}
use Rattle.wide.specs.declared.calls.WideEffect.{WideEffect}
use Rattle.wide.specs.declared.calls.WideEffect.TheVariants.{Shows, Stores, Advances}
use Rattle.wide.proofs.Laws.{ruled_own}
use Rattle.wide.proofs.Places.{part_word}
use Rattle.wide.proofs.Stored.{count_kept, stored_framed}
use Rattle.reset.specs.Reset.{reset_to, module_reset}
use Rattle.reset.proofs.Laws.{reset_own, reset_length}
use Rattle.module.specs.OnChannel.{on_refusal, counter_at, counter_after, given_of, accepted_after}
use Rattle.module.specs.Perform.{after}
use Rattle.module.specs.declared.calls.Call.{Call}
use Rattle.module.specs.declared.calls.Call.TheVariants.{PowerUp, Reset, Wide, On}
use Rattle.module_laws.specs.Need.{needed}
use Rattle.module_laws.proofs.OnChannel.{on_within, on_call}

-- a memory m' with the length of m and, from word n on, the words of m
record Untouched (n : ℕ) (m m' : List ℕ) : Type 0 where
  long : length m' ≡ length m
  same : drop n m' ≡ drop n m

as_was : (n : ℕ) (m : List ℕ) → Untouched n m m
as_was n m = record { long = refl; same = refl }

-- two changes, one after the other
both : {n : ℕ} {m m' m'' : List ℕ} → Untouched n m' m'' → Untouched n m m' → Untouched n m m''
both s t = record { long = s.long ∙ t.long; same = s.same ∙ t.same }

-- "A refusal (1 to 7) changes no lent word": what is asked is asked of the accepted call alone
unless : (n r : ℕ) (m m' : List ℕ) → (r ≡ 0 → Untouched n m m') → Untouched n m (leave_unless r m' m)
unless n r m m' h = go (eqb r 0) refl
  where
    go : (t : Bool) → eqb r 0 ≡ t → Untouched n m (cond t m' m)
    go true e = h (eqb-true r 0 e)
    go false e = as_was n m

-- ---- lists

-- behind a front of n words
behind : (n k : ℕ) (p l : List ℕ) → length p ≡ n → drop (n + k) (p ++ l) ≡ drop k l
behind n k p l e = rw (← e) (drop-append-add p l k)

-- another part in the place of w words
splice_beyond : (at w n : ℕ) (b m : List ℕ) → length b ≡ w → at + w ≤ length m → at + w ≤ n → drop n (splice at w b m) ≡ drop n m
splice_beyond at w n b m long room h =
    let k : ℕ = n - (at + w) in
    let to : at + w + k ≡ n = omega arith in
    let front : length (take at m ++ b) ≡ at + w = simp (length-append, length-take) (omega arith) in
    ap (λ (i : ℕ). drop i (splice at w b m)) (sym to)
    ∙ ap (drop (at + w + k)) (sym (append_assoc (take at m) b (drop w (drop at m))) ∙ ap (λ (t : List ℕ). (take at m ++ b) ++ t) (drop-drop w at m))
    ∙ behind (at + w) k (take at m ++ b) (drop (at + w) m) front
    ∙ drop-drop k (at + w) m
    ∙ ap (λ (i : ℕ). drop i m) to

-- ---- stores

-- a word before word n
word_stays : (n : ℕ) (m : List ℕ) (i v : ℕ) → i < n → Untouched n m (set m i v)
word_stays n m i v h = record { long = length-set m i v; same = drop-set-lt n m i v h }

-- a channel's block that ends before word n
block_stays : (n : ℕ) (m b : List ℕ) (ch : ℕ) → length b ≡ block_words → base ch + block_words ≤ length m → base ch + block_words ≤ n
    → Untouched n m (with_block m ch b)
unfolding with_block
block_stays n m b ch long room h =
    record { long = with_length m b ch long room; same = splice_beyond (base ch) block_words n b m long room h }

-- the blocks of channels 1 to j, each of the stored count
each_stays : {f : List ℕ → ℕ → List ℕ} → Own f → (m : List ℕ) → Framed (length m) (word m count) → (j : ℕ) → j ≤ word m count
    → Untouched (need (word m count)) m (each_to f j m)
unfolding each_to
each_stays own m g zero h = as_was (need (word m count)) m
each_stays {f} own m g (suc j) h =
    let e : length (each_to f j m) ≡ length m = each_length own m g j (omega arith) in
    let room : base (suc j) + block_words ≤ length (each_to f j m) = omega (arith, e, g.room) in
    both
    (block_stays (need (word m count)) (each_to f j m) _ (suc j) (own.whole (each_to f j m) (suc j) room) room (omega arith))
    (each_stays own m g j (omega arith))

-- ---- the accepted calls

power_stays : (k : ℕ) (m : List ℕ) → power_refusal k (length m) ≡ 0 → Untouched (need k) m (powered k m)
unfolding powered
power_stays k m e =
    record {
      long = powered-length k m (power_framed k (length m) e).room;
      same =
          behind module_words (k * block_words) (factory_part k) (factory_blocks k ++ drop (need k) m) refl
          ∙ drop_at (factory_blocks k) (drop (need k) m) (k * block_words) (repeated-length k block_words (factory_of block_words) factory_length);
    }

reset_stays : (m : List ℕ) → wide_refusal m ≡ 0 → Untouched (need (word m count)) m (module_reset m)
unfolding module_reset
reset_stays m e =
    let k : ℕ = word m count in
    let g : Framed (length m) k = wide_framed m e in
    record {
      long = reset_length m g;
      same =
          behind module_words (k * block_words) (part_with k (word m layout)) (drop module_words (reset_to k m)) refl
          ∙ drop-drop (k * block_words) module_words (reset_to k m)
          ∙ (each_stays reset_own m g k (omega arith)).same;
    }

-- a word of the module part behind the count, and the rule on every channel
write_stays : (m : List ℕ) → Framed (length m) (word m count) → (i v : ℕ) → count < i → i < module_words
    → Untouched (need (word m count)) m (ruled_all m (set m i v))
write_stays m g i v l h =
    let kept : word (set m i v) count ≡ word m count = count_kept m i v l in
    both
    (rw kept at (each_stays (ruled_own (word m threshold)) (set m i v) (stored_framed m i v l g) (word m count) (rw kept (omega arith))))
    (word_stays (need (word m count)) m i v (omega arith))

wide_stays : (k : WideCall) (m : List ℕ) → call_refusal k m ≡ 0 → Untouched (need (word m count)) m (wide_after k m)
unfolding call_refusal
wide_stays k m e = go (wide_effect k) (part_word k)
  where
    g : Framed (length m) (word m count)
    g = wide_framed m (neither (wide_refusal m) _ e).0

    go : (e : WideEffect) → PartWord (place_of e) → Untouched (need (word m count)) m (effect_after e m)
    go (Shows i) p = as_was _ m
    go (Stores i v) p = write_stays m g i v p.low p.high
    go (Advances n) p = write_stays m g stamp _ p.low p.high

on_stays : (ch : ℕ) (k : ChannelCall) (m : List ℕ) → on_refusal ch k m ≡ 0 → Untouched (need (word m count)) m (accepted_after ch k m)
on_stays ch k m e =
    let w = on_within ch k m e in
    let n : ℕ = need (word m count) in
    let x : ℕ = counter_after k (word m (counter_at ch)) in
    let u = (left (given_of ch k m) k w.usable (on_call ch k m e)).usable in
    both
    (block_stays n (set m (counter_at ch) x) _ ch u.whole (rw length-set w.room) (omega (arith, w.low, w.high)))
    (word_stays n m (counter_at ch) x (omega (arith, w.low, w.high, w.standing.frame.high)))

-- ---- every call

stays : (c : Call) (m : List ℕ) → Untouched (needed c m) m (after c m)
stays (PowerUp k) m = unless (need k) (power_refusal k (length m)) m (powered k m) (power_stays k m)
stays Reset m = unless (need (word m count)) (wide_refusal m) m (module_reset m) (reset_stays m)
stays (Wide k) m = unless (need (word m count)) (call_refusal k m) m (wide_after k m) (wide_stays k m)
stays (On ch k) m = unless (need (word m count)) (on_refusal ch k m) m (accepted_after ch k m) (on_stays ch k m)

-- "Words beyond the need are never touched": from the need on, every call on any memory leaves the words that it found
pub beyond : (c : Call) (m : List ℕ) → drop (needed c m) (after c m) ≡ drop (needed c m) m
beyond c m = (stays c m).same

-- every call leaves as many words as it was lent
pub same_length : (c : Call) (m : List ℕ) → length (after c m) ≡ length m
same_length c m = (stays c m).long
