-- What an accepted call on a channel leaves of the module's memory.
-- Assumes nothing.
use Prim.Native.Nat.{ℕ, ◌+◌, ◌-◌, ◌≤◌, ◌<◌, zero-le}
use mathlib.Core.Path.{◌≡◌, refl, sym, ◌∙◌, subst}
use mathlib.Core.Bool.{Bool, true, false, cond}
use mathlib.Core.List.{List}
use native.Mathlib.Decide.{ℕ_discrete}
use native.Mathlib.Omega.{arith}
use borrow.Author.Tests.{ltb-false}
use lib.Dec.{eqb, ltb, eqb→eq}
use lib.ListN.{length, get_or, set, length-set}
use lib.Seq.{get_or-set_same, get_or-set_other}
use Rattle.word.proofs.Computed.{at}
use Rattle.block.specs.Layout.{word, block_words}
use Rattle.block.specs.Ranges.{Usable}
use Rattle.block.proofs.Sound.{in_each, each_in, is_within, no_more}
use Rattle.channel_calls.specs.Refusals.{channel_refusal}
use Rattle.channel.specs.Channel.{block_after}
use Rattle.channel_calls.specs.declared.calls.TestCall.TheVariants.{Sample, ResetTest, InitiateTest}
use Rattle.channel_calls.specs.declared.calls.ChannelCall.{ChannelCall}
use Rattle.channel_calls.specs.declared.calls.ChannelCall.TheVariants.{Settings, Memories, Status, Tests, Reads, Receive, Transmit}
use Rattle.channel_laws.proofs.Calls.{left}
use Rattle.frame.specs.Layout.{count, counters, module_words, most, base, block}
use Rattle.frame.specs.Counters.{top, sampled}
use Rattle.frame.specs.Refusals.{part_leasts, part_greatests, address_refusal}
use Rattle.block.proofs.Refusals.{neither}
use Rattle.frame.proofs.Refused.{Standing}
use Rattle.frame.proofs.Blocks.{Within, within_memory, block-set, with_length, with_word, block_same, block_other}
use Rattle.module.specs.OnChannel.{on_refusal, counter_at, counter_after, given_of, accepted_after}
use Rattle.module_laws.specs.Sane.{Sane}
use Rattle.module_laws.proofs.Stores.{in_part, store_sane, with_sane}

-- ---- the counter stays in its range

sampled-top : (r x : ℕ) → x ≤ top → sampled r x ≤ top
unfolding sampled
sampled-top r x h = go (eqb r 0) (ltb (top - 2) x) refl
  where
    go : (t u : Bool) → ltb (top - 2) x ≡ u → cond t (x - 1) (cond u top (x + 2)) ≤ top
    go true u e = omega arith
    go false true e = omega arith
    go false false e = let l : x ≤ top - 2 = ltb-false (top - 2) x e in omega arith

counter_top : (k : ChannelCall) (x : ℕ) → x ≤ top → counter_after k x ≤ top
counter_top (Settings k) x h = h
counter_top (Memories k) x h = h
counter_top (Status k) x h = h
counter_top (Tests (Sample r)) x h = sampled-top r x h
counter_top (Tests ResetTest) x h = zero-le
counter_top (Tests (InitiateTest r)) x h = h
counter_top (Reads k) x h = h
counter_top (Receive k) x h = h
counter_top (Transmit k) x h = h

-- the range of each counter
least_is : (j : ℕ) → j < most → get_or part_leasts (counters + j) 0 ≡ 0
unfolding part_leasts
least_is j h = eqb→eq _ 0 (at (λ i. eqb (get_or part_leasts (counters + i) 0) 0) most tt j h)

greatest_is : (j : ℕ) → j < most → get_or part_greatests (counters + j) 0 ≡ top
unfolding part_greatests
greatest_is j h = eqb→eq _ top (at (λ i. eqb (get_or part_greatests (counters + i) 0) top) most tt j h)

-- ---- an accepted call

module _ (ch : ℕ) (k : ChannelCall) (m : List ℕ) (e : on_refusal ch k m ≡ 0) where
  pub on_within : Within m ch
  unfolding on_refusal
  on_within = within_memory m ch (neither (address_refusal m ch) _ e).0

  pub on_call : channel_refusal k (block m ch) ≡ 0
  unfolding on_refusal
  on_call = (neither (address_refusal m ch) _ e).1

  pub usable_after : Usable (block_after (given_of ch k m) k (block m ch))
  usable_after = (left (given_of ch k m) k on_within.usable on_call).usable

  pub in_most : ch ≤ most
  in_most = let w = on_within in omega (arith, w.high, w.standing.frame.high)

  room : (x : ℕ) → base ch + block_words ≤ length (set m (counter_at ch) x)
  room x = rw length-set on_within.room

  -- the words before the counters
  pub on_word : (i : ℕ) → i < counters → word (accepted_after ch k m) i ≡ word m i
  on_word i h =
      with_word _ _ ch usable_after.whole (room _) i (omega arith) ∙ get_or-set_other m (counter_at ch) i _ 0 (omega arith)

  pub on_same : block (accepted_after ch k m) ch ≡ block_after (given_of ch k m) k (block m ch)
  on_same = block_same _ _ ch usable_after.whole (room _)

  pub on_other : (ch' : ℕ) → 1 ≤ ch' → (ch ≡ ch' → ⊥) → block (accepted_after ch k m) ch' ≡ block m ch'
  on_other ch' l ne =
      let h = in_most in
      block_other _ _ ch usable_after.whole (room _) ch' on_within.low l ne ∙ block-set m ch' (counter_at ch) _ (omega arith)

  -- the counter that it leaves is in its range
  pub counter_in : in_part (counter_at ch) (counter_after k (word m (counter_at ch)))
  counter_in =
      let w = on_within in
      let l = w.low in
      let h = in_most in
      let j : ch - 1 < most = omega arith in
      let stored : in_part (counter_at ch) (word m (counter_at ch)) = in_each part_leasts part_greatests m module_words (counter_at ch) w.standing.part (omega arith) in
      let before : word m (counter_at ch) ≤ top = rw (greatest_is (ch - 1) j) at (no_more part_leasts part_greatests (counter_at ch) _ stored) in
      is_within part_leasts part_greatests (counter_at ch) _ (rw (least_is (ch - 1) j) zero-le) (rw (greatest_is (ch - 1) j) (counter_top k _ before))

  -- the words of the module part but for that counter
  pub on_part : (i : ℕ) → i < module_words → (i ≡ counter_at ch → ⊥) → word (accepted_after ch k m) i ≡ word m i
  on_part i h ne = with_word _ _ ch usable_after.whole (room _) i h ∙ get_or-set_other m (counter_at ch) i _ 0 ne

  pub on_counter : word (accepted_after ch k m) (counter_at ch) ≡ counter_after k (word m (counter_at ch))
  on_counter =
      let l = on_within.low in
      let h = in_most in
      with_word _ _ ch usable_after.whole (room _) (counter_at ch) (omega arith)
      ∙ get_or-set_same m (counter_at ch) _ 0 (omega (arith, on_within.standing.frame))

  pub on_length : length (accepted_after ch k m) ≡ length m
  on_length = with_length _ _ ch usable_after.whole (room _) ∙ length-set m (counter_at ch) _

  -- the module part stays sound, whatever the other channels hold
  pub on_standing : Standing (accepted_after ch k m)
  on_standing =
      let w = on_within in
      record {
        frame = rw (on_length, on_word count (omega arith)) w.standing.frame;
        part = each_in part_leasts part_greatests (accepted_after ch k m) module_words (λ i q. go i q (ℕ_discrete i (counter_at ch)));
      }
    where
      go : (i : ℕ) → i < module_words → Dec (i ≡ counter_at ch) → in_part i (word (accepted_after ch k m) i)
      go i q (yes z) = subst (λ (n : ℕ). in_part n (word (accepted_after ch k m) n)) (sym z) (rw on_counter counter_in)
      go i q (no z) = rw (on_part i q z) (in_each part_leasts part_greatests m module_words i on_within.standing.part q)

  pub on_sane : Sane m → Sane (accepted_after ch k m)
  on_sane s =
      let l = on_within.low in
      let h = in_most in
      with_sane (store_sane s (counter_at ch) _ (omega arith) (omega arith) counter_in) ch _ l
      (rw (get_or-set_other m (counter_at ch) count (counter_after k (word m (counter_at ch))) 0 (omega arith)) on_within.high) usable_after
