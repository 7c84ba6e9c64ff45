-- An accepted call on a channel's block, as a change of the module's memory.
-- Assumes nothing.
use Prim.Native.Nat.{ℕ, ◌+◌, ◌-◌, ◌≤◌}
use mathlib.Core.Path.{◌≡◌, sym, ap, ap₂, ◌∙◌}
use mathlib.Core.List.{List}
use native.Mathlib.Omega.{arith}
use borrow.Rule.Slice.PartMut.{put_mid, same_len_mid}
use lib.ListN.{length, take, drop, set, length-set}
use Rattle.block.specs.Layout.{word, block_words}
use Rattle.status.specs.Status.{faulty}
use Rattle.block.specs.Refusals.{leave_unless}
use Rattle.channel_calls.specs.Answers.{answer_unless}
use Rattle.channel.specs.Channel.{block_answer, block_after}
use Rattle.channel_calls.specs.Answer.{Answer}
use Rattle.channel_calls.specs.declared.calls.ChannelCall.{ChannelCall}
use Rattle.channel_calls.specs.declared.calls.Given.{Given}
use Rattle.frame.specs.Layout.{stamp, threshold, most, base, block, with_block}
use Rattle.frame.proofs.Blocks.{Within, part_is, put_is, block-set}
use Rattle.module.specs.OnChannel.{Room, counter_at, counter_after, given_of, accepted_after}

-- a channel of a memory that is not refused
pub room : {m : List ℕ} {ch : ℕ} → Within m ch → Room m ch
room w = let f = w.standing.frame in record { low = w.low; high = omega arith; part = omega arith; end = w.room }

-- the part that is lent: a store into the module part leaves it
pub lent : (m : List ℕ) (ch : ℕ) → 1 ≤ ch → ch ≤ most → (x : ℕ)
    → take (base ch + block_words - base ch) (drop (base ch) (set m (counter_at ch) x)) ≡ block m ch
lent m ch l h x = part_is (set m (counter_at ch) x) ch ∙ block-set m ch (counter_at ch) x (omega arith)

module _ (m : List ℕ) (ch : ℕ) (k : ChannelCall) (next before after : ℕ) (l : 1 ≤ ch) (h : ch ≤ most)
    (p : next ≡ counter_after k (word m (counter_at ch))) (q : before ≡ faulty (word m (counter_at ch)) (word m threshold))
    (s : after ≡ faulty next (word m threshold)) where
  given : Given
  given = record { stamp = word m stamp; before = before; after = after }

  is : given ≡ given_of ch k m
  unfolding given
  is = λ i. record { stamp = word m stamp; before = q i; after = (s ∙ ap (λ (x : ℕ). faulty x (word m threshold)) p) i }

  pub accepted_is : (r : Answer) (last : List ℕ)
      → r ≡ block_answer (record { stamp = word m stamp; before = before; after = after }) k (take (base ch + block_words - base ch) (drop (base ch) (set m (counter_at ch) next)))
      → last ≡ block_after (record { stamp = word m stamp; before = before; after = after }) k (take (base ch + block_words - base ch) (drop (base ch) (set m (counter_at ch) next)))
      → (r ≡ block_answer (given_of ch k m) k (block m ch))
      × (put_mid (base ch) (base ch + block_words - base ch) (set m (counter_at ch) next) last ≡ accepted_after ch k m)
  unfolding given
  accepted_is r last e f = (
    e ∙ ap₂ (λ (g : Given) (b : List ℕ). block_answer g k b) is (lent m ch l h next),
    put_is (set m (counter_at ch) next) ch last
        ∙ ap₂ (λ (x : ℕ) (b : List ℕ). with_block (set m (counter_at ch) x) ch b) p
        (f ∙ ap₂ (λ (g : Given) (b : List ℕ). block_after g k b) is (lent m ch l h next)),
  )

-- ---- the return of an accepted call

pub done : (R : ℕ) (a a' : Answer) (m₁ m' m : List ℕ) → R ≡ 0 → a ≡ a' → m₁ ≡ m' → (a ≡ answer_unless R a') × (m₁ ≡ leave_unless R m' m)
done R a a' m₁ m' m z p q = (rw z p, rw z q)

-- the memory keeps its length
pub put_length : (m last : List ℕ) (ch x : ℕ)
    → length last ≡ length (take (base ch + block_words - base ch) (drop (base ch) (set m (counter_at ch) x)))
    → length (put_mid (base ch) (base ch + block_words - base ch) (set m (counter_at ch) x) last) ≡ length m
put_length m last ch x e =
    same_len_mid {X = ℕ} (base ch) (base ch + block_words - base ch) (set m (counter_at ch) x) last e ∙ length-set m (counter_at ch) x
