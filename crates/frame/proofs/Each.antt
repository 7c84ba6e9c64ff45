-- What a change of every channel's block leaves: the module part, the channels beyond, and each channel with its new block.
-- Assumes nothing.
use Prim.Native.Nat.{ℕ, zero, suc, ◌+◌, ◌≤◌, ◌<◌}
use mathlib.Core.Path.{◌≡◌, refl, ◌∙◌}
use mathlib.Core.List.{List}
use native.Mathlib.Decide.{ℕ_discrete}
use native.Mathlib.Omega.{arith}
use lib.ListN.{length}
use Rattle.block.specs.Layout.{word, block_words}
use Rattle.frame.specs.Layout.{count, module_words, most, base, Framed, block, with_block}
use Rattle.frame.specs.Each.{each_to}
use Rattle.frame.proofs.Blocks.{with_length, with_word, block_same, block_other}

-- the new block of a channel is whole, and it goes by the module part and the channel's own block alone
pub record Own (f : List ℕ → ℕ → List ℕ) : Type 0 where
  pub whole : (m : List ℕ) (ch : ℕ) → base ch + block_words ≤ length m → length (f m ch) ≡ block_words
  pub same : (m m' : List ℕ) (ch : ℕ) → 1 ≤ ch → ch ≤ most → ((i : ℕ) → i < module_words → word m i ≡ word m' i)
      → block m ch ≡ block m' ch → f m ch ≡ f m' ch

module _ {f : List ℕ → ℕ → List ℕ} (own : Own f) (m : List ℕ) (frame : Framed (length m) (word m count)) where
  pub each_length : (n : ℕ) → n ≤ word m count → length (each_to f n m) ≡ length m
  unfolding each_to
  each_length zero h = refl
  each_length (suc n) h =
      let e = each_length n (omega arith) in
      let room : base (suc n) + block_words ≤ length (each_to f n m) = omega arith in
      with_length (each_to f n m) _ (suc n) (own.whole (each_to f n m) (suc n) room) room ∙ e

  -- the next channel
  module _ (n : ℕ) (h : n < word m count) where
    next_room : base (suc n) + block_words ≤ length (each_to f n m)
    next_room = let e = each_length n (omega arith) in omega arith

    next-whole : length (f (each_to f n m) (suc n)) ≡ block_words
    next-whole = own.whole (each_to f n m) (suc n) next_room

  -- the module part stays
  pub each_word : (n i : ℕ) → n ≤ word m count → i < module_words → word (each_to f n m) i ≡ word m i
  unfolding each_to
  each_word zero i h l = refl
  each_word (suc n) i h l =
      with_word (each_to f n m) _ (suc n) (next-whole n (omega arith)) (next_room n (omega arith)) i l ∙ each_word n i (omega arith) l

  pub each_framed : (n : ℕ) → n ≤ word m count → Framed (length (each_to f n m)) (word (each_to f n m) count)
  each_framed n h = rw (each_length n h, each_word n count h (omega arith)) frame

  -- a block is put in another channel's place
  next_other : (n ch : ℕ) → n < word m count → 1 ≤ ch → (suc n ≡ ch → ⊥)
      → block (with_block (each_to f n m) (suc n) (f (each_to f n m) (suc n))) ch ≡ block (each_to f n m) ch
  next_other n ch h l ne = block_other (each_to f n m) _ (suc n) (next-whole n h) (next_room n h) ch (omega arith) l ne

  -- a channel beyond the first n stays
  pub each_beyond : (n ch : ℕ) → n < ch → ch ≤ word m count → block (each_to f n m) ch ≡ block m ch
  unfolding each_to
  each_beyond zero ch l h = refl
  each_beyond (suc n) ch l h = next_other n ch (omega arith) (omega arith) (omega arith) ∙ each_beyond n ch (omega arith) h

  -- a channel of the first n has its new block
  pub each_block : (n ch : ℕ) → 1 ≤ ch → ch ≤ n → n ≤ word m count → block (each_to f n m) ch ≡ f m ch
  unfolding each_to
  each_block zero ch l h k = absurd (omega arith)
  each_block (suc n) ch l h k = go (each_block n ch l) (ℕ_discrete (suc n) ch)
    where
      go : (ch ≤ n → n ≤ word m count → block (each_to f n m) ch ≡ f m ch) → Dec (suc n ≡ ch)
          → block (with_block (each_to f n m) (suc n) (f (each_to f n m) (suc n))) ch ≡ f m ch
      go below (yes e) =
          rw (← e)
          (block_same (each_to f n m) _ (suc n) (next-whole n (omega arith)) (next_room n (omega arith))
          ∙ own.same (each_to f n m) m (suc n) (omega arith) (omega (arith, frame.high)) (λ i q. each_word n i (omega arith) q)
          (each_beyond n (suc n) (omega arith) (omega arith)))
      go below (no e) = next_other n ch (omega arith) l e ∙ below (omega arith) (omega arith)
