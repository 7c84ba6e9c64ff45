-- The laws of a powered memory: its length, the words of the module part, and each channel's block.
-- Assumes nothing.
use Prim.Native.Nat.{ℕ, zero, suc, ◌+◌, ◌*◌, ◌-◌, ◌≤◌, ◌<◌}
use mathlib.Core.Path.{◌≡◌, refl, sym, ap, ◌∙◌}
use mathlib.Core.List.{List, ◌++◌, append_assoc}
use native.Mathlib.Decide.{dec_lt}
use native.Mathlib.Omega.{arith}
use borrow.Author.Tests.{ltb-false}
use lib.Dec.{ltb}
use lib.ListN.{length, drop, get_or, length-append, length-drop, get_or-append}
use lib.Seq.{take_at}
use Rattle.block.specs.Layout.{word, block_words}
use Rattle.settings.specs.Factory.{factory_of}
use Rattle.frame.specs.Layout.{module_words, most, need, base, block, Framed}
use Rattle.frame.proofs.Parts.{part, part_back}
use Rattle.block.proofs.Refusals.{past}
use Rattle.power.specs.Power.{power_refusal, repeated, factory_part, factory_blocks, powered}
use Rattle.power.proofs.Filling.{repeated-length, factory_length}

-- what an accepted power-up says of the count and the memory
pub power_framed : (k n : ℕ) → power_refusal k n ≡ 0 → Framed n k
unfolding power_refusal
power_framed k n e =
    let a = past (ltb k 1) 3 _ e in
    let b = past (ltb most k) 3 _ a.1 in
    let d = past (ltb n (need k)) 0 _ b.1 in
    record { low = ltb-false _ _ a.0; high = ltb-false _ _ b.0; room = ltb-false _ _ d.0 }

-- ---- lists

whole_length : (n : ℕ) (p q m : List ℕ) → n ≡ length p + length q → n ≤ length m → length (p ++ (q ++ drop n m)) ≡ length m
whole_length n p q m e h = simp (length-append, length-drop) (omega arith)

-- one of the repeated parts
repeated_part : (n ch w : ℕ) (f t : List ℕ) → length f ≡ w → 1 ≤ ch → ch ≤ n → part ((ch - 1) * w) w (repeated n f ++ t) ≡ f
unfolding repeated
repeated_part zero ch w f t e p q = absurd (omega arith)
repeated_part (suc n) ch w f t e p q =
    ap (part ((ch - 1) * w) w) (append_assoc (repeated n f) f t) ∙ go (dec_lt n ch) (λ (le : ch ≤ n). repeated_part n ch w f (f ++ t) e p le)
  where
    go : Dec (n < ch) → (ch ≤ n → part ((ch - 1) * w) w (repeated n f ++ (f ++ t)) ≡ f) → part ((ch - 1) * w) w (repeated n f ++ (f ++ t)) ≡ f
    go (no le) before = before (omega arith)
    go (yes lt) before =
        let last : ch - 1 ≡ n = omega arith in
        let at : (ch - 1) * w ≡ length (repeated n f) + 0 = rw (last, repeated-length n w f e) (omega arith) in
        part_back ((ch - 1) * w) 0 w (repeated n f) (f ++ t) at ∙ take_at f t w e

-- ---- a powered memory

blocks_length : (k : ℕ) → need k ≡ length (factory_part k) + length (factory_blocks k)
blocks_length k = ap (λ (n : ℕ). module_words + n) (sym (repeated-length k block_words (factory_of block_words) factory_length))

-- with more words behind it
powered_more : (k : ℕ) (l r : List ℕ) → powered k l ++ r ≡ factory_part k ++ (factory_blocks k ++ (drop (need k) l ++ r))
unfolding powered
powered_more k l r =
    append_assoc (factory_part k) (factory_blocks k ++ drop (need k) l) r
    ∙ ap (λ (t : List ℕ). factory_part k ++ t) (append_assoc (factory_blocks k) (drop (need k) l) r)

pub powered-length : (k : ℕ) (m : List ℕ) → need k ≤ length m → length (powered k m) ≡ length m
unfolding powered
powered-length k m h = whole_length (need k) (factory_part k) (factory_blocks k) m (blocks_length k) h

-- the words of the module part, where more words, r, may stand behind those that were lent
pub powered-word : (k i : ℕ) (l r : List ℕ) → i < module_words → word (powered k l ++ r) i ≡ get_or (factory_part k) i 0
powered-word k i l r h =
    ap (λ (m : List ℕ). word m i) (powered_more k l r) ∙ get_or-append (factory_part k) (factory_blocks k ++ (drop (need k) l ++ r)) 0 i h

-- the channels' blocks, likewise
block_at : (k ch : ℕ) (t : List ℕ) → 1 ≤ ch → ch ≤ k → block (factory_part k ++ (factory_blocks k ++ t)) ch ≡ factory_of block_words
unfolding block
block_at k ch t p q =
    part_back (base ch) ((ch - 1) * block_words) block_words (factory_part k) (factory_blocks k ++ t) refl
    ∙ repeated_part k ch block_words (factory_of block_words) t factory_length p q

pub powered-block : (k ch : ℕ) (l r : List ℕ) → 1 ≤ ch → ch ≤ k → block (powered k l ++ r) ch ≡ factory_of block_words
powered-block k ch l r p q = ap (λ (m : List ℕ). block m ch) (powered_more k l r) ∙ block_at k ch (drop (need k) l ++ r) p q
