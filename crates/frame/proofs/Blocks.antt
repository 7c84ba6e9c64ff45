-- The laws of blocks: what a block is made of, and that one block's change leaves the rest.
-- Assumes nothing.
use Prim.Native.Nat.{ℕ, ◌+◌, ◌*◌, ◌-◌, ◌≤◌, ◌<◌}
use mathlib.Core.Path.{◌≡◌, refl, sym, ap, ◌∙◌}
use mathlib.Core.List.{List, ◌++◌}
use native.Mathlib.Decide.{dec_lt}
use native.Mathlib.Nat.{add-sub_cancel_left}
use native.Mathlib.Omega.{arith}
use lib.ListN.{length, take, drop, set, length-take, length-drop, get_or-append}
use lib.Seq.{get_or-take, set-append_left, take-set-lt, drop-set-lt, drop-drop}
use borrow.Rule.Slice.PartMut.{put_mid}
use Rattle.block.specs.Layout.{word, block_words}
use Rattle.block.specs.Ranges.{Usable}
use Rattle.frame.specs.Layout.{count, module_words, Framed, base, block, with_block}
use Rattle.frame.specs.Refusals.{address_refusal}
use Rattle.frame.proofs.Parts.{part_back, splice_length, part_same, part_below, part_above, splice_comm}
use Rattle.frame.proofs.Refused.{Standing, standing, addressed}

-- a block as the code cuts it, and as the cut comes back
pub part_is : (m : List ℕ) (ch : ℕ) → take (base ch + block_words - base ch) (drop (base ch) m) ≡ block m ch
unfolding block
part_is m ch = ap (λ (k : ℕ). take k (drop (base ch) m)) (add-sub_cancel_left (base ch) block_words)

pub put_is : (m : List ℕ) (ch : ℕ) (b : List ℕ) → put_mid (base ch) (base ch + block_words - base ch) m b ≡ with_block m ch b
unfolding with_block
put_is m ch b = ap (λ (k : ℕ). put_mid (base ch) k m b) (add-sub_cancel_left (base ch) block_words)

pub block-length : (m : List ℕ) (ch : ℕ) → base ch + block_words ≤ length m → length (block m ch) ≡ block_words
unfolding block
block-length m ch h = simp (length-take, length-drop) (omega arith)

-- a channel up to the count stands in the memory
pub channel_room : (n k ch : ℕ) → Framed n k → 1 ≤ ch → ch ≤ k → base ch + block_words ≤ n
channel_room n k ch f l h = omega (arith, f)

-- a store before a block leaves it
pub block-set : (m : List ℕ) (ch i x : ℕ) → i < base ch → block (set m i x) ch ≡ block m ch
unfolding block
block-set m ch i x h = ap (take block_words) (drop-set-lt (base ch) m i x h)

-- another module part before the blocks leaves them
pub block_behind : (p m : List ℕ) (ch : ℕ) → length p ≡ module_words → block (p ++ drop module_words m) ch ≡ block m ch
unfolding block
block_behind p m ch e =
    part_back (base ch) ((ch - 1) * block_words) block_words p (drop module_words m) (omega arith)
    ∙ ap (take block_words) (drop-drop ((ch - 1) * block_words) module_words m)

-- what a channel's refusal of 0 says
pub record Within (m : List ℕ) (ch : ℕ) : Type 0 where
  pub standing : Standing m
  pub low : 1 ≤ ch
  pub high : ch ≤ word m count
  pub room : base ch + block_words ≤ length m
  pub usable : Usable (block m ch)

pub within_memory : (m : List ℕ) (ch : ℕ) → address_refusal m ch ≡ 0 → Within m ch
within_memory m ch e =
    let a = addressed _ _ _ _ e in
    let s = standing m a.part in
    let room = channel_room (length m) (word m count) ch s.frame a.low a.high in
    record {
      standing = s;
      low = a.low;
      high = a.high;
      room = room;
      usable = record { whole = block-length m ch room; sound = a.sound };
    }

-- ---- another block in the place of a channel's

module _ (m b : List ℕ) (ch : ℕ) (long : length b ≡ block_words) (room : base ch + block_words ≤ length m) where
  pub with_length : length (with_block m ch b) ≡ length m
  unfolding with_block
  with_length = splice_length (base ch) block_words b m long room

  -- the module part stays
  pub with_word : (i : ℕ) → i < module_words → word (with_block m ch b) i ≡ word m i
  unfolding with_block
  with_word i h =
      let l : i < length (take (base ch) m) = simp length-take (omega arith) in
      get_or-append (take (base ch) m) _ 0 i l ∙ get_or-take (base ch) m i 0 (omega arith)

  pub block_same : block (with_block m ch b) ch ≡ b
  unfolding block with_block
  block_same = part_same (base ch) block_words b m long room

  pub block_other : (ch' : ℕ) → 1 ≤ ch → 1 ≤ ch' → (ch ≡ ch' → ⊥) → block (with_block m ch b) ch' ≡ block m ch'
  unfolding block with_block
  block_other ch' p p' ne = go (dec_lt ch ch')
    where
      go : Dec (ch < ch') → block (with_block m ch b) ch' ≡ block m ch'
      go (yes lt) = part_above (base ch) block_words b m long room (base ch') block_words (omega arith)
      go (no ge) = part_below (base ch) block_words b m long room (base ch') block_words (omega arith)

-- a store before a block, in either order
pub with_set : (m b : List ℕ) (ch i x : ℕ) → i < base ch → base ch ≤ length m → set (with_block m ch b) i x ≡ with_block (set m i x) ch b
unfolding with_block
with_set m b ch i x h room =
    let l : i < length (take (base ch) m) = simp length-take (omega arith) in
    set-append_left (take (base ch) m) _ i x l
    ∙ rw (take-set-lt (base ch) m i x h, drop-set-lt (base ch) m i x h) refl

-- the blocks of two channels, in either order
pub with_comm : (m b c : List ℕ) (ch ch' : ℕ) → length b ≡ block_words → length c ≡ block_words → base ch + block_words ≤ length m
    → base ch' + block_words ≤ length m → 1 ≤ ch → 1 ≤ ch' → (ch ≡ ch' → ⊥)
    → with_block (with_block m ch b) ch' c ≡ with_block (with_block m ch' c) ch b
unfolding with_block
with_comm m b c ch ch' p q r s low low' ne = go (dec_lt ch ch')
  where
    go : Dec (ch < ch') → with_block (with_block m ch b) ch' c ≡ with_block (with_block m ch' c) ch b
    go (yes lt) = splice_comm (base ch) block_words (base ch') block_words b c m p (omega arith) (omega arith)
    go (no ge) = sym (splice_comm (base ch') block_words (base ch) block_words c b m q (omega arith) (omega arith))
