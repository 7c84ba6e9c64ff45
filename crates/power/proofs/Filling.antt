-- The memory while power-up fills it: zeros in all blocks, the settings of the first channels, then the module part.
-- Assumes nothing.
use Prim.Native.Nat.{ℕ, zero, suc, ◌+◌, ◌*◌, ◌-◌, ◌≤◌, ◌<◌}
use mathlib.Core.Path.{◌≡◌, refl, sym, ap, ap₂, ◌∙◌}
use mathlib.Core.List.{List, [], ◌∷◌, ◌++◌, append_assoc}
use native.Mathlib.Numerals.{add-one}
use native.Mathlib.Omega.{arith}
use lib.ListN.{length, take, drop, set, replicate, length-append, length-set, length-replicate, replicate-append-replicate}
use lib.Seq.{sets, sets-eq, take_at, drop_at, drop-cons, drop-set-lt, get_or-set_same, get_or-set_other, length-take-le}
use borrow.Rule.Slice.PartMut.{put_mid, post_of, Post-is, mid_len, take_put, drop_put}
use Rattle.block.specs.Layout.{word, settings, block_words}
use Rattle.settings.specs.Factory.{factory_of, nonzero_to_factory}
use Rattle.frame.specs.Layout.{count, stamp, layout, layout_number, module_words, need, base, block, with_block}
use Rattle.frame.proofs.Parts.{part, splice, part_back, splice_back}
use Rattle.power.specs.Power.{repeated, part_with, factory_part, factory_blocks, powered}

pub repeated-length : (n w : ℕ) (f : List ℕ) → length f ≡ w → length (repeated n f) ≡ n * w
unfolding repeated
repeated-length zero w f e = omega arith
repeated-length (suc n) w f e = length-append (repeated n f) f ∙ step (repeated-length n w f e)
  where
    step : length (repeated n f) ≡ n * w → length (repeated n f) + length f ≡ suc n * w
    step h = omega arith

factory_of_lem : (n : ℕ) → settings ≤ n → length (factory_of n) ≡ n
factory_of_lem n h = simp length-replicate (omega arith)

pub factory_length : length (factory_of block_words) ≡ block_words
factory_length = factory_of_lem block_words (omega arith)

-- ---- the module part

-- stores into all of its words but the count and the layout number
pub part_stored : (m : List ℕ) → module_words ≤ length m
    → sets m stamp (take (layout - stamp) (drop stamp (factory_part 0))) ≡ part_with (word m count) (word m layout) ++ drop module_words m
part_stored [] h = absurd (omega arith)
part_stored (x ∷ m) h =
    sets-eq (take (layout - stamp) (drop stamp (factory_part 0))) (x ∷ m) stamp (omega arith)
    ∙ ap (λ (t : List ℕ). x ∷ (take (layout - stamp) (drop stamp (factory_part 0)) ++ t)) (drop-cons (x ∷ m) layout 0 (omega arith))

-- the count and the number of this layout stored first
pub part_started : (m : List ℕ) (k : ℕ) → module_words ≤ length m
    → part_with (word (set (set m count k) layout layout_number) count) (word (set (set m count k) layout layout_number) layout)
    ++ drop module_words (set (set m count k) layout layout_number) ≡ factory_part k ++ drop module_words m
part_started m k h =
    let long : layout < length (set m count k) = simp length-set (omega arith) in
    let first : word (set (set m count k) layout layout_number) count ≡ k =
    get_or-set_other (set m count k) layout count layout_number 0 (λ e. omega arith) ∙ get_or-set_same m count k 0 (omega arith) in
    let last : word (set (set m count k) layout layout_number) layout ≡ layout_number = get_or-set_same (set m count k) layout layout_number 0 long in
    let behind : drop module_words (set (set m count k) layout layout_number) ≡ drop module_words m =
    drop-set-lt module_words (set m count k) layout layout_number (omega arith) ∙ drop-set-lt module_words m count k (omega arith) in
    rw (first, last, behind) refl

-- ---- zeros

-- zeros with the settings that are not 0 at the factory are the factory block
filled_of : (n : ℕ) → settings ≤ n → nonzero_to_factory (replicate n 0) ≡ factory_of n
filled_of n h =
    let e : n ≡ settings + (n - settings) = omega arith in
    ap (λ (k : ℕ). nonzero_to_factory (replicate k 0)) e ∙ ap nonzero_to_factory (sym (replicate-append-replicate settings (n - settings) 0))

-- ---- n parts f behind p, then z zeros, then r

abbrev laid : ℕ → ℕ → List ℕ → List ℕ → List ℕ → List ℕ
laid n z f p r = p ++ (repeated n f ++ (replicate z 0 ++ r))

repeated-next : (n : ℕ) (f : List ℕ) → repeated n f ++ f ≡ repeated (n + 1) f
unfolding repeated
repeated-next n f = rw add-one refl

-- the next w zeros, and f in their place
module _ (at n w z : ℕ) (f p r : List ℕ) (long : length f ≡ w) (here : at ≡ length p + n * w) (room : w ≤ z) where
  behind : at ≡ length p + (length (repeated n f) + 0)
  behind = let q : length (repeated n f) ≡ n * w = repeated-length n w f long in omega arith

  split : replicate z 0 ++ r ≡ replicate w 0 ++ (replicate (z - w) 0 ++ r)
  split =
      let e : z ≡ w + (z - w) = omega arith in
      ap (λ (k : ℕ). replicate k 0 ++ r) e ∙ ap (λ (l : List ℕ). l ++ r) (sym (replicate-append-replicate w (z - w) 0))
      ∙ append_assoc (replicate w 0) (replicate (z - w) 0) r

  next_zeros : part at w (laid n z f p r) ≡ replicate w 0
  next_zeros =
      part_back at (length (repeated n f) + 0) w p (repeated n f ++ (replicate z 0 ++ r)) behind
      ∙ part_back (length (repeated n f) + 0) 0 w (repeated n f) (replicate z 0 ++ r) refl
      ∙ ap (take w) split ∙ take_at (replicate w 0) (replicate (z - w) 0 ++ r) w (length-replicate w 0)

  next_laid : splice at w f (laid n z f p r) ≡ laid (n + 1) (z - w) f p r
  next_laid =
      splice_back at (length (repeated n f) + 0) w f p (repeated n f ++ (replicate z 0 ++ r)) behind
      ∙ ap (λ (t : List ℕ). p ++ t)
      (splice_back (length (repeated n f) + 0) 0 w f (repeated n f) (replicate z 0 ++ r) refl
      ∙ ap (λ (t : List ℕ). repeated n f ++ (f ++ drop w t)) split
      ∙ ap (λ (t : List ℕ). repeated n f ++ (f ++ t)) (drop_at (replicate w 0) (replicate (z - w) 0 ++ r) w (length-replicate w 0))
      ∙ sym (append_assoc (repeated n f) f (replicate (z - w) 0 ++ r))
      ∙ ap (λ (t : List ℕ). t ++ (replicate (z - w) 0 ++ r)) (repeated-next n f))

-- ---- memory of k channels while the blocks of the first n are filled and the others are zeros

abbrev pub filled_to : ℕ → ℕ → List ℕ → List ℕ
filled_to n k m = laid n ((k - n) * block_words) (factory_of block_words) (take module_words m) (drop (need k) m)

-- the same three parts
around : {p p' q q' r r' : List ℕ} → p ≡ p' → q ≡ q' → r ≡ r' → p ++ (q ++ r) ≡ p' ++ (q' ++ r')
around a b c = ap₂ ◌++◌ a (ap₂ ◌++◌ b c)

-- memory x is memory m with zeros in the blocks of k channels
pub record Zeroed (k : ℕ) (m x : List ℕ) : Type 0 where
  pub front : take module_words x ≡ take module_words m
  pub zeros : x ≡ filled_to 0 k x
  pub back : drop (need k) x ≡ drop (need k) m

-- as a part up to e, lent to be zeroed, comes back
pub zeroed : (k e : ℕ) (m b : List ℕ) → need k ≤ length m → e ≡ need k → b ≡ replicate (length (part module_words (e - module_words) m)) 0
    → Zeroed k m (put_mid module_words (e - module_words) m b)
unfolding repeated
zeroed k e m b h q z =
    let x : List ℕ = put_mid module_words (e - module_words) m b in
    let n : length (part module_words (e - module_words) m) ≡ e - module_words = mid_len module_words e m (omega arith) in
    let s : b ≡ replicate (e - module_words) 0 = z ∙ ap (λ (i : ℕ). replicate i 0) n in
    let long : length b ≡ e - module_words = ap length s ∙ length-replicate (e - module_words) 0 in
    let words : e - module_words ≡ (k - 0) * block_words = omega arith in
    let front : take module_words x ≡ take module_words m = take_put module_words (e - module_words) m b (omega arith) in
    let back : drop e x ≡ drop e m = drop_put module_words e m b (omega arith) (omega arith) long in
    let rest : post_of module_words (e - module_words) m ≡ drop (need k) x = Post-is module_words e m (omega arith) ∙ sym back ∙ ap (λ (i : ℕ). drop i x) q in
    record { front = front; zeros = around {q' = replicate ((k - 0) * block_words) 0} (sym front) (s ∙ ap (λ (i : ℕ). replicate i 0) words) rest; back = rw (← q) back }

-- the next block filled, and all of them
pub filled_next : (n k : ℕ) (m x y : List ℕ) → n < k → need k ≤ length x → length x ≡ length m → x ≡ filled_to n k m
    → y ≡ with_block x (n + 1) (nonzero_to_factory (block x (n + 1))) → y ≡ filled_to (n + 1) k m
unfolding block with_block
filled_next n k m x y l h same e g =
    let p : length (take module_words m) ≡ module_words = length-take-le module_words m (omega arith) in
    let f : List ℕ = factory_of block_words in
    let at : base (n + 1) ≡ length (take module_words m) + n * block_words = omega arith in
    let room : block_words ≤ (k - n) * block_words = omega arith in
    let less : (k - n) * block_words - block_words ≡ (k - (n + 1)) * block_words = omega arith in
    let zeros = next_zeros (base (n + 1)) n block_words ((k - n) * block_words) f (take module_words m) (drop (need k) m) factory_length at room in
    g ∙ ap (λ (t : List ℕ). splice (base (n + 1)) block_words (nonzero_to_factory (part (base (n + 1)) block_words t)) t) e
    ∙ ap (λ (t : List ℕ). splice (base (n + 1)) block_words t (filled_to n k m)) (ap nonzero_to_factory zeros ∙ filled_of block_words (omega arith))
    ∙ next_laid (base (n + 1)) n block_words ((k - n) * block_words) f (take module_words m) (drop (need k) m) factory_length at room
    ∙ ap (λ (z : ℕ). laid (n + 1) z f (take module_words m) (drop (need k) m)) less

pub filled_all : (n k : ℕ) (m z x : List ℕ) → n ≡ k → Zeroed k m z → x ≡ filled_to n k z → x ≡ take module_words m ++ (factory_blocks k ++ drop (need k) m)
filled_all n k m z x q s e =
    let none : (k - k) * block_words ≡ 0 = omega arith in
    rw q at e ∙ ap (λ (n : ℕ). laid k n (factory_of block_words) (take module_words z) (drop (need k) z)) none
    ∙ around {q = factory_blocks k} s.front refl s.back

-- the module part stored before the filled blocks
pub filled_whole : (k : ℕ) (m x y : List ℕ) → need k ≤ length m → x ≡ take module_words m ++ (factory_blocks k ++ drop (need k) m)
    → y ≡ factory_part k ++ drop module_words x → y ≡ powered k m
unfolding powered
filled_whole k m x y h e g =
    let front : length (take module_words m) ≡ module_words = length-take-le module_words m (omega arith) in
    g ∙ ap (λ (t : List ℕ). factory_part k ++ drop module_words t) e
    ∙ ap (λ (t : List ℕ). factory_part k ++ t) (drop_at (take module_words m) (factory_blocks k ++ drop (need k) m) module_words front)
