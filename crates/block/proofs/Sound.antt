-- What a sound block's numbers are.
-- Assumes nothing.
use mathlib.Core.Path.{◌≡◌, refl, sym, ap, ap₂, ◌∙◌}
use mathlib.Core.Logic.{◌≢◌}
use mathlib.Core.List.{List, [], ◌∷◌}
use mathlib.Core.Bool.{Bool, true, ◌&&◌, and-eq-true_iff}
use Prim.Native.Nat.{ℕ, zero, suc, ◌≤◌, ◌<◌, zero-le}
use native.Mathlib.Decide.{dec_lt, ℕ_discrete}
use native.Mathlib.Nat.{le_trans}
use native.Mathlib.Omega.{arith}
use borrow.Author.Tests.{leb-true, le-leb}
use lib.Dec.{leb}
use lib.ListN.{get_or, set, length-set}
use lib.Seq.{sets, get_or-set_same, get_or-set_other}
use Rattle.block.specs.Layout.{word, ranged, receive_level, receive_size, Whole}
use Rattle.block.specs.Ranges.{leasts, greatests, within, all_within, in_range, sound, Usable}

-- ---- words within two tables, one by one

both_true : (a b : Bool) → (a && b) ≡ true → (a ≡ true) × (b ≡ true)
both_true a b = (and-eq-true_iff a b).0

module _ (lo hi b : List ℕ) where
  pub in_each : (n i : ℕ) → all_within lo hi b n ≡ true → i < n → within lo hi i (word b i) ≡ true
  unfolding all_within
  in_each zero i e h = absurd (omega arith)
  in_each (suc n) i e h = go (in_each n i (both_true _ _ e).0) (dec_lt i n)
    where
      go : (i < n → within lo hi i (word b i) ≡ true) → Dec (i < n) → within lo hi i (word b i) ≡ true
      go below (yes l) = below l
      go below (no l) = let q : n ≡ i = omega arith in rw q at (both_true (all_within lo hi b n) _ e).1

  pub each_in : (n : ℕ) → ((i : ℕ) → i < n → within lo hi i (word b i) ≡ true) → all_within lo hi b n ≡ true
  unfolding all_within
  each_in zero h = refl
  each_in (suc n) h = ap₂ ◌&&◌ (each_in n (λ i l. h i (omega arith))) (h n (omega arith))

-- a number between the least and the greatest is within the tables, and the other way round
pub is_within : (lo hi : List ℕ) (i v : ℕ) → get_or lo i 0 ≤ v → v ≤ get_or hi i 0 → within lo hi i v ≡ true
is_within lo hi i v l u = ap₂ ◌&&◌ (le-leb (get_or lo i 0) v l) (le-leb v (get_or hi i 0) u)

pub no_less : (lo hi : List ℕ) (i v : ℕ) → within lo hi i v ≡ true → get_or lo i 0 ≤ v
no_less lo hi i v e = leb-true (get_or lo i 0) v (both_true _ _ e).0

pub no_more : (lo hi : List ℕ) (i v : ℕ) → within lo hi i v ≡ true → v ≤ get_or hi i 0
no_more lo hi i v e = leb-true v (get_or hi i 0) (both_true (leb (get_or lo i 0) v) _ e).1

-- ---- a sound block

-- once every word is tested, the receive level decides where all are in range
pub decides : (b : List ℕ) (n : ℕ) (t : Bool) → n ≡ ranged → t ≡ all_within leasts greatests b n → sound b ≡ (t && leb (word b receive_level) (word b receive_size))
unfolding sound
decides b n t e p = ap (λ (s : Bool). s && leb (word b receive_level) (word b receive_size)) (sym (rw e at p))

-- a number between the least and the greatest is in range
pub in_range_lem : (i v : ℕ) → get_or leasts i 0 ≤ v → v ≤ get_or greatests i 0 → in_range i v ≡ true
in_range_lem i v l u = is_within leasts greatests i v l u

-- a block whose words are in their ranges, one by one, is usable
pub usable_words : {b : List ℕ} → Whole b → ((i : ℕ) → i < ranged → in_range i (word b i) ≡ true) → word b receive_level ≤ word b receive_size → Usable b
unfolding sound
usable_words {b} w h l = record { whole = w; sound = ap₂ ◌&&◌ (each_in leasts greatests b ranged h) (le-leb (word b receive_level) (word b receive_size) l) }

module _ {b : List ℕ} (u : Usable b) where
  in_all : all_within leasts greatests b ranged ≡ true
  unfolding sound
  in_all = (both_true _ _ u.sound).0

  pub word_in : (i : ℕ) → i < ranged → in_range i (word b i) ≡ true
  word_in i h = in_each leasts greatests b ranged i in_all h

  -- "receive level 0 to size"
  pub level_in_size : word b receive_level ≤ word b receive_size
  unfolding sound
  level_in_size = leb-true (word b receive_level) (word b receive_size) (both_true (all_within leasts greatests b ranged) _ u.sound).1

  -- a word with a range is no less than its least value and no more than its greatest
  pub at_least : (i : ℕ) → i < ranged → get_or leasts i 0 ≤ word b i
  at_least i h = no_less leasts greatests i (word b i) (word_in i h)

  pub at_most : (i : ℕ) → i < ranged → word b i ≤ get_or greatests i 0
  at_most i h = no_more leasts greatests i (word b i) (word_in i h)

  -- ---- a block stays usable where what is stored is in range

  kept_in : (i v : ℕ) → (i < ranged → in_range i v ≡ true) → (j : ℕ) → j < ranged → in_range j (word (set b i v) j) ≡ true
  kept_in i v h j l = go (ℕ_discrete j i)
    where
      go : Dec (j ≡ i) → in_range j (word (set b i v) j) ≡ true
      go (yes e) =
          let s : word (set b i v) i ≡ v = get_or-set_same b i v 0 (omega (arith, u.whole)) in
          rw (e, s) (h (omega arith))
      go (no e) = rw (get_or-set_other b i j v 0 e) (word_in j l)

  stays : (i v : ℕ) → (i < ranged → in_range i v ≡ true) → word (set b i v) receive_level ≤ word (set b i v) receive_size → Usable (set b i v)
  stays i v h l = usable_words (length-set b i v ∙ u.whole) (kept_in i v h) l

  pub usable_set : (i v : ℕ) → receive_level ≢ i → receive_size ≢ i → (i < ranged → in_range i v ≡ true) → Usable (set b i v)
  usable_set i v p q h =
      stays i v h (rw (get_or-set_other b i receive_level v 0 p, get_or-set_other b i receive_size v 0 q) level_in_size)

  pub usable_level : (v : ℕ) → v ≤ word b receive_size → Usable (set b receive_level v)
  unfolding leasts greatests
  usable_level v h =
      stays receive_level v (λ l. in_range_lem receive_level v zero-le (le_trans h (at_most receive_size (omega arith))))
      (rw (get_or-set_same b receive_level v 0 (omega (arith, u.whole)), get_or-set_other b receive_level receive_size v 0 (omega arith)) h)

  pub usable_size : (v : ℕ) → word b receive_level ≤ v → in_range receive_size v ≡ true → Usable (set b receive_size v)
  usable_size v h r =
      stays receive_size v (λ l. r)
      (rw (get_or-set_same b receive_size v 0 (omega (arith, u.whole)), get_or-set_other b receive_size receive_level v 0 (omega arith)) h)

-- stores behind the words with a range leave a block usable
pub usable_beyond : (b : List ℕ) (s : ℕ) (e : List ℕ) → Usable b → ranged ≤ s → Usable (sets b s e)
usable_beyond b s [] u h = u
usable_beyond b s (x ∷ e) u h =
    usable_beyond (set b s x) (suc s) e (usable_set u s x (omega arith) (omega arith) (λ l. absurd (omega arith))) (omega arith)
