-- The laws of a ring, over its place, its width and its number of slots.
-- Assumes nothing.
use mathlib.Core.Path.{◌≡◌, refl, sym, ap, ap₂, ◌∙◌}
use mathlib.Core.Logic.{◌≢◌}
use mathlib.Core.List.{List, [], ◌∷◌, ◌++◌}
use Prim.Native.Nat.{ℕ, zero, suc, ◌+◌, ◌-◌, ◌%◌, ◌≤◌, ◌<◌}
use native.Mathlib.Nat.{add-zero, add-suc, suc-add, suc-mod, mod-lt, mod-mod, mod-add-mod, mod-eq_of_lt, mod-eq-sub-mod, mul-le-mul_left, lt_of_mul-lt-mul_left}
use native.Mathlib.Numerals.{add-one, sub-one}
use native.Mathlib.Decide.{dec_lt}
use native.Mathlib.Omega.{arith}
use lib.ListN.{length, get_or, set, drop}
use lib.Seq.{sets, get_or-set_other}
use Rattle.ring.specs.Ring.{Ring, slot, end, words, held, oldest, appended, next}
use Rattle.ring.proofs.Words.{words_same, sets_other, sets_read}

-- a ring's slots from i up to, not including, i + n are all different
apart : (n i j : ℕ) → i < j → j < i + n → i % n ≢ j % n
apart n i j l u e = go (dec_lt x n)
  where
    x : ℕ
    x = i % n + (j - i)

    same : x % n ≡ j % n
    same = mod-add-mod i n (j - i) ∙ ap (λ k. k % n) (omega arith)

    go : Dec (x < n) → ⊥
    go (yes h) = omega (arith, same, mod-eq_of_lt h)
    go (no h) =
        let b : i % n < n = mod-lt i (omega arith) in
        omega (arith, same, mod-eq-sub-mod {n = x} {m = n} (omega arith), mod-eq_of_lt {n = x - n} {m = n} (omega arith))

module _ (r : Ring) where
  -- ---- slots

  -- a slot stands inside the ring
  pub inside : (k : ℕ) → 0 < r.slots → slot r k + r.width ≤ end r
  inside k h = omega (arith, mul-le-mul_left r.width (mod-lt k h))

  -- a word of one slot stands in no earlier slot
  not_before : (j k i : ℕ) → slot r j ≤ i → i < slot r k + r.width → j % r.slots ≤ k % r.slots
  not_before j k i l u = omega (arith, lt_of_mul-lt-mul_left r.width {m = j % r.slots} {n = suc (k % r.slots)} (omega arith))

  -- an entry stored in one slot leaves the entry in another
  other_slot : (b e : List ℕ) (j k : ℕ) → length e ≡ r.width → j % r.slots ≢ k % r.slots
      → words (sets b (slot r k) e) (slot r j) r.width ≡ words b (slot r j) r.width
  other_slot b e j k w n =
      words_same b _ _ _ (λ i l u. sets_other b _ e i (λ l' u'. omega (arith, not_before j k i l (omega arith), not_before k j i l' u)))

  -- ---- what `held` is

  -- cleared, a ring holds nothing
  pub none_held : (b : List ℕ) (pos : ℕ) → held r b pos 0 ≡ []
  unfolding held
  none_held b pos = refl

  pub length-held : (b : List ℕ) (pos level : ℕ) → length (held r b pos level) ≡ level
  unfolding held
  length-held b pos zero = refl
  length-held b pos (suc n) = ap suc (length-held b (suc pos) n)

  -- a position counts modulo the number of slots
  held-mod : (b : List ℕ) (j k n : ℕ) → j % r.slots ≡ k % r.slots → held r b j n ≡ held r b k n
  unfolding held
  held-mod b j k zero e = refl
  held-mod b j k (suc n) e = ap₂ ◌∷◌ (rw e) (held-mod b (suc j) (suc k) n (cc (suc-mod j r.slots, suc-mod k r.slots)))

  -- the newest entry is the last
  held-last : (b : List ℕ) (k n : ℕ) → held r b k (suc n) ≡ held r b k n ++ (words b (slot r (k + n)) r.width ∷ [])
  unfolding held
  held-last b k zero = rw add-zero
  held-last b k (suc n) = ap₂ ◌∷◌ refl (rw (add-suc, ← suc-add) (held-last b (suc k) n))

  -- the same words in each slot are the same entries
  held_same : (b c : List ℕ) (k n : ℕ)
      → ((j : ℕ) → k ≤ j → j < k + n → words c (slot r j) r.width ≡ words b (slot r j) r.width)
      → held r c k n ≡ held r b k n
  unfolding held
  held_same b c k zero h = refl
  held_same b c k (suc n) h =
      ap₂ ◌∷◌ (h k (omega arith) (omega arith)) (held_same b c (suc k) n (λ j l u. h j (omega arith) (omega arith)))

  -- ---- the laws. `b` is the block before, `c` the block after, and `e` the words of an entry

  -- an entry that is appended is the newest
  pub append : (b c e : List ℕ) (pos level : ℕ) → c ≡ appended r b pos level e → length e ≡ r.width → end r ≤ length b → level < r.slots
      → held r c pos (level + 1) ≡ held r b pos level ++ (e ∷ [])
  append b c e pos level m w f h = rw (m, add-one, held-last) (ap₂ (λ x y. x ++ (y ∷ [])) kept stored)
    where
      kept : held r (appended r b pos level e) pos level ≡ held r b pos level
      kept = held_same b _ pos level (λ j l u. other_slot b e j (pos + level) w (apart r.slots j (pos + level) u (omega arith)))

      stored : words (appended r b pos level e) (slot r (pos + level)) r.width ≡ e
      stored = rw w at (sets_read b (slot r (pos + level)) e (omega (arith, inside (pos + level) (omega arith))))

  -- the oldest entry, and those that are held once it is taken out
  pub take-oldest : (b : List ℕ) (pos level : ℕ) → 0 < level
      → held r b pos level ≡ oldest r b pos ∷ held r b (next r.slots pos) (level - 1)
  unfolding held
  take-oldest b pos zero h = absurd (omega arith)
  take-oldest b pos (suc n) h =
      let behind : (pos + 1) % r.slots ≡ next r.slots pos % r.slots = sym (mod-mod (pos + 1) r.slots) in
      ap₂ ◌∷◌ refl
      (held-mod b (suc pos) (next r.slots pos) n (ap (λ (i : ℕ). i % r.slots) (sym (add-one pos)) ∙ behind)
      ∙ ap (held r b (next r.slots pos)) (sym (sub-one (suc n))))

  -- where a ring may hold no more than the `size` entries that it holds, the oldest is overwritten: the new one is stored behind the newest,
  -- which is the oldest's very slot where size is the number of slots, and the position moves on
  pub overwrite : (b c e : List ℕ) (pos size : ℕ) → c ≡ appended r b pos size e → length e ≡ r.width → end r ≤ length b → 0 < size → size ≤ r.slots
      → held r c (next r.slots pos) size ≡ drop 1 (held r b pos size) ++ (e ∷ [])
  overwrite b c e pos size m w f h l =
      let p : pos + 1 + (size - 1) ≡ pos + size = omega arith in
      let q : size - 1 + 1 ≡ size = omega arith in
      rw (m, take-oldest b pos size h) (rw (mod-add-mod, p, q) at (append b _ e (next r.slots pos) (size - 1) refl w f (omega arith)))

  -- a block with the same words inside the ring holds the same entries, so stores outside of it leave them
  pub elsewhere : (b c : List ℕ) (pos level : ℕ) → 0 < r.slots → ((i : ℕ) → r.at ≤ i → i < end r → get_or c i 0 ≡ get_or b i 0)
      → held r c pos level ≡ held r b pos level
  elsewhere b c pos level h s =
      held_same b c pos level (λ j l u. words_same b c _ _ (λ i l u. s i (omega arith) (omega (arith, inside j h))))

  pub elsewhere_set : (b : List ℕ) (i x pos level : ℕ) → 0 < r.slots → (r.at ≤ i → i < end r → ⊥)
      → held r (set b i x) pos level ≡ held r b pos level
  elsewhere_set b i x pos level h o = elsewhere b _ pos level h (λ j l u. get_or-set_other b i j x 0 (λ q. o (omega arith) (omega arith)))
