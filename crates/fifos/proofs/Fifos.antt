-- What stores and the changes of a FIFO do to what it holds, once for both FIFOs.
-- Assumes nothing.
use Rattle.std.proofs.Common.{◌≡◌, ℕ, ◌+◌, ◌-◌, ◌<◌, ◌≤◌, ◌≢◌, List, length, drop, set, sym, refl, ap, ◌∙◌, arith, length-set, get_or-set_other, get_or-set_same}
use lib.Seq.{sets, length-sets}
use Rattle.ring.specs.Ring.{held, slot, end, appended, next}
use Rattle.ring.proofs.Words.{sets_other}
use Rattle.ring.proofs.Laws.{none_held, length-held, append, take-oldest, overwrite, elsewhere_set}
use Rattle.block.specs.Layout.{word, Whole, block_words}
use Rattle.fifos.specs.Clearing.{cleared}
use Rattle.fifos.specs.Counts.{counted}
use Rattle.fifos.specs.Fifos.{Offsets, receive_offsets, transmit_offsets, entry_appended, entry_overwriting, entry_taken, Fifo, fifo, accepts, gives, clears, overwrites}

-- a FIFO by its parts
same : {h h' : List (List ℕ)} {a a' t t' c c' : ℕ} → h ≡ h' → a ≡ a' → t ≡ t' → c ≡ c'
    → ◌≡◌ {A = Fifo} (record { held = h; accepted = a; taken = t; cleared = c }) (record { held = h'; accepted = a'; taken = t'; cleared = c' })
same p q r s = λ i. record { held = p i; accepted = q i; taken = r i; cleared = s i }

-- a word that is none of a FIFO's
pub record Apart (p : Offsets) (i : ℕ) : Type 0 where
  pub position : p.position ≢ i
  pub level : p.level ≢ i
  pub accepted : p.accepted ≢ i
  pub taken : p.taken ≢ i
  pub cleared : p.cleared ≢ i
  pub ring : p.ring.at ≤ i → i < end p.ring → ⊥

-- a FIFO whose words are all different and stand before its ring
pub record Proper (p : Offsets) : Type 0 where
  pub some : 0 < p.ring.slots
  pub room : end p.ring ≤ block_words
  pub position : p.position < p.ring.at
  pub level : p.level < p.ring.at
  pub accepted : p.accepted < p.ring.at
  pub taken : p.taken < p.ring.at
  pub cleared : p.cleared < p.ring.at
  pub position_level : p.position ≢ p.level
  pub position_accepted : p.position ≢ p.accepted
  pub position_taken : p.position ≢ p.taken
  pub position_cleared : p.position ≢ p.cleared
  pub level_accepted : p.level ≢ p.accepted
  pub level_taken : p.level ≢ p.taken
  pub level_cleared : p.level ≢ p.cleared
  pub accepted-taken : p.accepted ≢ p.taken
  pub accepted-cleared : p.accepted ≢ p.cleared
  pub taken-cleared : p.taken ≢ p.cleared

pub receive_proper : Proper receive_offsets
receive_proper = omega arith

pub transmit_proper : Proper transmit_offsets
transmit_proper = omega arith

-- a store at a word that is none of a FIFO's leaves it
pub store_apart : (p : Offsets) (b : List ℕ) (i v : ℕ) → 0 < p.ring.slots → Apart p i → fifo p (set b i v) ≡ fifo p b
store_apart p b i v h a =
    same
    (rw (get_or-set_other b i p.position v 0 a.position, get_or-set_other b i p.level v 0 a.level) (elsewhere_set p.ring b i v _ _ h a.ring))
    (get_or-set_other b i p.accepted v 0 a.accepted) (get_or-set_other b i p.taken v 0 a.taken)
    (get_or-set_other b i p.cleared v 0 a.cleared)

module _ (p : Offsets) (q : Proper p) (b : List ℕ) (w : Whole b) where
  -- an entry stored in the ring leaves the words before it
  before_ring : (k : ℕ) (e : List ℕ) (i : ℕ) → i < p.ring.at → word (sets b (slot p.ring k) e) i ≡ word b i
  before_ring k e i h = sets_other b (slot p.ring k) e i (λ l u. omega arith)

  -- a cleared FIFO
  pub clear_law : fifo p (cleared p.level p.cleared b) ≡ clears counted (fifo p b)
  clear_law =
      let n : ℕ = counted (word b p.cleared) (word b p.level) in
      let m : List ℕ = set b p.cleared n in
      let long : p.level < length m = rw length-set (omega (arith, w, q)) in
      let fits : p.cleared < length b = omega (arith, w, q) in
      same
      (rw (get_or-set_same m p.level 0 0 long) (none_held p.ring _ _))
      (get_or-set_other m p.level p.accepted 0 0 (λ e. q.level_accepted (sym e)) ∙ get_or-set_other b p.cleared p.accepted n 0 q.accepted-cleared)
      (get_or-set_other m p.level p.taken 0 0 (λ e. q.level_taken (sym e)) ∙ get_or-set_other b p.cleared p.taken n 0 q.taken-cleared)
      (get_or-set_other m p.level p.cleared 0 0 (λ e. q.level_cleared (sym e)) ∙ get_or-set_same b p.cleared n 0 fits
      ∙ ap (counted (word b p.cleared)) (sym (length-held p.ring b _ _)))

  -- the oldest taken out
  pub take_law : 0 < word b p.level → fifo p (entry_taken p b) ≡ gives counted (fifo p b)
  take_law h =
      let l : ℕ = word b p.level - 1 in
      let s : ℕ = next p.ring.slots (word b p.position) in
      let t : ℕ = counted (word b p.taken) 1 in
      let b₁ : List ℕ = set b p.level l in
      let b₂ : List ℕ = set b₁ p.position s in
      let fits₂ : p.position < length b₁ = rw length-set (omega (arith, w, q)) in
      let fits₃ : p.taken < length b₂ = rw (length-set, length-set) (omega (arith, w, q)) in
      let at : word (set b₂ p.taken t) p.position ≡ s =
      get_or-set_other b₂ p.taken p.position t 0 q.position_taken ∙ get_or-set_same b₁ p.position s 0 fits₂ in
      let level : word (set b₂ p.taken t) p.level ≡ l =
      get_or-set_other b₂ p.taken p.level t 0 q.level_taken ∙ get_or-set_other b₁ p.position p.level s 0 (λ e. q.position_level (sym e))
      ∙ get_or-set_same b p.level l 0 (omega (arith, w, q)) in
      let left : (k n : ℕ) → held p.ring (set b₂ p.taken t) k n ≡ held p.ring b k n = λ k n.
      elsewhere_set p.ring b₂ p.taken t k n q.some (λ x y. omega (arith, q))
      ∙ elsewhere_set p.ring b₁ p.position s k n q.some (λ x y. omega (arith, q))
      ∙ elsewhere_set p.ring b p.level l k n q.some (λ x y. omega (arith, q)) in
      same
      (rw (at, level) (left s l) ∙ ap (drop 1) (sym (take-oldest p.ring b (word b p.position) (word b p.level) h)))
      (get_or-set_other b₂ p.taken p.accepted t 0 q.accepted-taken ∙ get_or-set_other b₁ p.position p.accepted s 0 (λ e. q.position_accepted (sym e))
      ∙ get_or-set_other b p.level p.accepted l 0 (λ e. q.level_accepted (sym e)))
      (get_or-set_same b₂ p.taken t 0 fits₃)
      (get_or-set_other b₂ p.taken p.cleared t 0 (λ e. q.taken-cleared (sym e)) ∙ get_or-set_other b₁ p.position p.cleared s 0 (λ e. q.position_cleared (sym e))
      ∙ get_or-set_other b p.level p.cleared l 0 (λ e. q.level_cleared (sym e)))

  -- an entry accepted behind those held
  pub append_law : (e : List ℕ) → length e ≡ p.ring.width → word b p.level < p.ring.slots
      → fifo p (entry_appended p b e) ≡ accepts counted (fifo p b) e
  append_law e long h =
      let l : ℕ = word b p.level + 1 in
      let a : ℕ = counted (word b p.accepted) 1 in
      let m : List ℕ = appended p.ring b (word b p.position) (word b p.level) e in
      let b₁ : List ℕ = set m p.level l in
      let size : length m ≡ block_words = length-sets b _ e ∙ w in
      let fits₁ : p.level < length m = omega (arith, size, q) in
      let fits₂ : p.accepted < length b₁ = rw length-set (omega (arith, size, q)) in
      let at : word (set b₁ p.accepted a) p.position ≡ word b p.position =
      get_or-set_other b₁ p.accepted p.position a 0 q.position_accepted ∙ get_or-set_other m p.level p.position l 0 q.position_level
      ∙ before_ring _ e p.position q.position in
      let level : word (set b₁ p.accepted a) p.level ≡ l =
      get_or-set_other b₁ p.accepted p.level a 0 q.level_accepted ∙ get_or-set_same m p.level l 0 fits₁ in
      let left : (k n : ℕ) → held p.ring (set b₁ p.accepted a) k n ≡ held p.ring m k n = λ k n.
      elsewhere_set p.ring b₁ p.accepted a k n q.some (λ x y. omega (arith, q)) ∙ elsewhere_set p.ring m p.level l k n q.some (λ x y. omega (arith, q)) in
      same
      (rw (at, level) (left (word b p.position) l) ∙ append p.ring b m e (word b p.position) (word b p.level) refl long (omega (arith, w, q)) h)
      (get_or-set_same b₁ p.accepted a 0 fits₂)
      (get_or-set_other b₁ p.accepted p.taken a 0 (λ x. q.accepted-taken (sym x)) ∙ get_or-set_other m p.level p.taken l 0 (λ x. q.level_taken (sym x))
      ∙ before_ring _ e p.taken q.taken)
      (get_or-set_other b₁ p.accepted p.cleared a 0 (λ x. q.accepted-cleared (sym x)) ∙ get_or-set_other m p.level p.cleared l 0 (λ x. q.level_cleared (sym x))
      ∙ before_ring _ e p.cleared q.cleared)

  -- an entry accepted over the oldest
  pub overwrite_law : (e : List ℕ) → length e ≡ p.ring.width → 0 < word b p.level → word b p.level ≤ p.ring.slots
      → fifo p (entry_overwriting p b e) ≡ overwrites counted (fifo p b) e
  overwrite_law e long h full =
      let s : ℕ = next p.ring.slots (word b p.position) in
      let a : ℕ = counted (word b p.accepted) 1 in
      let m : List ℕ = appended p.ring b (word b p.position) (word b p.level) e in
      let b₁ : List ℕ = set m p.position s in
      let size : length m ≡ block_words = length-sets b _ e ∙ w in
      let fits₁ : p.position < length m = omega (arith, size, q) in
      let fits₂ : p.accepted < length b₁ = rw length-set (omega (arith, size, q)) in
      let at : word (set b₁ p.accepted a) p.position ≡ s =
      get_or-set_other b₁ p.accepted p.position a 0 q.position_accepted ∙ get_or-set_same m p.position s 0 fits₁ in
      let level : word (set b₁ p.accepted a) p.level ≡ word b p.level =
      get_or-set_other b₁ p.accepted p.level a 0 q.level_accepted ∙ get_or-set_other m p.position p.level s 0 (λ x. q.position_level (sym x))
      ∙ before_ring _ e p.level q.level in
      let left : (k n : ℕ) → held p.ring (set b₁ p.accepted a) k n ≡ held p.ring m k n = λ k n.
      elsewhere_set p.ring b₁ p.accepted a k n q.some (λ x y. omega (arith, q)) ∙ elsewhere_set p.ring m p.position s k n q.some (λ x y. omega (arith, q)) in
      same
      (rw (at, level) (left s (word b p.level)) ∙ overwrite p.ring b m e (word b p.position) (word b p.level) refl long (omega (arith, w, q)) h full)
      (get_or-set_same b₁ p.accepted a 0 fits₂)
      (get_or-set_other b₁ p.accepted p.taken a 0 (λ x. q.accepted-taken (sym x)) ∙ get_or-set_other m p.position p.taken s 0 (λ x. q.position_taken (sym x))
      ∙ before_ring _ e p.taken q.taken)
      (get_or-set_other b₁ p.accepted p.cleared a 0 (λ x. q.accepted-cleared (sym x)) ∙ get_or-set_other m p.position p.cleared s 0 (λ x. q.position_cleared (sym x))
      ∙ before_ring _ e p.cleared q.cleared)
