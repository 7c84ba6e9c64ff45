-- The new marks of the mailboxes after what clears, overwrites and stores.
-- Assumes nothing.
use mathlib.Core.Path.{◌≡◌, refl, sym, ap, ap₂, ◌∙◌}
use mathlib.Core.Bool.{Bool, true, false, ◌||◌, cond}
use mathlib.Core.List.{List}
use Prim.Native.Nat.{ℕ, zero, suc, ◌+◌, ◌/◌, ◌%◌, ◌≤◌, ◌<◌}
use native.Mathlib.Nat.{mod-lt}
use native.Mathlib.Numerals.{add-one}
use native.Mathlib.Omega.{arith}
use borrow.Author.Tests.{eqb-true, eqb-false}
use lib.Dec.{eqb}
use lib.ListN.{set}
use lib.Seq.{sets, get_or-set_same, get_or-set_other}
use Rattle.word.specs.Word.{index}
use Rattle.word.specs.Parity.{error_mark}
use Rattle.ring.specs.Ring.{slot, slots, words, held}
use Rattle.ring.proofs.Words.{sets_other}
use Rattle.block.specs.Layout.{word, parity, stamps, receive_mode, receive_position, receive_ring, indexes, Whole}
use Rattle.block.specs.Modes.{fifo_mode}
use Rattle.fifos.specs.Mailboxes.{mailbox_at, new_mark, is_new, mark_taken, listed_index, marks_taken, unlisted}
use Rattle.fifos.proofs.Marks.{marks_length, marks_before}
use Rattle.receive.specs.Entries.{stamp_of, mail_of, mailed}
use Rattle.receive.proofs.Stores.{mark_le}
use Rattle.channel_laws.specs.Listing.{names, names_any}

-- ---- a list of entries, from its oldest and from its newest

module _ (i : ℕ) (b : List ℕ) where
  -- whether the entry in slot k names index i
  abbrev pub at : ℕ → Bool
  at k = eqb (word b (slot receive_ring k + 1) % indexes) i

  -- whether one of the n entries from slot k on does, the newest last
  abbrev pub among : ℕ → ℕ → Bool
  among k zero = false
  among k (suc n) = among k n || at (k + n)

  or_assoc : (p q r : Bool) → ((p || q) || r) ≡ (p || (q || r))
  or_assoc true q r = refl
  or_assoc false q r = refl

  oldest-first : (n k : ℕ) → among k (suc n) ≡ (at k || among (suc k) n)
  oldest-first zero k = rw (add-zero k) (or_false (at k))
    where
      add-zero : (k : ℕ) → k + 0 ≡ k
      add-zero k = omega arith

      or_false : (p : Bool) → (false || p) ≡ (p || false)
      or_false true = refl
      or_false false = refl
  oldest-first (suc n) k =
      let e : k + suc n ≡ suc k + n = omega arith in
      ap₂ ◌||◌ (oldest-first n k) (ap at e) ∙ or_assoc (at k) (among (suc k) n) (at (suc k + n))

  pub names_at : (k : ℕ) → names i (words b (slot receive_ring k) 3) ≡ at k
  unfolding words
  names_at k = rw (add-one (slot receive_ring k)) refl

  pub among_held_lem : (n k : ℕ) → among k n ≡ names_any i (held receive_ring b k n)
  unfolding held
  among_held_lem zero k = refl
  among_held_lem (suc n) k = oldest-first n k ∙ ap₂ ◌||◌ (sym (names_at k)) (among_held_lem n (suc k))

-- ---- one mark taken, and several

module _ {i : ℕ} (h : i < indexes) where
  pub same_mark : (b c : List ℕ) → word c (mailbox_at i) ≡ word b (mailbox_at i) → is_new i c ≡ is_new i b
  same_mark b c e = ap (λ (x : ℕ). eqb (x / new_mark % 2) 1) e

  pub taken_mark : (j : ℕ) (b : List ℕ) → Whole b → is_new i (mark_taken j b) ≡ cond (eqb j i) false (is_new i b)
  taken_mark j b w = go (eqb j i) refl
    where
      go : (t : Bool) → eqb j i ≡ t → is_new i (mark_taken j b) ≡ cond t false (is_new i b)
      go true e =
          let is : j ≡ i = eqb-true j i e in
          let x : ℕ = word b (mailbox_at i) in
          let none : x % 2 / new_mark % 2 ≡ 0 = omega arith in
          rw (is, get_or-set_same b (mailbox_at i) (x % 2) 0 (omega (arith, w)), none) refl
      go false e = same_mark b (mark_taken j b) (get_or-set_other b (mailbox_at j) (mailbox_at i) _ 0 (omega (arith, eqb-false j i e)))

  pub marks_mark : (n : ℕ) (b : List ℕ) → Whole b → is_new i (marks_taken n b) ≡ cond (among i b (word b receive_position) n) false (is_new i b)
  unfolding marks_taken
  marks_mark zero b w = refl
  marks_mark (suc n) b w =
      taken_mark (listed_index n (marks_taken n b)) (marks_taken n b) (marks_length n b ∙ w)
      ∙ ap (λ (j : ℕ). cond (eqb j i) false (is_new i (marks_taken n b))) listed_same
      ∙ ap (cond (eqb (listed_index n b) i) false) (marks_mark n b w)
      ∙ both (among i b (word b receive_position) n) (at i b (word b receive_position + n)) (is_new i b)
    where
      listed_same : listed_index n (marks_taken n b) ≡ listed_index n b
      listed_same =
          let k : ℕ = word b receive_position + n in
          let in_ring : k % slots < slots = mod-lt k (omega arith) in
          rw (marks_before n b receive_position (omega arith), marks_before n b (slot receive_ring k + 1) (omega arith)) refl

      both : (p q t : Bool) → cond q false (cond p false t) ≡ cond (p || q) false t
      both true true t = refl
      both true false t = refl
      both false true t = refl
      both false false t = refl

  -- in mailbox mode alone
  pub unlist_mark : (n : ℕ) (b : List ℕ) → Whole b
      → is_new i (unlisted n b) ≡ cond (eqb (word b receive_mode) fifo_mode) (is_new i b) (cond (among i b (word b receive_position) n) false (is_new i b))
  unfolding unlisted
  unlist_mark n b w = go (eqb (word b receive_mode) fifo_mode)
    where
      go : (t : Bool) → is_new i (cond t b (marks_taken n b)) ≡ cond t (is_new i b) (cond (among i b (word b receive_position) n) false (is_new i b))
      go true = refl
      go false = marks_mark n b w

  -- ---- a mailbox takes a word, with the new mark or without

  stored_mark : (mark : ℕ) (t : Bool) → ((error : ℕ) → error ≤ 1 → eqb ((error + mark) / new_mark % 2) 1 ≡ t) → (stamp w : ℕ) (b : List ℕ) → Whole b
      → is_new i (sets b (mailbox_at (index w)) (mail_of mark stamp w b)) ≡ cond (eqb (index w) i) t (is_new i b)
  stored_mark mark t m stamp w b whole = go (eqb (index w) i) refl
    where
      go : (s : Bool) → eqb (index w) i ≡ s → is_new i (sets b (mailbox_at (index w)) (mail_of mark stamp w b)) ≡ cond s t (is_new i b)
      go true e =
          let is : index w ≡ i = eqb-true (index w) i e in
          let s : ℕ = mailbox_at (index w) in
          let x : ℕ = error_mark (word b parity) w + mark in
          let first : List ℕ = set b s x in
          let there : word (set (set first (suc s) w) (suc (suc s)) (stamp_of (word b stamps) stamp)) s ≡ x =
          get_or-set_other (set first (suc s) w) (suc (suc s)) s _ 0 (omega arith) ∙ get_or-set_other first (suc s) s w 0 (omega arith)
          ∙ get_or-set_same b s x 0 (omega (arith, whole)) in
          ap (λ (j : ℕ). is_new j (sets b s (mail_of mark stamp w b))) (sym is) ∙ ap (λ (y : ℕ). eqb (y / new_mark % 2) 1) there
          ∙ m (error_mark (word b parity) w) (mark_le (word b parity) w)
      go false e = same_mark b (sets b (mailbox_at (index w)) (mail_of mark stamp w b)) (sets_other b (mailbox_at (index w)) (mail_of mark stamp w b) (mailbox_at i) (λ l u. eqb-false (index w) i e (omega arith)))

  pub mail_mark : (mark : ℕ) (t : Bool) → ((error : ℕ) → error ≤ 1 → eqb ((error + mark) / new_mark % 2) 1 ≡ t) → (stamp w : ℕ) (b : List ℕ) → Whole b
      → is_new i (mailed mark stamp w b) ≡ cond (eqb (word b receive_mode) fifo_mode) (is_new i b) (cond (eqb (index w) i) t (is_new i b))
  unfolding mailed
  mail_mark mark t m stamp w b whole = go (eqb (word b receive_mode) fifo_mode)
    where
      go : (s : Bool) → is_new i (cond s b (sets b (mailbox_at (index w)) (mail_of mark stamp w b))) ≡ cond s (is_new i b) (cond (eqb (index w) i) t (is_new i b))
      go true = refl
      go false = stored_mark mark t m stamp w b whole

-- the new mark is read as set, and 0 in its place as not, whether the word is in error or not
pub mark_set : (error : ℕ) → error ≤ 1 → eqb ((error + new_mark) / new_mark % 2) 1 ≡ true
mark_set error h = let e : (error + new_mark) / new_mark % 2 ≡ 1 = omega arith in rw e refl

pub mark_clear : (error : ℕ) → error ≤ 1 → eqb ((error + 0) / new_mark % 2) 1 ≡ false
mark_clear error h = let e : (error + 0) / new_mark % 2 ≡ 0 = omega arith in rw e refl
