-- What taking marks leaves of a block: every word that is no mailbox's.
-- Assumes nothing.
use Rattle.std.proofs.Common.{◌≡◌, ℕ, zero, suc, ◌<◌, ◌≤◌, Bool, true, false, cond, eqb, List, length, refl, ◌∙◌, mod-lt, arith, length-set, get_or-set_other}
use Rattle.block.specs.Layout.{word, receive_mode, indexes, mailboxes}
use Rattle.block.specs.Ranges.{Usable}
use Rattle.block.specs.Modes.{fifo_mode}
use Rattle.fifos.specs.Mailboxes.{listed_index, marks_taken, unlisted}
use Rattle.fifos.specs.Fifos.{Offsets, fifo}
use Rattle.block.proofs.Sound.{usable_set}
use Rattle.fifos.proofs.Fifos.{Apart, store_apart}

-- a list of indices names mailboxes
pub listed_below : (k : ℕ) (b : List ℕ) → listed_index k b < indexes
listed_below k b = mod-lt _ (omega arith)

-- ---- the oldest n entries

pub marks_length : (n : ℕ) (b : List ℕ) → length (marks_taken n b) ≡ length b
unfolding marks_taken
marks_length zero b = refl
marks_length (suc n) b = length-set (marks_taken n b) _ _ ∙ marks_length n b

pub marks_before : (n : ℕ) (b : List ℕ) (i : ℕ) → i < mailboxes → word (marks_taken n b) i ≡ word b i
unfolding marks_taken
marks_before zero b i h = refl
marks_before (suc n) b i h = get_or-set_other (marks_taken n b) _ i _ 0 (omega arith) ∙ marks_before n b i h

marks_usable : (n : ℕ) {b : List ℕ} → Usable b → Usable (marks_taken n b)
unfolding marks_taken
marks_usable zero u = u
marks_usable (suc n) u = usable_set (marks_usable n u) _ _ (omega arith) (omega arith) (λ h. absurd (omega arith))

marks_fifo : (p : Offsets) (n : ℕ) (b : List ℕ) → 0 < p.ring.slots → ((i : ℕ) → mailboxes ≤ i → Apart p i) → fifo p (marks_taken n b) ≡ fifo p b
unfolding marks_taken
marks_fifo p zero b h a = refl
marks_fifo p (suc n) b h a = store_apart p (marks_taken n b) _ _ h (a _ (omega arith)) ∙ marks_fifo p n b h a

-- ---- the same, in mailbox mode alone

module _ (n : ℕ) (b : List ℕ) where
  pub unlist_length : length (unlisted n b) ≡ length b
  unfolding unlisted
  unlist_length = go (eqb (word b receive_mode) fifo_mode)
    where
      go : (t : Bool) → length (cond t b (marks_taken n b)) ≡ length b
      go true = refl
      go false = marks_length n b

  pub unlist_before : (i : ℕ) → i < mailboxes → word (unlisted n b) i ≡ word b i
  unfolding unlisted
  unlist_before i h = go (eqb (word b receive_mode) fifo_mode)
    where
      go : (t : Bool) → word (cond t b (marks_taken n b)) i ≡ word b i
      go true = refl
      go false = marks_before n b i h

  pub unlist_fifo : (p : Offsets) → 0 < p.ring.slots → ((i : ℕ) → mailboxes ≤ i → Apart p i) → fifo p (unlisted n b) ≡ fifo p b
  unfolding unlisted
  unlist_fifo p h a = go (eqb (word b receive_mode) fifo_mode)
    where
      go : (t : Bool) → fifo p (cond t b (marks_taken n b)) ≡ fifo p b
      go true = refl
      go false = marks_fifo p n b h a

pub unlist_usable : (n : ℕ) {b : List ℕ} → Usable b → Usable (unlisted n b)
unfolding unlisted
unlist_usable n {b} u = go (eqb (word b receive_mode) fifo_mode)
  where
    go : (t : Bool) → Usable (cond t b (marks_taken n b))
    go true = u
    go false = marks_usable n u
