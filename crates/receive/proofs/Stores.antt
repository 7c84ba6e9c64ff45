-- What an arrival's decision tells, and what the stores of an arrival make.
-- Assumes nothing.
use Rattle.std.proofs.Common.{◌≡◌, ℕ, ◌+◌, ◌<◌, ◌≤◌, Bool, true, false, cond, eqb, ltb, ◌≢◌, List, set, refl, ap, ◌∙◌, ap₂, arith, ltb-false, ltb-true, ne_eqb}
use native.Mathlib.Numerals.{towards_suc}
use lib.Seq.{sets}
use Rattle.word.specs.Word.{index, in_error}
use Rattle.word.specs.Parity.{error_mark}
use Rattle.ring.specs.Ring.{slots}
use Rattle.ring.proofs.Words.{sets_other}
use Rattle.block.specs.Layout.{word, receiver, parity, stamps, fifo_kind, receive_mode, receive_level, receive_size, mailboxes}
use Rattle.block.specs.Ranges.{Usable}
use Rattle.fifos.specs.Fifos.{receive_offsets, entry_appended}
use Rattle.fifos.specs.Mailboxes.{mailbox_at, new_mark, unlisted}
use Rattle.fifos.proofs.Bounds.{bounds}
use Rattle.fifos.proofs.Marks.{unlist_usable}
use Rattle.block.proofs.Sound.{usable_beyond}
use Rattle.arrival.specs.Arrival.{outcome, filtered, listed, arrival}
use Rattle.receive.specs.Entries.{stamp_of, entry_of, mail_of, mailed}
use Rattle.receive.specs.Arrived.{overwriting, stored}
use Rattle.arrival.specs.declared.Arrival.{Arrival}
use Rattle.arrival.specs.declared.Arrival.TheVariants.{Ignored, Filtered, Appended, Dropped, Overwriting, AlreadyListed}

-- a parity error's mark is 1 or 0
pub mark_le : (parity w : ℕ) → error_mark parity w ≤ 1
unfolding error_mark
mark_le parity w = go (eqb parity 0) (in_error w)
  where
    go : (s t : Bool) → cond s 0 (cond t 1 0) ≤ 1
    go true t = omega arith
    go false true = omega arith
    go false false = omega arith

-- ---- what a decision tells

-- appended tells that the FIFO has room, and overwriting that it has none
record Told (room : Bool) (a : Arrival) : Type 0 where
  appended : a ≡ Appended → room ≡ true
  overwriting : a ≡ Overwriting → room ≡ false

told : (w : ℕ) (b : List ℕ) → Told (ltb (word b receive_level) (word b receive_size)) (arrival w b)
unfolding arrival
told w b = go (eqb (word b receiver) 0) (filtered w b) (listed w b) (ltb (word b receive_level) (word b receive_size)) (eqb (word b fifo_kind) 0)
  where
    not_this : {room : Bool} {a : Arrival} → outcome a ≢ 2 → outcome a ≢ 4 → Told room a
    not_this h k = record { appended = λ e. absurd (h (ap outcome e)); overwriting = λ e. absurd (k (ap outcome e)) }

    go : (off out new room bounded : Bool)
        → Told room (cond off Ignored (cond out Filtered (cond new AlreadyListed (cond room Appended (cond bounded Dropped Overwriting)))))
    go true out new room bounded = not_this (omega arith) (omega arith)
    go false true new room bounded = not_this (omega arith) (omega arith)
    go false false true room bounded = not_this (omega arith) (omega arith)
    go false false false true bounded = record { appended = λ e. refl; overwriting = λ e. absurd (omega (arith, ap outcome e)) }
    go false false false false true = record { appended = λ e. absurd (omega (arith, ap outcome e)); overwriting = λ e. refl }
    go false false false false false = record { appended = λ e. absurd (omega (arith, ap outcome e)); overwriting = λ e. refl }

pub room : (w : ℕ) (b : List ℕ) → arrival w b ≡ Appended → word b receive_level < word b receive_size
room w b e = ltb-true (word b receive_level) (word b receive_size) ((told w b).appended e)

pub full : (w : ℕ) (b : List ℕ) → arrival w b ≡ Overwriting → word b receive_size ≤ word b receive_level
full w b e = ltb-false (word b receive_level) (word b receive_size) ((told w b).overwriting e)

-- ---- a mailbox takes the word: the mailboxes stand behind all words with a range, the counts and both rings

pub mail_keeps : {b : List ℕ} → Usable b → (mark stamp w : ℕ) → Usable (mailed mark stamp w b)
unfolding mailed
mail_keeps {b} u mark stamp w = go (eqb (word b receive_mode) 0) (mail_of mark stamp w b)
  where
    go : (t : Bool) (e : List ℕ) → Usable (cond t b (sets b (mailbox_at (index w)) e))
    go true e = u
    go false e = usable_beyond b (mailbox_at (index w)) e u (omega arith)

pub mail_before : (mark stamp w : ℕ) (b : List ℕ) (i : ℕ) → i < mailboxes → word (mailed mark stamp w b) i ≡ word b i
unfolding mailed
mail_before mark stamp w b i h = go (eqb (word b receive_mode) 0) (mail_of mark stamp w b)
  where
    go : (t : Bool) (e : List ℕ) → word (cond t b (sets b (mailbox_at (index w)) e)) i ≡ word b i
    go true e = refl
    go false e = sets_other b (mailbox_at (index w)) e i (λ l u. omega arith)

-- `m` is the block once the mailbox took the word, and `a` the decision
pub mail_usable : (b m : List ℕ) (mark stamp w : ℕ) → Usable b → m ≡ mailed mark stamp w b → Usable m
mail_usable b m mark stamp w u e = rw e (mail_keeps u mark stamp w)

pub mail_room : (b m : List ℕ) (mark stamp w : ℕ) (a : Arrival) → Usable b → m ≡ mailed mark stamp w b → a ≡ arrival w b → a ≡ Appended
    → word m receive_level < slots
mail_room b m mark stamp w a u e d t =
    let r : word b receive_level < word b receive_size = room w b (cc) in
    rw (e, mail_before mark stamp w b receive_level (omega arith)) (omega (arith, bounds u))

-- the oldest entry's mailbox lost its mark
pub unlist_left : (b l : List ℕ) → Usable b → l ≡ unlisted 1 b → Usable l
unlist_left b l u e = rw e (unlist_usable 1 u)

-- ---- what the code stores

-- what is stored, from what the calls leave: `m` after the mailbox, `c` after the entry `e`
pub store_appended : (b m c e : List ℕ) (stamp w : ℕ) (a : Arrival) → a ≡ Appended → m ≡ mailed new_mark stamp w b → e ≡ entry_of stamp w b
    → c ≡ entry_appended receive_offsets m e → c ≡ stored a stamp w b
unfolding stored
store_appended b m c e stamp w a d p q r = rw d (r ∙ ap₂ (entry_appended receive_offsets) p q)

pub store_dropped : (b c : List ℕ) (stamp w : ℕ) (a : Arrival) → a ≡ Dropped → c ≡ mailed 0 stamp w b → c ≡ stored a stamp w b
unfolding stored
store_dropped b c stamp w a d p = rw d p

pub store_listed : (b c : List ℕ) (stamp w : ℕ) (a : Arrival) → a ≡ AlreadyListed → c ≡ mailed new_mark stamp w b → c ≡ stored a stamp w b
unfolding stored
store_listed b c stamp w a d p = rw d p

pub store_overwriting : (b l m c e : List ℕ) (stamp w : ℕ) (a : Arrival) → a ≡ Overwriting → l ≡ unlisted 1 b → m ≡ mailed new_mark stamp w l
    → e ≡ entry_of stamp w b → c ≡ overwriting m e → c ≡ stored a stamp w b
unfolding stored
store_overwriting b l m c e stamp w a d k p q r = rw d (r ∙ ap₂ overwriting (p ∙ ap (mailed new_mark stamp w) k) q)

-- the stores of a mailbox, from what the code computes for them
pub mail_stores : (b : List ℕ) (mark stamp w error i kept : ℕ) → word b receive_mode ≢ 0 → error ≡ error_mark (word b parity) w → i ≡ index w
    → kept ≡ stamp_of (word b stamps) stamp
    → set (set (set b (mailbox_at i) (error + mark)) (mailbox_at i + 1) w) (mailbox_at i + 2) kept ≡ mailed mark stamp w b
unfolding mailed
mail_stores b mark stamp w error i kept on p q r = rw (ne_eqb (word b receive_mode) 0 on, p, q, r) (simp towards_suc)

-- the mark that the code computes
pub mark_fits : (mark parity w : ℕ) → mark ≡ error_mark parity w → mark ≤ 1
mark_fits mark parity w e = rw e (mark_le parity w)
