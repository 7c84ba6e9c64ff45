-- A stamp read changes nothing, and what the words of an answer say of its numbers.
-- Assumes nothing.
use Prim.Native.Nat.{ℕ, zero, suc, ◌+◌, ◌-◌}
use mathlib.Core.Path.{◌≡◌, refl, ap, ◌∙◌}
use mathlib.Core.Bool.{Bool, true, false, cond}
use mathlib.Core.List.{List, [], ◌∷◌, ◌++◌}
use borrow.Author.Tests.{eq-eqb, ne_eqb}
use lib.Dec.{eqb}
use lib.ListN.{length, get_or, replicate}
use Rattle.little_endian.specs.LittleEndian.{word_at}
use Rattle.items.specs.Items.{decoded, wide_of}
use Rattle.calls.specs.Listed.{Lists}
use Rattle.calls.specs.Performed.{item_numbers, item_after}
use Rattle.calls.specs.declared.answers.Numbers.{Numbers}
use Rattle.sessions.specs.Sessions.{item_at}
use Rattle.wide.specs.Refusals.{call_refusal}
use Rattle.wide.specs.declared.calls.WideCall.TheVariants.{ReadStamp}
use Rattle.capture.specs.Format.{made, arrival}
use Rattle.capture.specs.Write.{written, bytes_after}
use Rattle.recorder.specs.Recorded.{arrive, read_stamp, stamp_of, recorded, record_at, out_after, count_of}

pub unchanged : (m : List ℕ) → item_after (decoded read_stamp 0 0 0) m ≡ m
unfolding decoded wide_of
unchanged m = of (eqb (call_refusal ReadStamp m) 0)
  where
    of : (t : Bool) → cond t m m ≡ m
    of true = refl
    of false = refl

-- zeros behind a list read as no number does
padded : (l : List ℕ) (n i : ℕ) → get_or (l ++ replicate {A = ℕ} n 0) i 0 ≡ get_or l i 0
padded [] zero i = refl
padded [] (suc n) zero = refl
padded [] (suc n) (suc i) = padded [] n i
padded (x ∷ l) n zero = refl
padded (x ∷ l) n (suc i) = padded l n i

pub listed : (n : Numbers) (l : List ℕ) (i : ℕ) → Lists n l → get_or n.words i 0 ≡ get_or l i 0
listed n l i w = ap (λ x. get_or x i 0) w.1 ∙ padded l (8 - length l) i

-- what is left of the output, and how much of it is a record
abbrev pub Leaves : List ℕ → ℕ → List ℕ → List ℕ → ℕ → List ℕ → Type 0
Leaves bytes at m out count left = (count ≡ count_of bytes at m out) × (left ≡ out_after bytes at m out)

pub other : (bytes : List ℕ) (at : ℕ) (m out : List ℕ) → recorded bytes at m ≡ false → Leaves bytes at m out 0 out
unfolding count_of out_after
other bytes at m out e = rw e (refl, refl)

pub an_arrival : (bytes : List ℕ) (at : ℕ) (m out : List ℕ) (count : ℕ) (left : List ℕ) → recorded bytes at m ≡ true
    → count ≡ (written (length out) 0 (record_at bytes at m)).next.offset → left ≡ bytes_after out 0 (record_at bytes at m) → Leaves bytes at m out count left
unfolding count_of out_after
an_arrival bytes at m out count left e p q = rw e (p, q)

-- by the op, and by the number
pub no_arrival : (bytes : List ℕ) (at : ℕ) (m : List ℕ) → (word_at bytes at ≡ arrive → ⊥) → recorded bytes at m ≡ false
unfolding recorded
no_arrival bytes at m n = rw (ne_eqb (word_at bytes at) arrive n) refl

pub by_number : (bytes : List ℕ) (at : ℕ) (m : List ℕ) (n : Numbers) (t : Bool) → word_at bytes at ≡ arrive → Lists n (item_numbers (item_at bytes at) m)
    → eqb (get_or n.words 0 0) 0 ≡ t → recorded bytes at m ≡ t
unfolding recorded
by_number bytes at m n t e l z = rw (eq-eqb (word_at bytes at) arrive e, ← listed n (item_numbers (item_at bytes at) m) 0 l) z

-- the record that is written
pub record_is : (bytes : List ℕ) (at : ℕ) (m n : List ℕ) (channel word stamp : ℕ) → channel ≡ word_at bytes (at + 4) → word ≡ word_at bytes (at + 8) → stamp ≡ stamp_of n
    → n ≡ item_after (item_at bytes at) m → made arrival channel word stamp [] ≡ record_at bytes at m
unfolding record_at
record_is bytes at m n channel word stamp p q r s = rw (p, q, r, s) refl
