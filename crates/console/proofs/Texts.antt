-- A label list, a byte after the other.
-- Assumes nothing.
use mathlib.Core.Path.{◌≡◌, refl, ◌∙◌}
use mathlib.Core.List.{List, [], ◌∷◌}
use Prim.Native.Nat.{ℕ, ◌+◌, ◌≤◌, ◌<◌}
use native.Mathlib.Numerals.{add-one}
use native.Mathlib.Omega.{arith}
use lib.ListN.{length, drop, get_or, length-drop}
use lib.Seq.{drop-cons}
use Rattle.text.specs.declared.list.Listed.{Listed}
use Rattle.text.specs.Listed.{listed_byte, list_after}
use Rattle.text.proofs.Lengths.{length-after}
use Rattle.console.specs.Labels.{base_at, listed, held}

next : (l : List ℕ) (i : ℕ) → i < length l → drop i l ≡ get_or l i 0 ∷ drop (i + 1) l
next l i h = rw (add-one, drop-cons l i 0)

-- one byte more
pub listed_next : (l : List ℕ) (at : Listed) (t : List ℕ) (i : ℕ) → i < length t
    → listed l at (drop i t) ≡ listed (list_after l at (get_or t i 0)) (listed_byte (length l) (base_at at.count) at (get_or t i 0)) (drop (i + 1) t)
unfolding listed
listed_next l at t i h = rw (next t i h)

pub held_next : (l : List ℕ) (at : Listed) (t : List ℕ) (i : ℕ) → i < length t
    → held l at (drop i t) ≡ held (list_after l at (get_or t i 0)) (listed_byte (length l) (base_at at.count) at (get_or t i 0)) (drop (i + 1) t)
unfolding held
held_next l at t i h = rw (next t i h)

nothing : (t : List ℕ) → length t ≡ 0 → t ≡ []
nothing [] e = refl
nothing (a ∷ t) e = absurd (omega arith)

-- the end of the text
ended : (t : List ℕ) (i : ℕ) → length t ≤ i → drop i t ≡ []
ended t i h = nothing (drop i t) (simp length-drop (omega arith))

pub listed_end : (l : List ℕ) (at : Listed) (t : List ℕ) (i : ℕ) → length t ≤ i → listed l at (drop i t) ≡ at
unfolding listed
listed_end l at t i h = rw (ended t i h)

pub held_end : (l : List ℕ) (at : Listed) (t : List ℕ) (i : ℕ) → length t ≤ i → held l at (drop i t) ≡ l
unfolding held
held_end l at t i h = rw (ended t i h)

-- the list stays as long as it was
pub length-held : (l : List ℕ) (at : Listed) (t : List ℕ) → length (held l at t) ≡ length l
unfolding held
length-held l at [] = refl
length-held l at (b ∷ t) = length-held (list_after l at b) (listed_byte (length l) (base_at at.count) at b) t ∙ length-after l at b
