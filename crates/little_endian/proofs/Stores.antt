-- A part of a list that is written whole.
-- Assumes nothing.
use Rattle.std.proofs.Common.{◌≡◌, ℕ, ◌+◌, ◌-◌, ◌≤◌, List, length, take, drop, refl, arith, append_assoc, drop-drop}
use Rattle.std.proofs.lemmas.List.Edits.{sets, sets-eq}
use borrow.Rule.Slice.PartMut.{put_mid}

-- what stands there afterwards is what was stored from the index on
pub stored : (xs ys vs : List ℕ) (a e : ℕ) → e ≡ a + length vs → e ≤ length xs → ys ≡ vs → put_mid a (e - a) xs ys ≡ sets xs a vs
stored xs ys vs a e p h q =
    let k : e - a ≡ length vs = omega arith in
    rw (q, k, sets-eq vs xs a (omega arith), drop-drop (length vs) a xs, append_assoc (take a xs) vs (drop (a + length vs) xs)) refl
