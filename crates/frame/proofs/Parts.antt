-- A part of a list, and the list with another part in its place: both go by the front or by the back of a list that is put together.
-- Assumes nothing.
use Prim.Native.Nat.{ℕ, ◌+◌, ◌-◌, ◌≤◌}
use mathlib.Core.Path.{◌≡◌, refl, sym, ap, ◌∙◌, subst}
use mathlib.Core.List.{List, ◌++◌, append_assoc}
use native.Mathlib.Omega.{arith}
use lib.ListN.{length, take, drop, length-take, length-drop, length-append, take-append-drop}
use lib.Seq.{take-append-le, drop-append-le, take-append-add, drop-append-add, take_at, drop_at, length-take-le, drop-drop}

abbrev pub part : ℕ → ℕ → List ℕ → List ℕ
part at n m = take n (drop at m)

abbrev pub splice : ℕ → ℕ → List ℕ → List ℕ → List ℕ
splice at n b m = take at m ++ (b ++ drop n (drop at m))

module _ (at n : ℕ) (l r : List ℕ) (h : at + n ≤ length l) where
  room : n ≤ length (drop at l)
  room = simp length-drop (omega arith)

  low : at ≤ length l
  low = omega arith

  pub part_front : part at n (l ++ r) ≡ part at n l
  part_front = rw (drop-append-le at l r low) (take-append-le n (drop at l) r room)

  pub splice_front : (b : List ℕ) → splice at n b (l ++ r) ≡ splice at n b l ++ r
  splice_front b = rw (take-append-le at l r low, drop-append-le at l r low, drop-append-le n (drop at l) r room) (simp append_assoc)

pub part_back : (at d n : ℕ) (l r : List ℕ) → at ≡ length l + d → part at n (l ++ r) ≡ part d n r
part_back at d n l r e = rw (e, drop-append-add) refl

pub splice_back : (at d n : ℕ) (b l r : List ℕ) → at ≡ length l + d → splice at n b (l ++ r) ≡ l ++ splice d n b r
splice_back at d n b l r e = rw (e, take-append-add, drop-append-add) (simp append_assoc)

module _ (at n : ℕ) (b m : List ℕ) (long : length b ≡ n) (h : at + n ≤ length m) where
  pub splice_length : length (splice at n b m) ≡ length m
  splice_length = simp (length-append, length-take, length-drop) (omega arith)

  pub part_same : part at n (splice at n b m) ≡ b
  part_same = rw (drop_at (take at m) (b ++ drop n (drop at m)) at (length-take-le at m (omega arith))) (take_at b (drop n (drop at m)) n long)

  -- a part before it, and one after it, are as they were
  pub part_below : (at' n' : ℕ) → at' + n' ≤ at → part at' n' (splice at n b m) ≡ part at' n' m
  part_below at' n' d =
      let f : at' + n' ≤ length (take at m) = simp length-take (omega arith) in
      part_front at' n' (take at m) (b ++ drop n (drop at m)) f
      ∙ sym (part_front at' n' (take at m) (drop at m) f)
      ∙ ap (part at' n') (take-append-drop at m)

  pub part_above : (at' n' : ℕ) → at + n ≤ at' → part at' n' (splice at n b m) ≡ part at' n' m
  part_above at' n' d =
      let k : ℕ = at' - (at + n) in
      let e₁ : at' ≡ length (take at m ++ b) + k = simp (length-append, length-take) (omega arith) in
      let e₂ : at' ≡ length (take (at + n) m) + k = simp length-take (omega arith) in
      ap (part at' n') (sym (append_assoc (take at m) b (drop n (drop at m))) ∙ ap (λ (t : List ℕ). (take at m ++ b) ++ t) (drop-drop n at m))
      ∙ part_back at' k n' (take at m ++ b) (drop (at + n) m) e₁
      ∙ sym (part_back at' k n' (take (at + n) m) (drop (at + n) m) e₂)
      ∙ ap (part at' n') (take-append-drop (at + n) m)

-- two parts that do not meet, in either order
comm_at : (at n at' n' : ℕ) (b b' l r : List ℕ) → length b ≡ n → at + n ≤ at' → at' ≡ length l
    → splice at' n' b' (splice at n b (l ++ r)) ≡ splice at n b (splice at' n' b' (l ++ r))
comm_at at n at' n' b b' l r long d e =
    let fits : at + n ≤ length l = omega arith in
    ap (splice at' n' b') (splice_front at n l r fits b)
    ∙ splice_back at' 0 n' b' (splice at n b l) r (omega (arith, splice_length at n b l long fits))
    ∙ sym (splice_front at n l (splice 0 n' b' r) fits b)
    ∙ ap (splice at n b) (sym (splice_back at' 0 n' b' l r (omega arith)))

pub splice_comm : (at n at' n' : ℕ) (b b' m : List ℕ) → length b ≡ n → at + n ≤ at' → at' ≤ length m
    → splice at' n' b' (splice at n b m) ≡ splice at n b (splice at' n' b' m)
splice_comm at n at' n' b b' m long d h =
    subst (λ (x : List ℕ). splice at' n' b' (splice at n b x) ≡ splice at n b (splice at' n' b' x)) (take-append-drop at' m)
    (comm_at at n at' n' b b' (take at' m) (drop at' m) long d (sym (length-take-le at' m h)))
