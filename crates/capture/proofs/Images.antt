-- What a reading does, by the commands of the record that stands at the offset.
-- Assumes nothing.
use Prim.Native.Nat.{ℕ, ◌+◌, ◌*◌, ◌-◌, ◌<◌, ◌≤◌}
use mathlib.Core.Path.{◌≡◌, refl, sym, ap, ◌∙◌}
use mathlib.Core.Bool.{Bool, true, false, cond}
use mathlib.Core.List.{List, ◌++◌}
use native.Mathlib.Omega.{arith}
use borrow.Author.Tests.{eqb-true, eq-eqb, ne_eqb, lt-ltb, le-ltb}
use lib.Dec.{eqb}
use lib.ListN.{length, replicate}
use lib.Seq.{sets}
use Rattle.capture.specs.Format.{commands_of, lent_words, lent_of, half, whole}
use Rattle.capture.specs.declared.reading.Answer.{Answer}
use Rattle.capture.specs.Read.{kind_at, body_at, words_at, nothing, found_at, refusal_at, seen_at, read_at, lent_after}
use Rattle.capture.proofs.Sizes.{image_long, lent_all, lent_none}
use Rattle.capture.proofs.Sound.{sound}
use Rattle.capture.proofs.Stores.{sets-append, length-words}

-- "fewer bytes left than 2": an offset past the end
pub past : (b : List ℕ) (at : ℕ) → length b < at → seen_at b at ≡ nothing 20 at
unfolding seen_at refusal_at
past b at h =
    let e : length b - at < half = omega arith in
    let n : at ≡ length b → ⊥ = λ q. omega arith in
    rw (ne_eqb at (length b) n, lt-ltb (length b - at) half e) refl

-- an image lies within the bytes
pub inside : (b : List ℕ) (at : ℕ) → (commands_of (seen_at b at).kind ≡ 0 → ⊥) → body_at at + whole * commands_of (seen_at b at).kind ≤ length b
unfolding seen_at found_at commands_of
inside b at = of (eqb at (length b)) (eqb (refusal_at b at) 0) refl
  where
    of : (t s : Bool) → eqb (refusal_at b at) 0 ≡ s
        → (commands_of (cond t (nothing 0 at) (cond s (found_at b at) (nothing (refusal_at b at) at))).kind ≡ 0 → ⊥)
        → body_at at + whole * commands_of (cond t (nothing 0 at) (cond s (found_at b at) (nothing (refusal_at b at) at))).kind ≤ length b
    of true s e h = absurd (h refl)
    of false true e h =
        let s = sound b at (eqb-true (refusal_at b at) 0 e) in
        let i = image_long (kind_at b at) h in
        omega arith
    of false false e h = absurd (h refl)

-- what a reading answers, and what it leaves of the lent words
abbrev pub Reads : List ℕ → List ℕ → ℕ → Answer → List ℕ → Type 0
Reads b l at a m = (a ≡ read_at b at (length l)) × (m ≡ lent_after b at l)

-- the record that was seen, and how many commands it has
module _ (b l : List ℕ) (at : ℕ) (seen : Answer) (count : ℕ) (is : seen ≡ seen_at b at) (many : count ≡ commands_of seen.kind) where
  has : count ≡ commands_of (seen_at b at).kind
  has = rw is at many

  pub plain : count ≡ 0 → Reads b l at seen l
  unfolding read_at lent_after
  plain h =
      let z : commands_of (seen_at b at).kind ≡ 0 = sym has ∙ h in
      rw (is, eq-eqb (commands_of (seen_at b at).kind) 0 z, lent_none (seen_at b at).kind z, z) (refl, refl)

  pub short : (a : Answer) → a ≡ nothing 24 at → (count ≡ 0 → ⊥) → length l < lent_words → Reads b l at a l
  unfolding read_at lent_after commands_of lent_of
  short a e h n =
      rw (e, ne_eqb (commands_of (seen_at b at).kind) 0 (λ z. h (has ∙ z)), lt-ltb (length l) lent_words n) (refl, refl)

  -- the commands, and stops behind them, are what the record fills
  pub image : (m k : List ℕ) → m ≡ sets l 0 (words_at b (body_at at) count) → k ≡ sets m count (replicate (lent_words - count) 0) → (count ≡ 0 → ⊥)
      → lent_words ≤ length l → Reads b l at seen k
  unfolding read_at lent_after
  image m k e f h n =
      let some : commands_of (seen_at b at).kind ≡ 0 → ⊥ = λ z. h (has ∙ z) in
      let behind : count ≡ 0 + length (words_at b (body_at at) count) = rw (length-words b (body_at at) count) (omega arith) in
      let filled : k ≡ sets l 0 (words_at b (body_at at) count ++ replicate (lent_words - count) 0) =
      f ∙ ap (λ (t : List ℕ). sets t count (replicate (lent_words - count) 0)) e
      ∙ ap (λ (i : ℕ). sets (sets l 0 (words_at b (body_at at) count)) i (replicate (lent_words - count) 0)) behind
      ∙ sym (sets-append l 0 (words_at b (body_at at) count) (replicate (lent_words - count) 0)) in
      rw (filled, is, has, ne_eqb (commands_of (seen_at b at).kind) 0 some, le-ltb (length l) lent_words n, lent_all (seen_at b at).kind some) (refl, refl)

  pub fits : (count ≡ 0 → ⊥) → body_at at + whole * count ≤ length b
  fits h = rw has (inside b at (λ z. h (has ∙ z)))
