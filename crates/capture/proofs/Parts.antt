-- Numbers that stand at an offset of capture bytes, and the bytes that stand there.
-- Assumes nothing.
use Prim.Native.Nat.{ℕ, zero, suc, ◌+◌, ◌*◌, ◌<◌, ◌≤◌, ◌^◌}
use mathlib.Core.Path.{◌≡◌, refl, ap, ap₂, sym, ◌∙◌}
use mathlib.Core.List.{List, [], ◌∷◌, ◌++◌, append_assoc}
use native.Mathlib.Numerals.{add-one}
use native.Mathlib.Omega.{arith}
use lib.ListN.{length, get_or, take, drop, length-append}
use lib.Seq.{drop-cons, drop-drop, take-add}
use Rattle.little_endian.specs.LittleEndian.{half_at, word_at, two, four}
use Rattle.little_endian.proofs.Laws.{half_behind, word_behind, two_of, four_of}
use Rattle.capture.specs.Format.{half, whole, fours}
use Rattle.capture.specs.Read.{words_at}
use Rattle.capture.specs.Captures.{Below}
use Rattle.capture.proofs.Put.{length-four}

-- a list of bytes stands at an offset
pub record Has (b : List ℕ) (at : ℕ) (xs : List ℕ) : Type 0 where
  pub front : List ℕ
  pub back : List ℕ
  pub is : b ≡ front ++ (xs ++ back)
  pub place : length front ≡ at

pub has_left : (b : List ℕ) (at : ℕ) (xs ys : List ℕ) → Has b at (xs ++ ys) → Has b at xs
has_left b at xs ys h =
    record { front = h.front; back = ys ++ h.back; is = h.is ∙ ap (λ l. h.front ++ l) (append_assoc xs ys h.back); place = h.place }

pub has_right : (b : List ℕ) (at n : ℕ) (xs ys : List ℕ) → length xs ≡ n → Has b at (xs ++ ys) → Has b (at + n) ys
has_right b at n xs ys l h = record {
  front = h.front ++ xs;
  back = h.back;
  is = h.is ∙ ap (λ l. h.front ++ l) (append_assoc xs ys h.back) ∙ sym (append_assoc h.front xs (ys ++ h.back));
  place = length-append h.front xs ∙ ap₂ ◌+◌ h.place l;
}

pub has_room : (b : List ℕ) (at : ℕ) (xs : List ℕ) → Has b at xs → at + length xs ≤ length b
has_room b at xs h =
    omega (arith, ap length h.is, length-append h.front (xs ++ h.back), length-append xs h.back, h.place)

pub half_is : (b : List ℕ) (at x : ℕ) → Has b at (two x) → x < 2 ^ 16 → half_at b at ≡ x
half_is b at x h f = rw (h.is, ← h.place) (half_behind h.front h.back x f)

pub word_is : (b : List ℕ) (at x : ℕ) → Has b at (four x) → x < 2 ^ 32 → word_at b at ≡ x
word_is b at x h f = rw (h.is, ← h.place) (word_behind h.front h.back x f)

pub words_are : (b : List ℕ) (at : ℕ) (l : List ℕ) → Has b at (fours l) → Below (2 ^ 32) l → words_at b at (length l) ≡ l
words_are b at [] h f = refl
words_are b at (x ∷ l) h f =
    ap₂ ◌∷◌ (word_is b at x (has_left b at (four x) (fours l) h) f.0)
    (words_are b (at + whole) l (has_right b at whole (four x) (fours l) (length-four x) h) f.1)

-- the bytes from an offset on
abbrev pub part : List ℕ → ℕ → ℕ → List ℕ
part b at n = take n (drop at b)

pub part_add : (b : List ℕ) (at m n : ℕ) → part b at (m + n) ≡ part b at m ++ part b (at + m) n
part_add b at m n = take-add m n (drop at b) ∙ ap (λ l. part b at m ++ take n l) (drop-drop m at b)

pub below_at : (b : List ℕ) (i : ℕ) → Below 256 b → get_or b i 0 < 256
below_at [] i f = omega arith
below_at (x ∷ b) zero f = f.0
below_at (x ∷ b) (suc i) f = below_at b i f.1

pub two_back : (b : List ℕ) (at : ℕ) → Below 256 b → at + half ≤ length b → two (half_at b at) ≡ part b at half
unfolding half_at
two_back b at f h =
    rw (two_of (get_or b at 0) (get_or b (at + 1) 0) (below_at b at f) (below_at b (at + 1) f), add-one, drop-cons b at 0 (omega arith), drop-cons b (suc at) 0 (omega arith)) refl

pub four_back : (b : List ℕ) (at : ℕ) → Below 256 b → at + whole ≤ length b → four (word_at b at) ≡ part b at whole
unfolding word_at
four_back b at f h =
    let e₁ : at + 1 ≡ suc at = omega arith in
    let e₂ : at + 2 ≡ suc (suc at) = omega arith in
    let e₃ : at + 3 ≡ suc (suc (suc at)) = omega arith in
    rw (
      four_of (get_or b at 0) (get_or b (at + 1) 0) (get_or b (at + 2) 0) (get_or b (at + 3) 0) (below_at b at f) (below_at b (at + 1) f) (below_at b (at + 2) f) (below_at b (at + 3) f),
      e₁,
      e₂,
      e₃,
      drop-cons b at 0 (omega arith),
      drop-cons b (suc at) 0 (omega arith),
      drop-cons b (suc (suc at)) 0 (omega arith),
      drop-cons b (suc (suc (suc at))) 0 (omega arith),
    ) refl

pub fours_back : (b : List ℕ) (at n : ℕ) → Below 256 b → at + whole * n ≤ length b → fours (words_at b at n) ≡ part b at (whole * n)
fours_back b at zero f h = refl
fours_back b at (suc n) f h =
    let e : whole * suc n ≡ whole + whole * n = omega arith in
    rw (e, part_add b at whole (whole * n)) (ap₂ ◌++◌ (four_back b at f (omega arith)) (fours_back b (at + whole) n f (omega arith)))
