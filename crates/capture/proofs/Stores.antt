-- Lists stored one behind the other, and words read one after another.
-- Assumes nothing.
use Prim.Native.Nat.{ℕ, zero, suc, ◌+◌, ◌*◌}
use mathlib.Core.Path.{◌≡◌, refl, ap, ◌∙◌}
use mathlib.Core.List.{List, [], ◌∷◌, ◌++◌}
use native.Mathlib.Omega.{arith}
use native.Mathlib.Numerals.{add-one}
use native.Mathlib.Nat.{zero-add}
use lib.ListN.{length, set}
use lib.Seq.{sets}
use Rattle.little_endian.specs.LittleEndian.{word_at}
use Rattle.capture.specs.Format.{whole}
use Rattle.capture.specs.Read.{words_at}

pub sets-append : (l : List ℕ) (k : ℕ) (xs ys : List ℕ) → sets l k (xs ++ ys) ≡ sets (sets l k xs) (k + length xs) ys
sets-append l k [] ys = let e : k ≡ k + 0 = omega arith in ap (λ n. sets l n ys) e
sets-append l k (x ∷ xs) ys =
    let e : suc k + length xs ≡ k + suc (length xs) = omega arith in
    sets-append (set l k x) (suc k) xs ys ∙ ap (λ n. sets (sets (set l k x) (suc k) xs) n ys) e

pub length-words : (b : List ℕ) (at n : ℕ) → length (words_at b at n) ≡ n
length-words b at zero = refl
length-words b at (suc n) = ap suc (length-words b (at + whole) n)

pub words_more : (b : List ℕ) (at n : ℕ) → words_at b at (suc n) ≡ words_at b at n ++ (word_at b (at + whole * n) ∷ [])
words_more b at zero = let e : at ≡ at + whole * 0 = omega arith in ap (λ i. word_at b i ∷ []) e
words_more b at (suc n) =
    let e : at + whole + whole * n ≡ at + whole * suc n = omega arith in
    ap (λ l. word_at b at ∷ l) (words_more b (at + whole) n ∙ ap (λ i. words_at b (at + whole) n ++ (word_at b i ∷ [])) e)

-- one word more in the lent words
pub one_more : (b l₀ l : List ℕ) (at n w : ℕ) → l ≡ sets l₀ 0 (words_at b at n) → w ≡ word_at b (at + whole * n) → set l n w ≡ sets l₀ 0 (words_at b at (n + 1))
one_more b l₀ l at n w p q =
    rw (p, q, add-one, words_more b at n, sets-append l₀ 0 (words_at b at n) (word_at b (at + whole * n) ∷ []), length-words b at n, zero-add) refl
