-- A text read byte by byte: what the definitions say of the text behind an index, at a byte and at the end.
-- Assumes nothing.
use mathlib.Core.Path.{◌≡◌, refl, sym, ap, ◌∙◌}
use mathlib.Core.Bool.{Bool, true, false, not, cond}
use mathlib.Core.List.{List, [], ◌∷◌}
use Prim.Native.Nat.{ℕ, zero, suc, ◌+◌, ◌-◌, ◌^◌, ◌<◌, ◌≤◌}
use native.Mathlib.Omega.{arith}
use borrow.Author.Tests.{eq-eqb, ne_eqb, ltb-false}
use lib.Dec.{eqb, ltb}
use lib.ListN.{length, get_or, take, drop}
use borrow.Author.Rules.{part_to_end}
use Rattle.text.specs.Bytes.{is_blank, digit_of}
use Rattle.word_text.specs.Text.{blanks, digits, hex_value, prefix, word_of, behind_blanks, hex_word}
use Rattle.word_text.specs.declared.Line.{Line}
use Rattle.word_text.specs.declared.Line.TheVariants.{Word, NoWord}

drop_at : (l : List ℕ) (n : ℕ) → n < length l → drop n l ≡ get_or l n 0 ∷ drop (suc n) l
drop_at [] n h = absurd (omega arith)
drop_at (x ∷ l) zero h = refl
drop_at (x ∷ l) (suc n) h = drop_at l n (omega arith)

pub not_false : (b : Bool) → not b ≡ true → b ≡ false
not_false false e = refl
not_false true e = sym e

pub not_true : (b : Bool) → not b ≡ false → b ≡ true
not_true true e = refl
not_true false e = sym e

-- ---- digits

-- the digits and their number are what is left to take of them, with so many taken
pub record Taken (l : List ℕ) (k v : ℕ) : Type 0 where
  pub number : digits 0 l ≡ digits k (drop k l)
  pub value : hex_value 0 0 l ≡ hex_value k v (drop k l)
  pub most : v < 16 ^ k

-- eight digits, a byte that is none, or the end: these are all
pub taken-eight : (l : List ℕ) (k v : ℕ) → Taken l k v → k < length l → k ≡ 8 → (k ≡ digits 0 l) × (v ≡ hex_value 0 0 l)
taken-eight l k v t h e = rw (t.number, t.value, drop_at l k h, eq-eqb k 8 e) (refl, refl)

-- ---- what is counted lies within the text

pub blanks-within : (l : List ℕ) → blanks l ≤ length l
blanks-within [] = omega arith
blanks-within (b ∷ l) = go (is_blank b) (blanks-within l)
  where
    go : (t : Bool) → blanks l ≤ length l → cond t (suc (blanks l)) 0 ≤ suc (length l)
    go true h = omega arith
    go false h = omega arith

pub digits-within : (k : ℕ) (l : List ℕ) → digits k l ≤ k + length l
digits-within k [] = omega arith
digits-within k (b ∷ l) = go (eqb k 8) (eqb (digit_of b) 16) (digits-within (suc k) l)
  where
    go : (s t : Bool) → digits (suc k) l ≤ suc k + length l → cond s k (cond t k (digits (suc k) l)) ≤ k + suc (length l)
    go true t h = omega arith
    go false true h = omega arith
    go false false h = omega arith

pub prefix-within : (l : List ℕ) → prefix l ≤ length l
unfolding prefix
prefix-within l = go (ltb (length l) 2) refl (eqb (get_or l 0 0) 48) (eqb (get_or l 1 0) 120) (eqb (get_or l 1 0) 88)
  where
    go : (s : Bool) → ltb (length l) 2 ≡ s → (a b d : Bool) → cond s 0 (cond a (cond b 2 (cond d 2 0)) 0) ≤ length l
    go true e a b d = omega arith
    go false e false b d = omega arith
    go false e true true d = omega (arith, ltb-false (length l) 2 e)
    go false e true false true = omega (arith, ltb-false (length l) 2 e)
    go false e true false false = omega arith

-- ---- the whole line, with the parts as they are lent

behind : (l : List ℕ) (n : ℕ) → blanks (take (length l - n) (drop n l)) ≡ blanks (drop n l)
behind l n = ap blanks (part_to_end l n)

pub a_word : (l : List ℕ) (n v b : ℕ) → n ≡ digits 0 l → v ≡ hex_value 0 0 l → (n ≡ 0 → ⊥) → b ≡ blanks (take (length l - n) (drop n l)) → b ≡ length l - n → Word v ≡ word_of l
unfolding word_of
a_word l n v b e f z g h = rw (← e, ← f, ne_eqb n 0 z, eq-eqb (blanks (drop n l)) (length l - n) (sym (behind l n) ∙ sym g ∙ h)) refl

pub no_word : (l : List ℕ) (n b : ℕ) → n ≡ digits 0 l → (n ≡ 0 → ⊥) → b ≡ blanks (take (length l - n) (drop n l)) → (b ≡ length l - n → ⊥) → NoWord ≡ word_of l
unfolding word_of
no_word l n b e z g h = rw (← e, ne_eqb n 0 z, ne_eqb (blanks (drop n l)) (length l - n) (λ q. h (g ∙ behind l n ∙ q))) refl

pub prefixed : (l : List ℕ) (n : ℕ) (r : Line) → n ≡ prefix l → r ≡ word_of (take (length l - n) (drop n l)) → r ≡ behind_blanks l
prefixed l n r e f = f ∙ ap word_of (part_to_end l n) ∙ ap (λ (k : ℕ). word_of (drop k l)) e

pub some_text : (l : List ℕ) (n : ℕ) (r : Line) → n ≡ blanks l → (n ≡ length l → ⊥) → r ≡ behind_blanks (take (length l - n) (drop n l)) → r ≡ hex_word l
unfolding hex_word
some_text l n r e z f = rw (← e, ne_eqb n (length l) z) (f ∙ ap behind_blanks (part_to_end l n))
