-- What a refusal of 0 says of those that it is joined from, and which of them a refusal is.
-- Assumes nothing.
use Prim.Native.Nat.{ℕ, suc}
use mathlib.Core.Path.{◌≡◌, refl, sym, ap, ◌∙◌}
use mathlib.Core.Bool.{Bool, true, false, cond}
use mathlib.Core.List.{List}
use native.Mathlib.Omega.{arith}
use borrow.Author.Tests.{eq-eqb, ne_eqb, eqb-true, eqb-false}
use lib.Dec.{eqb}
use Rattle.block.specs.Refusals.{first, leave_unless, refusal_number}
use Rattle.block.specs.declared.refusal.Refusal.{Refusal}
use Rattle.block.specs.declared.refusal.Refusal.TheVariants.{Short, Unsound, Channel, Range, Mode, Full, Empty, NotAligned, NoRegister, WrongWay}

-- a test that would have refused was false, and the rest refuses nothing
pub past : (t : Bool) (k r : ℕ) → cond t (suc k) r ≡ 0 → (t ≡ false) × (r ≡ 0)
past true k r e = absurd (omega arith)
past false k r e = (refl, e)

-- where the first that applies is none, neither applies
pub neither : (a b : ℕ) → first a b ≡ 0 → (a ≡ 0) × (b ≡ 0)
neither a b e = go (eqb a 0) refl e
  where
    go : (t : Bool) → eqb a 0 ≡ t → cond t b a ≡ 0 → (a ≡ 0) × (b ≡ 0)
    go true p z = (eqb-true a 0 p, z)
    go false p z = absurd (eqb-false a 0 p z)

-- the first that applies is the one where that refuses, and the other where it does not
pub is_one : (a b r : ℕ) → r ≡ a → (r ≡ 0 → ⊥) → r ≡ first a b
is_one a b r e refuses = e ∙ sym (ap (λ (t : Bool). cond t b a) (ne_eqb a 0 (λ q. refuses (e ∙ q))))

pub is_other : (a b r : ℕ) → a ≡ 0 → r ≡ b → r ≡ first a b
is_other a b r z e = rw (eq-eqb a 0 z) e

-- no refusal has the number 0
pub numbered : (r : Refusal) → refusal_number r ≡ 0 → ⊥
numbered Short e = omega arith
numbered Unsound e = omega arith
numbered Channel e = omega arith
numbered Range e = omega arith
numbered Mode e = omega arith
numbered Full e = omega arith
numbered Empty e = omega arith
numbered NotAligned e = omega arith
numbered NoRegister e = omega arith
numbered WrongWay e = omega arith

-- the refusal of the first test is passed on
pub passed_on : (r : Refusal) (a b : ℕ) → refusal_number r ≡ a → refusal_number r ≡ first a b
passed_on r a b e = is_one a b (refusal_number r) e (numbered r)

-- a call that is refused leaves every word
pub kept : (r : Refusal) (n : ℕ) (m' m : List ℕ) → refusal_number r ≡ n → m ≡ leave_unless n m' m
kept r n m' m e = sym (ap (λ (t : Bool). cond t m' m) (ne_eqb n 0 (λ q. numbered r (e ∙ q))))
