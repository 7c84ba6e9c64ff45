-- The answer to a question and the memory afterwards, by whether it is refused.
-- Assumes nothing.
use Prim.Native.Nat.{ℕ}
use mathlib.Core.Path.{◌≡◌, refl}
use mathlib.Core.List.{List, ◌++◌}
use native.Mathlib.Omega.{arith}
use Rattle.std.proofs.Common.{Result, Ok, Err}
use borrow.Author.Tests.{eq-eqb, ne_eqb}
use lib.ListN.{length, take, drop}
use Rattle.frame.specs.Layout.{need}
use Rattle.following.specs.declared.course.Reason.{Reason}
use Rattle.reasons.specs.Question.{question_refusal}
use Rattle.reasons.specs.Explained.{reason_for, state_after, explained, memory_after}
use Rattle.reasons.specs.Refusals.{number_of, numbered}
use Rattle.reasons.specs.declared.refusals.Refusal.{Refusal}
use Rattle.reasons.specs.declared.refusals.Refusal.TheVariants.{TooShort, NoCount, TooManyItems, NoCall, NoArrival}

-- a refusal has a number
some : (r : Refusal) → number_of r ≡ 0 → ⊥
some TooShort e = omega (arith, e)
some NoCount e = omega (arith, e)
some NoArrival e = omega (arith, e)
some TooManyItems e = omega (arith, e)
some NoCall e = omega (arith, e)

module _ (count : ℕ) (bytes : List ℕ) (place : ℕ) (m : List ℕ) where
  -- what is answered and left
  abbrev Answers : Result Reason Refusal → List ℕ → Type 0
  Answers r m' = (numbered r ≡ explained count bytes place m) × (m' ≡ memory_after count bytes place m)

  pub refused : (r : Refusal) → number_of r ≡ question_refusal count bytes place (length m) → Answers (Err r) m
  unfolding explained memory_after
  refused r e = rw (← e, ne_eqb (number_of r) 0 (some r)) (refl, refl)

  pub given : question_refusal count bytes place (length m) ≡ 0 → (k : ℕ) → k ≡ need count → (r : Reason) (left : List ℕ)
      → r ≡ reason_for count bytes place (take k m) → left ≡ state_after count bytes (take k m) → Answers (Ok r) (left ++ drop k m)
  unfolding explained memory_after
  given e k s r left p l = rw (eq-eqb (question_refusal count bytes place (length m)) 0 e, p, l, s) (refl, refl)
