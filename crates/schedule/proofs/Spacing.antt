-- A step keeps the schedule's words apart: the message mark is 0 only where 4 null bit times have passed since the last word.
-- Assumes nothing.
use mathlib.Core.Path.{◌≡◌, refl, sym, subst}
use mathlib.Core.Bool.{Bool, true, false, cond}
use mathlib.Core.List.{List, [], ◌∷◌, ◌++◌}
use Prim.Native.Nat.{ℕ, ◌-◌, ◌≤◌}
use native.Mathlib.Omega.{arith}
use borrow.Author.Tests.{eqb-true, ltb-false}
use lib.Dec.{eqb, leb, ltb}
use Rattle.word.specs.Gap.{least, greatest, clamped}
use Rattle.word.specs.Parity.{as_sent}
use Rattle.schedule.specs.Codes.{running, paused, code, stop, message, gap, fixed_gap, pause, interrupt, jump, last, async_gap}
use Rattle.schedule.specs.Schedule.{onward, marked, message_step, gap_step, command_step, stepped}
use Rattle.schedule.specs.Spacing.{Item, Word, Nulls, Forgotten, on_line, nulls, Remembered, Spaced}
use Rattle.schedule.specs.declared.Place.{Place}
use Rattle.schedule.specs.declared.Outcome.{Outcome}

-- at least n null bit times have passed since the last word, or since the mark was forgotten
abbrev pub Since : ℕ → List Item → Type 0
Since n [] = Unit
Since n (Word w ∷ l) = n ≤ 0
Since n (Nulls k ∷ l) = Since (n - k) l
Since n (Forgotten ∷ l) = Unit

-- each word stands at least 4 null bit times behind the one before
abbrev pub Each : List Item → Type 0
Each [] = Unit
Each (Word w ∷ l) = Since least l × Each l
Each (Nulls k ∷ l) = Each l
Each (Forgotten ∷ l) = Each l

-- what holds of a line and of the mark behind it
pub record Apart (mark : ℕ) (line : List Item) : Type 0 where
  pub each : Each line
  pub ready : mark ≡ 0 → Since least line

-- ---- lines

since_none : (n : ℕ) (l : List Item) → n ≤ 0 → Since n l
since_none n [] h = tt
since_none n (Word w ∷ l) h = h
since_none n (Nulls k ∷ l) h = since_none (n - k) l (omega arith)
since_none n (Forgotten ∷ l) h = tt

since_between : (n : ℕ) (between before : List Item) (w : ℕ) → Since n (between ++ (Word w ∷ before)) → Remembered between → n ≤ nulls between
since_between n [] before w s r = s
since_between n (Word v ∷ l) before w s r = omega arith
since_between n (Nulls k ∷ l) before w s r = omega (arith, since_between (n - k) l before w s r)
since_between n (Forgotten ∷ l) before w s r = absurd r

each_behind : (later l : List Item) → Each (later ++ l) → Each l
each_behind [] l e = e
each_behind (Word w ∷ k) l e = each_behind k l e.1
each_behind (Nulls n ∷ k) l e = each_behind k l e
each_behind (Forgotten ∷ k) l e = each_behind k l e

pub spaced : (line : List Item) → Each line → Spaced line
spaced line e later between before v w is r =
    since_between least between before w (each_behind later (Word v ∷ (between ++ (Word w ∷ before))) (subst Each is e)).0 r

-- ---- steps

-- a fact of both cases of a test
by : {A : Type 0} (Q : A → Type 0) (t : Bool) (a b : A) → (t ≡ true → Q a) → (t ≡ false → Q b) → Q (cond t a b)
by Q true a b x y = x refl
by Q false a b x y = y refl

-- "g below 4 counts as 4"
clamped-least : (g : ℕ) → least ≤ clamped g
unfolding clamped
clamped-least g =
    by (λ (n : ℕ). least ≤ n) (ltb g least) _ _ (λ e. omega arith)
    (λ e. by (λ (n : ℕ). least ≤ n) (ltb greatest g) _ _ (λ f. omega arith) (λ f. ltb-false g least e))

onward_mark : (p : Place) (state : ℕ) → (onward p state).mark ≡ p.mark
unfolding onward
onward_mark p state = by (λ (q : Place). q.mark ≡ p.mark) (leb last p.address) _ _ (λ e. refl) (λ e. refl)

module _ (l : List Item) where
  -- what an outcome leaves
  abbrev Keeps : Outcome → Type 0
  Keeps o = Apart o.place.mark (on_line o.output ++ l)

  -- a null time of at least 4
  null_apart : (g m : ℕ) → least ≤ g → Each l → Apart m (Nulls g ∷ l)
  null_apart g m h e = record { each = e; ready = λ z. since_none (least - g) l (omega arith) }

  gap_apart : (p : Place) (parity g : ℕ) → least ≤ g → Each l → Keeps (gap_step p parity g)
  unfolding gap_step
  gap_apart p parity g h e =
      by Keeps (eqb p.waiting 0) _ _ (λ z. null_apart g _ h e)
      (λ z. by Keeps (ltb g async_gap) _ _ (λ y. null_apart g _ h e)
      (λ y. record { each = (since_none 0 l (omega arith), e); ready = λ x. omega (arith, ltb-false g async_gap y) }))

  module _ (p : Place) (a : Apart p.mark l) where
    -- nothing sent, and the mark kept
    quiet : {m : ℕ} → m ≡ p.mark → Apart m l
    quiet e = subst (λ (k : ℕ). Apart k l) (sym e) a

    message_apart : (w : ℕ) → Keeps (message_step p w)
    unfolding message_step
    message_apart w =
        by Keeps (eqb p.mark 0) _ _
        (λ e. record { each = (a.ready (eqb-true p.mark 0 e), a.each); ready = λ z. absurd (omega (arith, onward_mark (marked p 1) running)) })
        (λ e. record { each = (since_none 0 l (omega arith), a.each); ready = λ z. absurd (omega (arith, onward_mark (marked p 1) running)) })

    command_apart : (parity command value : ℕ) → Keeps (command_step p parity command value)
    unfolding command_step
    command_apart parity command value =
        is stop _ _ a
        (is message _ _ (message_apart (as_sent parity value))
        (is gap _ _ (gap_apart (marked p 0) parity (clamped value) (clamped-least value) a.each)
        (is fixed_gap _ _ (null_apart (clamped value) _ (clamped-least value) a.each)
        (is pause _ _ (quiet (onward_mark p paused))
        (is interrupt _ _ (quiet (onward_mark p running))
        (is jump _ _ a a))))))
      where
        is : (k : ℕ) (x y : Outcome) → Keeps x → Keeps y → Keeps (cond (eqb (code command) k) x y)
        is k x y h i = by Keeps (eqb (code command) k) x y (λ e. h) (λ e. i)

    -- a step of the schedule
    pub step_apart : (parity command value : ℕ) → Keeps (stepped p parity command value)
    unfolding stepped
    step_apart parity command value = by Keeps (eqb p.state running) _ _ (λ e. command_apart parity command value) (λ e. a)
