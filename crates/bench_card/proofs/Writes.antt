-- The async writes of a list, a pair after the other.
-- Assumes nothing.
use mathlib.Core.Path.{◌≡◌, refl, ap, ◌∙◌}
use mathlib.Core.Bool.{Bool, true, false, cond}
use mathlib.Core.List.{List, [], ◌∷◌, ◌++◌}
use Prim.Native.Nat.{ℕ, ◌<◌}
use native.Mathlib.Omega.{arith}
use lib.Dec.{eqb}
use lib.ListN.{length, get_or}
use Rattle.schedule.specs.declared.Place.{Place}
use Rattle.bench_card.specs.Asyncs.{written, written_for, before}

-- one write more
before_pair : (step : ℕ) (x rest : List ℕ) (p : Place) → length x ≡ 2
    → before step (x ++ rest) p ≡ before step rest (written_for step (get_or x 0 0) (get_or x 1 0) p)
unfolding before
before_pair step [] rest p h = absurd (omega arith)
before_pair step (s ∷ []) rest p h = absurd (omega arith)
before_pair step (s ∷ w ∷ []) rest p h = refl
before_pair step (s ∷ w ∷ v ∷ x) rest p h = absurd (omega arith)

pub before_more : (step : ℕ) (l x rest : List ℕ) (p : Place) → l ≡ x ++ rest → length x ≡ 2
    → before step l p ≡ before step rest (written_for step (get_or x 0 0) (get_or x 1 0) p)
before_more step l x rest p e h = ap (λ k. before step k p) e ∙ before_pair step x rest p h

-- no write left: a step with no word behind it is none
pub before_end : (step : ℕ) (l : List ℕ) (p : Place) → length l < 2 → before step l p ≡ p
unfolding before
before_end step [] p h = refl
before_end step (s ∷ []) p h = refl
before_end step (s ∷ w ∷ l) p h = absurd (omega arith)

-- what a write leaves as it was
record Keeps (p q : Place) : Type 0 where
  state : q.state ≡ p.state
  address : q.address ≡ p.address

written_keeps : (w : ℕ) (p : Place) → Keeps p (written w p)
written_keeps w p = go (eqb p.waiting 0)
  where
    go : (t : Bool) → Keeps p (cond t (record { state = p.state; address = p.address; waiting = 1; word = w; mark = p.mark }) p)
    go true = record { state = refl; address = refl }
    go false = record { state = refl; address = refl }

one_keeps : (step s w : ℕ) (p : Place) → Keeps p (written_for step s w p)
one_keeps step s w p = go (eqb s step)
  where
    go : (t : Bool) → Keeps p (cond t (written w p) p)
    go true = written_keeps w p
    go false = record { state = refl; address = refl }

keeps : (step : ℕ) (l : List ℕ) (p : Place) → Keeps p (before step l p)
unfolding before
keeps step [] p = record { state = refl; address = refl }
keeps step (s ∷ []) p = record { state = refl; address = refl }
keeps step (s ∷ w ∷ l) p =
    let one : Keeps p (written_for step s w p) = one_keeps step s w p in
    let rest : Keeps (written_for step s w p) (before step l (written_for step s w p)) = keeps step l (written_for step s w p) in
    record { state = rest.state ∙ one.state; address = rest.address ∙ one.address }

-- state and command stay
pub before-state : (step : ℕ) (l : List ℕ) (p : Place) → (before step l p).state ≡ p.state
before-state step l p = (keeps step l p).state

pub before_address : (step : ℕ) (l : List ℕ) (p : Place) → (before step l p).address ≡ p.address
before_address step l p = (keeps step l p).address
