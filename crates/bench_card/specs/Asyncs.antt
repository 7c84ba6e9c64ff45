-- The async words of a card: "async words with the step, from 1, before which each was written" (paper 02, (xiii)). They are lent as numbers,
-- step and word in turn.
use Rattle.std.specs.Prelude.{ℕ, cond, List, [], ◌∷◌, eqb}
use Rattle.schedule.specs.declared.Place.{Place}

-- an async word written: paper 01 refuses one "while an async word already waits", and what is "refused by the rules" is skipped
abbrev pub written : ℕ → Place → Place
written w p =
    cond (eqb p.waiting 0) (record { state = p.state; address = p.address; waiting = 1; word = w; mark = p.mark }) p

-- a write goes to its own step: "those for no step taken .. are skipped"
abbrev pub written_for : ℕ → ℕ → ℕ → Place → Place
written_for step s w p = cond (eqb s step) (written w p) p

-- "Async writes for one step go in list order"; a step with no word behind it writes nothing
unfoldable pub before : ℕ → List ℕ → Place → Place
before step [] p = p
before step (s ∷ []) p = p
before step (s ∷ w ∷ rest) p = before step rest (written_for step s w p)
