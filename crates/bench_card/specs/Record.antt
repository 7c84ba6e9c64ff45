-- The recorded outputs of a card: four numbers each, `form x y z`, one behind the other (paper 02, (xiii): "the recorded outputs (forms in docs/)").
use Rattle.std.specs.Prelude.{ℕ, Bool, true, false, cond, List, [], ◌∷◌, eqb}

-- the numbers of an output
abbrev pub numbers : ℕ
numbers = 4

-- the outputs of a record; one that is cut short counts, in no form
unfoldable pub recorded : List ℕ → List (List ℕ)
recorded [] = []
recorded (form ∷ []) = (form ∷ []) ∷ []
recorded (form ∷ x ∷ []) = (form ∷ x ∷ []) ∷ []
recorded (form ∷ x ∷ y ∷ []) = (form ∷ x ∷ y ∷ []) ∷ []
recorded (form ∷ x ∷ y ∷ z ∷ rest) = (form ∷ x ∷ y ∷ z ∷ []) ∷ recorded rest

-- whether two outputs are the same numbers
unfoldable pub same : List ℕ → List ℕ → Bool
same [] [] = true
same [] (b ∷ m) = false
same (a ∷ l) [] = false
same (a ∷ l) (b ∷ m) = cond (eqb a b) (same l m) false
