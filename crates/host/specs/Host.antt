-- The C interface: the words that a module needs, and an item's answer as a number and seven words of values.
use Rattle.std.specs.Prelude.{ℕ, ◌-◌, List, [], ◌∷◌, ◌++◌, cond, ltb, length, get_or, replicate, Option}
use Rattle.std.proofs.lemmas.List.Edits.{sets}
use Rattle.frame.specs.Layout.{need, most}
use Rattle.calls.specs.Performed.{item_numbers, item_after}
use Rattle.registers.specs.declared.accesses.Access.{Access}

-- "A module has 1 to 12 channels": the words that so many need, 0 for any other number
unfoldable pub host_words : ℕ → ℕ
host_words k = cond (ltb k 1) 0 (cond (ltb most k) 0 (need k))

-- the answer's number and values in eight words, zeros behind
abbrev pub eight : Option Access → List ℕ → List ℕ
eight i m = item_numbers i m ++ replicate (8 - length (item_numbers i m)) 0

-- seven words of values
abbrev pub value_words : List ℕ → List ℕ
value_words l = get_or l 1 0 ∷ get_or l 2 0 ∷ get_or l 3 0 ∷ get_or l 4 0 ∷ get_or l 5 0 ∷ get_or l 6 0 ∷ get_or l 7 0 ∷ []

-- fewer than seven words lent for the values: 24, tested first, nothing written
unfoldable pub host_number : ℕ → Option Access → List ℕ → ℕ
host_number n i m = cond (ltb n 7) 24 (get_or (eight i m) 0 0)

unfoldable pub host_values : List ℕ → Option Access → List ℕ → List ℕ
host_values v i m = cond (ltb (length v) 7) v (sets v 0 (value_words (eight i m)))

unfoldable pub host_after : ℕ → Option Access → List ℕ → List ℕ
host_after n i m = cond (ltb n 7) m (item_after i m)
