-- A run of accesses on a module's memory, each with the number of words that it is lent (demand 3). A list of accesses has the latest first.
use Rattle.std.specs.Prelude.{ℕ, List, [], ◌∷◌, ◌++◌, take, drop}
use Rattle.channel_calls.specs.Answer.{Answer}
use Rattle.registers.specs.Access.{access_answer, access_after}
use Rattle.registers.specs.declared.accesses.Access.{Access}
use Rattle.fates.specs.History.{Telling, told}

-- "Each call is lent that memory, all of it or its first words": the memory after an access that is lent the first k words
abbrev pub lent : ℕ → Access → List ℕ → List ℕ
lent k x m = access_after x (take k m) ++ drop k m

module _ (m : List ℕ) where
  -- "as the one before left it": the memory after a list of accesses, on memory m
  abbrev pub run : List (ℕ × Access) → List ℕ
  run [] = m
  run (x ∷ before) = lent x.0 x.1 (run before)

  -- the answer of an access behind a list of accesses
  abbrev pub answer_behind : List (ℕ × Access) → ℕ → Access → Answer
  answer_behind before k x = access_answer x (take k (run before))

  -- "Demand 3's history gets the calls in order, each with its arguments and answer"
  abbrev pub events : List (ℕ × Access) → List (Access × Answer)
  events [] = []
  events (x ∷ before) = (x.1, answer_behind before x.0 x.1) ∷ events before

  -- what they tell
  abbrev pub told_by : List (ℕ × Access) → List Telling
  told_by accesses = told (events accesses)
