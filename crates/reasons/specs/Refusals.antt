-- The refusals of a question by their numbers, 0 for none.
use Rattle.std.specs.Prelude.{ℕ, Result, Ok, Err}
use Rattle.reasons.specs.declared.refusals.Refusal.{Refusal}
use Rattle.reasons.specs.declared.refusals.Refusal.TheVariants.{TooShort, NoCount, TooManyItems, NoCall, NoArrival}

abbrev pub number_of : Refusal → ℕ
number_of TooShort = 1
number_of NoCount = 4
number_of NoArrival = 40
number_of TooManyItems = 41
number_of NoCall = 42

-- of a test that gives no value
abbrev pub refusal_number : Result (Unit {0}) Refusal → ℕ
refusal_number (Ok _) = 0
refusal_number (Err r) = number_of r

-- an answer with the refusal by its number
abbrev pub numbered : {A : Type 0} → Result A Refusal → Result A ℕ
numbered (Ok a) = Ok a
numbered (Err r) = Err (number_of r)
