-- "Refusals, in order" (paper 02, (iv)), and their numbers.
use Rattle.std.specs.Prelude.{ℕ, Result, Ok, Err}
use Rattle.readings.specs.declared.refusals.Refusal.{Refusal}
use Rattle.readings.specs.declared.refusals.Refusal.TheVariants.{ListRefused, NoEntry, NoSign, DigitAboveNine, OutsideRange}

-- "60 any entry that is cut short or has a label above 255, an unknown kind or (binary) another divisor", "61 label not listed, or a bit field to
-- encode", "62 another sign", "63 a digit above 9", "64 a value to encode outside its range"
abbrev pub number : Refusal → ℕ
number ListRefused = 60
number NoEntry = 61
number NoSign = 62
number DigitAboveNine = 63
number OutsideRange = 64

-- what is made of a value; a refusal is passed on
abbrev pub passed_on : {A B : Type 0} → Result A Refusal → (A → Result B Refusal) → Result B Refusal
passed_on (Ok value) next = next value
passed_on (Err refusal) next = Err refusal
