-- What each refusal of a question means, as a sentence.
use Rattle.std.specs.Prelude.{ℕ, List, codes}
use Rattle.reasons.specs.declared.refusals.Refusal.{Refusal}
use Rattle.reasons.specs.declared.refusals.Refusal.TheVariants.{TooShort, NoCount, TooManyItems, NoCall, NoArrival}

abbrev pub sentence_of : Refusal → List ℕ
sentence_of TooShort = codes "The working memory is too short for that many channels."
sentence_of NoCount = codes "The channel count must be 1 to 12."
sentence_of TooManyItems = codes "The list has more than 4096 calls."
sentence_of NoCall = codes "An item of the list is no call, or the last one is cut short."
sentence_of NoArrival = codes "There is no arrival at that place of the list."
