-- What the schedule's outputs put on the line, and how far apart its words stand (paper 02 (i): "at least four null bit times between words").
use Rattle.std.specs.Prelude.{ℕ, ◌+◌, ◌≤◌, List, [], ◌∷◌, ◌++◌, ◌≡◌}
use Rattle.word.specs.Gap.{least}
use Rattle.schedule.specs.declared.Output.{Output}
use Rattle.schedule.specs.declared.Output.TheVariants.{Quiet, FifoWord, Message, Null, Async, Reserved, NullMessage}

-- a word, null bit times, or that the mark was forgotten
pub data Item : Type 0 where
  Word : ℕ → Item
  Nulls : ℕ → Item
  Forgotten : Item

-- what an output of the schedule puts on the line, the latest first; a word of the FIFO is none of the schedule's
abbrev pub on_line : Output → List Item
on_line Quiet = []
on_line (FifoWord word gap) = []
on_line (Message word) = Word word ∷ []
on_line (Null time) = Nulls time ∷ []
on_line (Async word rest) = Nulls rest ∷ Word word ∷ Nulls least ∷ []
on_line (Reserved address) = []
on_line (NullMessage word) = Word word ∷ Nulls least ∷ []

-- the null bit times among items
abbrev pub nulls : List Item → ℕ
nulls [] = 0
nulls (Word w ∷ l) = nulls l
nulls (Nulls n ∷ l) = n + nulls l
nulls (Forgotten ∷ l) = nulls l

-- nothing among items is forgotten
abbrev pub Remembered : List Item → Type 0
Remembered [] = Unit
Remembered (Word w ∷ l) = Remembered l
Remembered (Nulls n ∷ l) = Remembered l
Remembered (Forgotten ∷ l) = ⊥

-- between any two words with nothing forgotten between them stand at least 4 null bit times
abbrev pub Spaced : List Item → Type 0
Spaced line =
    (later between before : List Item) (v w : ℕ) → line ≡ later ++ (Word v ∷ (between ++ (Word w ∷ before))) → Remembered between
    → least ≤ nulls between
