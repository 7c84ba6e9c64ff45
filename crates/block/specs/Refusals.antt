-- How refusals are joined, and what they leave (paper 01, "Memory and answer numbers").
use Rattle.std.specs.Prelude.{ℕ, List, Result, Ok, Err, cond, eqb}
use Rattle.block.specs.declared.refusal.Refusal.{Refusal}
use Rattle.block.specs.declared.refusal.Refusal.TheVariants.{Short, Unsound, Channel, Range, Mode, Full, Empty, NotAligned, NoRegister, WrongWay}

-- the refusal's number in the table; 30 to 32 are the register front's own, "before those of document 01" (paper 02 (vi))
abbrev pub refusal_number : Refusal → ℕ
refusal_number Short = 1
refusal_number Unsound = 2
refusal_number Channel = 3
refusal_number Range = 4
refusal_number Mode = 5
refusal_number Full = 6
refusal_number Empty = 7
refusal_number NotAligned = 30
refusal_number NoRegister = 31
refusal_number WrongWay = 32

-- the number of what a test gives: 0 where nothing is refused
abbrev pub number_of : Result Unit Refusal → ℕ
number_of (Ok done) = 0
number_of (Err r) = refusal_number r

-- "Tested in number order; the first that applies is given": the one, or the other where that is 0
abbrev pub first : ℕ → ℕ → ℕ
first a b = cond (eqb a 0) b a

-- "A refusal (1 to 7) changes no lent word": the words that an accepted call leaves, or those before it
abbrev pub leave_unless : ℕ → List ℕ → List ℕ → List ℕ
leave_unless refusal m' m = cond (eqb refusal 0) m' m
