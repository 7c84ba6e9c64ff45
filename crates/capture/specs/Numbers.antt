-- The numbers of kinds and refusals, and answers in the numbers that the definitions and C have.
use Rattle.std.specs.Prelude.{ℕ, ◌≡◌, false, Option, Some, None, Result, Ok, Err, MatchResult}
use Rattle.capture.specs.Format.{arrival, old_image, image, known}
use Rattle.capture.specs.declared.reading.Answer.{Answer}
use Rattle.capture.specs.Read.{nothing}
use Rattle.capture.specs.Write.{Written}
use Rattle.capture.specs.declared.Cursor.{Cursor}
use Rattle.capture.specs.declared.kinds.Kind.{Kind}
use Rattle.capture.specs.declared.kinds.Kind.TheVariants.{Arrival, OldImage, Image}
use Rattle.capture.specs.declared.reading.Found.{Found}
use Rattle.capture.specs.declared.refusal.Refusal.{Refusal}
use Rattle.capture.specs.declared.refusal.Refusal.TheVariants.{Cut, WrongLength, UnknownKind, WrongChannel, NoRoom}

abbrev pub kind_number : Kind → ℕ
kind_number Arrival = arrival
kind_number OldImage = old_image
kind_number Image = image

-- the result is the kind that has a number, and a refusal of a number that no kind has
abbrev pub Names : ℕ → Result Kind Refusal → Type 0
Names number r = MatchResult r (λ kind. kind_number kind ≡ number) (λ refusal. (refusal ≡ UnknownKind) × (known number ≡ false))

-- "20 fewer bytes left ..", "21 length ..", "22 unknown kind", "23 channel ..", "24 lent output too short for it"
abbrev pub refusal_number : Refusal → ℕ
refusal_number Cut = 20
refusal_number WrongLength = 21
refusal_number UnknownKind = 22
refusal_number WrongChannel = 23
refusal_number NoRoom = 24

-- the number of a result, 0 where nothing is refused
abbrev pub number_of : {A : Type 0} → Result A Refusal → ℕ
number_of (Ok x) = 0
number_of (Err refusal) = refusal_number refusal

-- what stands at an offset: a record, the end, or a refusal
abbrev pub answer_of : ℕ → Result (Option Found) Refusal → Answer
answer_of at (Ok (Some found)) = record {
  number = 0;
  kind = kind_number found.kind;
  next = found.next;
  channel = found.channel;
  word = found.word;
  stamp = found.stamp;
}
answer_of at (Ok None) = nothing 0 at
answer_of at (Err refusal) = nothing (refusal_number refusal) at

-- what a writing answers
abbrev pub written_of : Result Cursor Refusal → Written
written_of (Ok next) = record { number = 0; next = next }
written_of (Err refusal) = record { number = refusal_number refusal; next = record { offset = 0 } }
