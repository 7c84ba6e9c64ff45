-- Whole captures: records written one behind the other, and read "one after another from lent capture bytes" (paper 02, (ii)).
use Rattle.std.specs.Prelude.{ℕ, zero, suc, ◌<◌, ◌≤◌, ◌^◌, ◌≡◌, true, cond, List, [], ◌∷◌, ◌++◌, eqb, length, take}
use Rattle.capture.specs.Format.{Record, made, arrival, known, commands_of, bytes_of}
use Rattle.capture.specs.declared.reading.Answer.{Answer}
use Rattle.capture.specs.Read.{read_at, lent_after}
use Rattle.capture.specs.Write.{written, bytes_after}

-- every number of a list is below n
abbrev pub Below : ℕ → List ℕ → Type 0
Below n [] = Unit
Below n (x ∷ l) = (x < n) × Below n l

-- a record that can be written: a known kind with its own count of commands, a channel 1 to 12, numbers of 32 bits, and in an image no word and stamp
pub record Valid (r : Record) : Type 0 where
  pub is_known : known r.kind ≡ true
  pub counted : length r.commands ≡ commands_of r.kind
  pub low : 1 ≤ r.channel
  pub high : r.channel ≤ 12
  pub word_fits : r.word < 2 ^ 32
  pub stamp_fits : r.stamp < 2 ^ 32
  pub commands_fit : Below (2 ^ 32) r.commands
  pub image_plain : (r.kind ≡ arrival → ⊥) → (r.word ≡ 0) × (r.stamp ≡ 0)

abbrev pub AllValid : List Record → Type 0
AllValid [] = Unit
AllValid (r ∷ rs) = Valid r × AllValid rs

-- the bytes of a list of records
unfoldable pub capture_of : List Record → List ℕ
capture_of [] = []
capture_of (r ∷ rs) = bytes_of r ++ capture_of rs

-- the record that an answer and the lent words after it give: of these its kind's own count of commands
abbrev pub record_of : Answer → List ℕ → Record
record_of a lent = made a.kind a.channel a.word a.stamp (take (commands_of a.kind) lent)

-- the records of a reading, and the number and offset at which it ended
pub record Reading : Type 0 where
  pub records : List Record
  pub number : ℕ
  pub offset : ℕ

abbrev pub ended : ℕ → ℕ → Reading
ended number offset = record { records = []; number = number; offset = offset }

abbrev pub before : Record → Reading → Reading
before r e = record { records = r ∷ e.records; number = e.number; offset = e.offset }

-- `read` called from an offset on, at most n times, with the offset that it answered and the same lent words; an answer of kind 0 "ends the reading"
unfoldable pub read_from : ℕ → List ℕ → ℕ → List ℕ → Reading
read_from zero b at lent = ended 0 at
read_from (suc n) b at lent =
    cond (eqb (read_at b at (length lent)).kind 0)
    (ended (read_at b at (length lent)).number (read_at b at (length lent)).next.offset)
    (before (record_of (read_at b at (length lent)) (lent_after b at lent)) (read_from n b (read_at b at (length lent)).next.offset (lent_after b at lent)))

-- a capture read from its start: no capture has as many records as bytes, so the calls do not run out
abbrev pub read_all : List ℕ → List ℕ → Reading
read_all b lent = read_from (suc (length b)) b 0 lent

-- what records written one behind the other leave
pub record Output : Type 0 where
  pub number : ℕ
  pub offset : ℕ
  pub bytes : List ℕ

-- `write` called for each record, with the offset that it answered, until one is refused
unfoldable pub write_from : List ℕ → ℕ → List Record → Output
write_from b at [] = record { number = 0; offset = at; bytes = b }
write_from b at (r ∷ rs) =
    cond (eqb (written (length b) at r).number 0)
    (write_from (bytes_after b at r) (written (length b) at r).next.offset rs)
    (record { number = (written (length b) at r).number; offset = at; bytes = b })
