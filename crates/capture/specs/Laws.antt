-- What holds of whole captures (paper 02, (ii)).
use Rattle.std.specs.Prelude.{ℕ, suc, ◌+◌, ◌-◌, ◌<◌, ◌≤◌, ◌≡◌, List, [], ◌∷◌, length}
use Rattle.std.proofs.lemmas.List.Edits.{sets}
use Rattle.capture.specs.Format.{Record, made, lent_words, bytes_of}
use Rattle.capture.specs.Read.{nothing, read_at}
use Rattle.capture.specs.Captures.{Below, AllValid, capture_of, read_from, read_all, write_from}

-- "Reading what was written gives the same records": for every list of valid records, and it ends with 0 at their length
unfoldable pub ReadsWhatWasWritten : Type 0
ReadsWhatWasWritten = (rs : List Record) (lent : List ℕ) → AllValid rs → lent_words ≤ length lent
    → read_all (capture_of rs) lent ≡ record { records = rs; number = 0; offset = length (capture_of rs) }

-- "and writing what was read the same bytes": for all bytes whose reading ends with 0, the records are those bytes, and `write`, called for one
-- after another on as many bytes, whatever they hold, leaves them
unfoldable pub WritesWhatWasRead : Type 0
WritesWhatWasRead = (b lent out : List ℕ) → Below 256 b → lent_words ≤ length lent → length out ≡ length b → (read_all b lent).number ≡ 0
    → (capture_of (read_all b lent).records ≡ b) × (write_from out 0 (read_all b lent).records ≡ record { number = 0; offset = length b; bytes = b })

-- the bytes of a list of records are those that `write` leaves, called for one after another
unfoldable pub WritesOneAfterAnother : Type 0
WritesOneAfterAnother = (b : List ℕ) (at : ℕ) (rs : List Record) → AllValid rs → at + length (capture_of rs) ≤ length b
    → write_from b at rs ≡ record { number = 0; offset = at + length (capture_of rs); bytes = sets b at (capture_of rs) }

-- a reading ends: a record moves the offset on, and not past the end of the bytes
unfoldable pub MovesOn : Type 0
MovesOn = (b : List ℕ) (at lent : ℕ) → ((read_at b at lent).kind ≡ 0 → ⊥)
    → (at < (read_at b at lent).next.offset) × ((read_at b at lent).next.offset ≤ length b)

-- and stays where there is none: at the end, and at a record that is refused
unfoldable pub Stays : Type 0
Stays = (b : List ℕ) (at lent : ℕ) → (read_at b at lent).kind ≡ 0 → (read_at b at lent).next.offset ≡ at

-- so that further calls change nothing
unfoldable pub Ends : Type 0
Ends = (b lent : List ℕ) (at n : ℕ) → length b - at < n → read_from (suc n) b at lent ≡ read_from n b at lent

-- "Channel 1, word 0x00000123, stamp 5 is, whole: 0C 00 01 00 01 00 23 01 00 00 05 00 00 00."
abbrev pub example_bytes : List ℕ
example_bytes = 12 ∷ 0 ∷ 1 ∷ 0 ∷ 1 ∷ 0 ∷ 35 ∷ 1 ∷ 0 ∷ 0 ∷ 5 ∷ 0 ∷ 0 ∷ 0 ∷ []

abbrev pub example_record : Record
example_record = made 1 1 291 5 []

-- written, and read with no lent words; and how images of both kinds begin, of channel 12 with the command 0x6100, were they one command long
unfoldable pub Example : Type 0
Example = (bytes_of example_record ≡ example_bytes)
    × (read_at example_bytes 0 0 ≡ record { number = 0; kind = 1; next = record { offset = 14 }; channel = 1; word = 291; stamp = 5 })
    × (read_at example_bytes 14 0 ≡ nothing 0 14)
    × (bytes_of (made 2 12 0 0 (0x6100 ∷ [])) ≡ 8 ∷ 0 ∷ 2 ∷ 0 ∷ 12 ∷ 0 ∷ 0 ∷ 0x61 ∷ 0 ∷ 0 ∷ [])
    × (bytes_of (made 3 12 0 0 (0x6100 ∷ [])) ≡ 8 ∷ 0 ∷ 3 ∷ 0 ∷ 12 ∷ 0 ∷ 0 ∷ 0x61 ∷ 0 ∷ 0 ∷ [])
