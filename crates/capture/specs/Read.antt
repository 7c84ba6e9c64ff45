-- "Records are read one after another from lent capture bytes" (paper 02, (ii)): what stands at an offset, and what the lent words are after it is read.
use Rattle.std.specs.Prelude.{ℕ, zero, suc, ◌+◌, ◌-◌, cond, List, [], ◌∷◌, ◌++◌, eqb, ltb, length, replicate}
use Rattle.std.proofs.lemmas.List.Edits.{sets}
use Rattle.little_endian.specs.LittleEndian.{half_at, word_at}
use Rattle.capture.specs.Format.{arrival, commands_of, lent_words, lent_of, known, length_of, half, whole}
use Rattle.capture.specs.declared.reading.Answer.{Answer}

-- the fields of the record at an offset
abbrev pub length_at : List ℕ → ℕ → ℕ
length_at b at = half_at b at

abbrev pub kind_at : List ℕ → ℕ → ℕ
kind_at b at = half_at b (at + half)

abbrev pub channel_at : List ℕ → ℕ → ℕ
channel_at b at = half_at b (at + half + half)

-- where its word, or its commands, begin
abbrev pub body_at : ℕ → ℕ
body_at at = at + half + half + half

-- the words from an index on
abbrev pub words_at : List ℕ → ℕ → ℕ → List ℕ
words_at b at zero = []
words_at b at (suc n) = word_at b at ∷ words_at b (at + whole) n

-- "20 fewer bytes left than 2 .. or than the length asks, 21 length below 2": `rest` bytes are left behind the length's two
unfoldable pub cut_of : ℕ → ℕ → ℕ
cut_of rest long = cond (ltb rest long) 20 (cond (ltb long half) 21 0)

-- "or wrong for a known kind .., 22 unknown kind"
unfoldable pub kind_refusal : ℕ → ℕ → ℕ
kind_refusal long kind = cond (known kind) (cond (eqb long (length_of kind)) 0 21) 22

-- "23 channel outside 1 to 12"
unfoldable pub channel_refusal : ℕ → ℕ
channel_refusal channel = cond (ltb channel 1) 23 (cond (ltb 12 channel) 23 0)

-- the first of two refusals
abbrev pub or_else : ℕ → ℕ → ℕ
or_else first second = cond (eqb first 0) second first

-- "tested in that order"
unfoldable pub refusal_at : List ℕ → ℕ → ℕ
unfolding cut_of kind_refusal channel_refusal
refusal_at b at =
    cond (ltb (length b - at) half) 20
    (or_else (cut_of (length b - at - half) (length_at b at)) (or_else (kind_refusal (length_at b at) (kind_at b at)) (channel_refusal (channel_at b at))))

-- "a bad record is refused, its offset beside the number in place of zero"; "exactly at the end: 0, kind 0, offset unmoved"
abbrev pub nothing : ℕ → ℕ → Answer
nothing number at = record { number = number; kind = 0; next = record { offset = at }; channel = 0; word = 0; stamp = 0 }

-- the record at an offset: its kind, the offset behind it, and its values
unfoldable pub found_at : List ℕ → ℕ → Answer
found_at b at = record {
  number = 0;
  kind = kind_at b at;
  next = record { offset = at + half + length_at b at };
  channel = channel_at b at;
  word = cond (eqb (kind_at b at) arrival) (word_at b (body_at at)) 0;
  stamp = cond (eqb (kind_at b at) arrival) (word_at b (body_at at + whole)) 0;
}

-- what stands at an offset, with no lent words asked for
unfoldable pub seen_at : List ℕ → ℕ → Answer
unfolding refusal_at found_at
seen_at b at = cond (eqb at (length b)) (nothing 0 at) (cond (eqb (refusal_at b at) 0) (found_at b at) (nothing (refusal_at b at) at))

-- "24 lent output too short for it"
unfoldable pub read_at : List ℕ → ℕ → ℕ → Answer
unfolding seen_at
read_at b at lent = cond (eqb (commands_of (seen_at b at).kind) 0) (seen_at b at) (cond (ltb lent lent_words) (nothing 24 at) (seen_at b at))

-- the commands of a record at an offset
abbrev pub commands_at : List ℕ → ℕ → ℕ → List ℕ
commands_at b at kind = words_at b (body_at at) (commands_of kind)

-- the words that a record at an offset fills: paper 02 (vii), "reading it too fills 512 lent words, its own 256 and then stop (words of 0)"
abbrev pub filling : List ℕ → ℕ → ℕ → List ℕ
filling b at kind = commands_at b at kind ++ replicate (lent_of kind - commands_of kind) 0

-- the lent words after a reading: what an image fills in the first of them, and nothing written otherwise
unfoldable pub lent_after : List ℕ → ℕ → List ℕ → List ℕ
unfolding read_at
lent_after b at lent = sets lent 0 (filling b at (read_at b at (length lent)).kind)
