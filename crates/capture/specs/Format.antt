-- "Capture files. We want each arrival on disk." (paper 02, (ii)): a record, its kinds, and its bytes.
use Rattle.std.specs.Prelude.{ℕ, ◌+◌, ◌*◌, Bool, true, cond, List, [], ◌∷◌, ◌++◌, eqb, ltb, length}
use Rattle.little_endian.specs.LittleEndian.{two, four}

-- what a record says; an arrival has no commands, an image has word and stamp 0
pub record Record : Type 0 where
  pub kind : ℕ
  pub channel : ℕ
  pub word : ℕ
  pub stamp : ℕ
  pub commands : List ℕ

abbrev pub made : ℕ → ℕ → ℕ → ℕ → List ℕ → Record
made kind channel word stamp commands = record { kind = kind; channel = channel; word = word; stamp = stamp; commands = commands }

-- "Kind 1: channel (2), word (4), stamp (4)."
abbrev pub arrival : ℕ
arrival = 1

-- "Kind 2 is a schedule image: .. 256 commands": an image of the time before (vii)
abbrev pub old_image : ℕ
old_image = 2

abbrev pub old_image_commands : ℕ
old_image_commands = 256

-- paper 02 (vii): "New images are kind 3 with 512 commands"
abbrev pub image : ℕ
image = 3

abbrev pub image_commands : ℕ
image_commands = 512

-- how many commands a kind has
unfoldable pub commands_of : ℕ → ℕ
commands_of kind = cond (eqb kind old_image) old_image_commands (cond (eqb kind image) image_commands 0)

-- the lent words that reading an image, old or new, needs and fills
abbrev pub lent_words : ℕ
lent_words = image_commands

-- the words that reading a kind fills
unfoldable pub lent_of : ℕ → ℕ
lent_of kind = cond (eqb (commands_of kind) 0) 0 lent_words

unfoldable pub known : ℕ → Bool
unfolding commands_of
known kind = cond (eqb kind arrival) true (ltb 0 (commands_of kind))

-- the bytes of the length's field, of the fields kind and channel, and of a word, a stamp or a command
abbrev pub half : ℕ
half = 2

abbrev pub whole : ℕ
whole = 4

-- "counting kind and body": the length of a record of a known kind
unfoldable pub length_of : ℕ → ℕ
unfolding commands_of
length_of kind = half + half + cond (eqb kind arrival) (whole + whole) (whole * commands_of kind)

-- "commands (4 each)"
abbrev pub fours : List ℕ → List ℕ
fours [] = []
fours (x ∷ l) = four x ++ fours l

-- "channel (2), word (4), stamp (4)"; "channel (2) and 256 commands (4 each)", and of kind 3 512
unfoldable pub body_of : Record → List ℕ
body_of r = two r.channel ++ cond (eqb r.kind arrival) (four r.word ++ four r.stamp) (fours r.commands)

-- "A record is length (two bytes, little-endian, counting kind and body), kind (two bytes), body."
unfoldable pub bytes_of : Record → List ℕ
unfolding body_of
bytes_of r = two (length (two r.kind ++ body_of r)) ++ (two r.kind ++ body_of r)
