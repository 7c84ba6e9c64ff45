-- What is stored of an arriving word: an entry of the receive FIFO, and in mailbox mode a mailbox (paper 01, "Receive").
use Rattle.std.specs.Prelude.{ℕ, ◌+◌, cond, List, [], ◌∷◌, ◌==◌}
use Rattle.std.proofs.lemmas.List.Edits.{sets}
use Rattle.word.specs.Word.{index}
use Rattle.word.specs.Parity.{error_mark}
use Rattle.block.specs.Layout.{word, parity, stamps, receive_mode}
use Rattle.block.specs.Modes.{fifo_mode}
use Rattle.fifos.specs.Mailboxes.{mailbox_at}

-- "stamp (0 with stamps off)"
unfoldable pub stamp_of : ℕ → ℕ → ℕ
stamp_of stamps stamp = cond (stamps == 0) 0 stamp

-- "an entry of status (1 for a parity error, else 0), word and stamp"
abbrev pub word_entry : ℕ → ℕ → List ℕ → List ℕ
word_entry stamp w b = error_mark (word b parity) w ∷ w ∷ stamp_of (word b stamps) stamp ∷ []

-- "entry (0, index, 0)"
abbrev pub index_entry : ℕ → List ℕ
index_entry w = 0 ∷ index w ∷ 0 ∷ []

-- the first "in FIFO mode", the second in mailbox mode
unfoldable pub entry_of : ℕ → ℕ → List ℕ → List ℕ
entry_of stamp w b = cond (word b receive_mode == fifo_mode) (word_entry stamp w b) (index_entry w)

-- "status (D0 parity error, D1 new), word and stamp": with the new mark, or with 0 in its place
abbrev pub mail_of : ℕ → ℕ → ℕ → List ℕ → List ℕ
mail_of mark stamp w b = (error_mark (word b parity) w + mark) ∷ w ∷ stamp_of (word b stamps) stamp ∷ []

-- "In mailbox mode the mailbox of that index takes" these, "always"
unfoldable pub mailed : ℕ → ℕ → ℕ → List ℕ → List ℕ
mailed mark stamp w b = cond (word b receive_mode == fifo_mode) b (sets b (mailbox_at (index w)) (mail_of mark stamp w b))
