-- The numbers of a step's answer, `form x y z`, for each case of `Output`.
use Rattle.std.specs.Prelude.{ℕ, Bool, true, false, List, [], ◌∷◌}
use Rattle.word.specs.Gap.{least}
use Rattle.schedule.specs.declared.Output.{Output}
use Rattle.schedule.specs.declared.Output.TheVariants.{Quiet, FifoWord, Message, Null, Async, Reserved, NullMessage}

-- "quiet"; "the oldest word and a gap of the rate"; a message, "no gap"; "null time g"; "4 null, the word (32), g - 36 null";
-- "answer names the command's own address"; paper 02 (i): a message "now sends 4 null first"
unfoldable pub values : Output → List ℕ
values Quiet = 0 ∷ 0 ∷ 0 ∷ 0 ∷ []
values (FifoWord word gap) = 1 ∷ word ∷ gap ∷ 0 ∷ []
values (Message word) = 2 ∷ word ∷ 0 ∷ 0 ∷ []
values (Null time) = 3 ∷ time ∷ 0 ∷ 0 ∷ []
values (Async word rest) = 4 ∷ least ∷ word ∷ rest ∷ []
values (Reserved address) = 5 ∷ address ∷ 0 ∷ 0 ∷ []
values (NullMessage word) = 6 ∷ least ∷ word ∷ 0 ∷ []

-- whether an output is a word of the transmit FIFO
abbrev pub is_fifo_word : Output → Bool
is_fifo_word Quiet = false
is_fifo_word (FifoWord word gap) = true
is_fifo_word (Message word) = false
is_fifo_word (Null time) = false
is_fifo_word (Async word rest) = false
is_fifo_word (Reserved address) = false
is_fifo_word (NullMessage word) = false
