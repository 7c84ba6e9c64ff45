-- The text of a card, a byte after the other, with the lists that it fills.
use Rattle.std.specs.Prelude.{◌≡◌, ℕ, ◌+◌, ◌%◌, ◌^◌, cond, List, [], ◌∷◌, length, is_some, ◌==◌}
use Rattle.card_lines.specs.Fields as fields
use Rattle.card_lines.specs.declared.fields.Entry.{Entry}
use Rattle.card_lines.specs.declared.fields.Entry.TheVariants.{Blank, Word, Async, Out, NoEntry}
use Rattle.card_text.specs.Card as card
use Rattle.card_text.specs.Card.{is_faulty, faulty, parity_taken, word_card, word_list, async_card, async_list, output_card, output_list, wrong_line}
use Rattle.card_text.specs.declared.card.Card.{Card}
use Rattle.card_text.specs.declared.faults.Fault.TheVariants as fault
use Rattle.card_text.specs.declared.reading.Progress.{Progress}

-- a card with the lists that it counts in
pub record State : Type 0 where
  pub card : Card
  pub words : List ℕ
  pub asyncs : List ℕ
  pub outputs : List ℕ

abbrev pub state_of : Card → List ℕ → List ℕ → List ℕ → State
state_of c w a o = record { card = c; words = w; asyncs = a; outputs = o }

-- what a function leaves: its answer and the lists
pub record Left (s : State) (c : Card) (w a o : List ℕ) : Type 0 where
  pub answer : c ≡ s.card
  pub words-after : w ≡ s.words
  pub asyncs_after : a ≡ s.asyncs
  pub outputs_after : o ≡ s.outputs

abbrev pub entry_taken : State → Entry → State
entry_taken s Blank = s
entry_taken s (Word w) = state_of (word_card (length s.words) s.card) (word_list s.words s.card w) s.asyncs s.outputs
entry_taken s (Async step w) = state_of (async_card (length s.asyncs) s.card) s.words (async_list s.asyncs s.card step w) s.outputs
entry_taken s (Out form x y z) = state_of (output_card (length s.outputs) s.card) s.words s.asyncs (output_list s.outputs s.card form x y z)
entry_taken s NoEntry = state_of (wrong_line s.card (length s.words)) s.words s.asyncs s.outputs

-- the first line has the parity
unfoldable pub line_taken : State → Entry → State
line_taken s e =
    cond (is_some s.card.parity) (entry_taken s e) (state_of (parity_taken s.card e) s.words s.asyncs s.outputs)

abbrev pub begun : Progress
begun = record { fields = fields.begun; card = card.begun; line = 1 }

abbrev pub line_after : Card → ℕ → ℕ
line_after c line = cond (is_faulty c.fault) line ((line + 1) % 2 ^ 64)

-- the same with the line that is being read
pub record Text : Type 0 where
  pub progress : Progress
  pub words : List ℕ
  pub asyncs : List ℕ
  pub outputs : List ℕ

abbrev pub text_of : Progress → List ℕ → List ℕ → List ℕ → Text
text_of p w a o = record { progress = p; words = w; asyncs = a; outputs = o }

pub record Held (t : Text) (p : Progress) (w a o : List ℕ) : Type 0 where
  pub answer : p ≡ t.progress
  pub words-after : w ≡ t.words
  pub asyncs_after : a ≡ t.asyncs
  pub outputs_after : o ≡ t.outputs

-- the card when the line that is being read has ended
abbrev pub state_at : Text → State
state_at t = line_taken (state_of t.progress.card t.words t.asyncs t.outputs) (fields.said t.progress.fields)

abbrev pub line_ended : Text → Text
line_ended t =
    text_of (record { fields = fields.begun; card = (state_at t).card; line = line_after (state_at t).card t.progress.line }) (state_at t).words
    (state_at t).asyncs (state_at t).outputs

-- one more byte: a wrong line ends the reading
unfoldable pub byte_taken : Text → ℕ → Text
byte_taken t b =
    cond (is_faulty t.progress.card.fault) t
    (cond (b == 10) (line_ended t)
    (text_of (record { fields = fields.taken t.progress.fields b; card = t.progress.card; line = t.progress.line }) t.words t.asyncs
    t.outputs))

-- the bytes of a text
unfoldable pub text_taken : Text → List ℕ → Text
text_taken t [] = t
text_taken t (b ∷ rest) = text_taken (byte_taken t b) rest

-- a text with no parity is wrong at its last line
unfoldable pub with_parity : Progress → ℕ → Progress
with_parity p line =
    cond (is_some p.card.parity) p (record { fields = p.fields; card = faulty p.card fault.NoParity; line = line })

-- the end of the text, which ends its last line
unfoldable pub finished : Text → Text
finished t =
    cond (is_faulty t.progress.card.fault) t
    (text_of (with_parity (line_ended t).progress t.progress.line) (line_ended t).words (line_ended t).asyncs (line_ended t).outputs)
