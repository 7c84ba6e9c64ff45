-- The lines of a text, a byte after the other.
-- Assumes nothing.
use Rattle.std.proofs.Common.{◌≡◌, ℕ, ◌+◌, ◌<◌, ◌≤◌, List, length, get_or, drop, ap, ◌∙◌, add-one, drop_of_length-le, drop-cons}
use Rattle.card_lines.specs.Fields as fields
use Rattle.card_lines.specs.declared.fields.Fields.{Fields}
use Rattle.card_lines.specs.declared.fields.Entry.{Entry}
use Rattle.card_text.specs.Gathered.{State, state_of, Left, Text, text_of, Held, line_taken, line_after, line_ended, byte_taken, text_taken}
use Rattle.card_text.specs.declared.card.Card.{Card}
use Rattle.card_text.specs.declared.reading.Progress.{Progress}

-- what is held is equal to the lists and the progress of a text
pub held_text : {t : Text} {p : Progress} {w a o : List ℕ} → Held t p w a o → text_of p w a o ≡ t
held_text h = rw (h.answer, h.words-after, h.asyncs_after, h.outputs_after)

pub text_held : {t : Text} {p : Progress} {w a o : List ℕ} → text_of p w a o ≡ t → Held t p w a o
text_held e = record {
  answer = ap (λ t. t.progress) e;
  words-after = ap (λ t. t.words) e;
  asyncs_after = ap (λ t. t.asyncs) e;
  outputs_after = ap (λ t. t.outputs) e;
}

-- a line that has ended
pub ended : (t : Text) (e : Entry) (c : Card) (w a o : List ℕ) (n : Fields) (k : ℕ) → e ≡ fields.said t.progress.fields
    → Left (line_taken (state_of t.progress.card t.words t.asyncs t.outputs) e) c w a o → n ≡ fields.begun
    → k ≡ line_after c t.progress.line → Held (line_ended t) (record { fields = n; card = c; line = k }) w a o
ended t e c w a o n k said l begun next = record {
  answer = rw (begun, next, l.answer, said);
  words-after = l.words-after ∙ ap (λ x. (line_taken s x).words) said;
  asyncs_after = l.asyncs_after ∙ ap (λ x. (line_taken s x).asyncs) said;
  outputs_after = l.outputs_after ∙ ap (λ x. (line_taken s x).outputs) said;
}
  where
    s : State
    s = state_of t.progress.card t.words t.asyncs t.outputs

-- one byte more
pub text_next : (t : Text) (l : List ℕ) (i : ℕ) → i < length l → text_taken t (drop i l) ≡ text_taken (byte_taken t (get_or l i 0)) (drop (i + 1) l)
unfolding text_taken
text_next t l i h = rw (add-one, drop-cons l i 0)

-- the end of the text
pub text_end : (t : Text) (l : List ℕ) (i : ℕ) → length l ≤ i → text_taken t (drop i l) ≡ t
unfolding text_taken
text_end t l i h = rw (drop_of_length-le l h)
