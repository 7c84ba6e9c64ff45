-- `card_text::reading::text_taken` meets its contract: the bytes from `byte` on give what the whole text gives.
-- Assumes nothing.
use Rattle.std.proofs.Common.{◌≡◌, length, drop}
use Rattle.card_text.specs.Gathered.{text_of, text_taken}
use Rattle.card_text.proofs.reading.text_taken.Given as goal

abbrev pub invariant-loop-byte : goal.invariant-loop-byte
invariant-loop-byte l = record {
  words : length l.words ≡ length l.initial.words;
  asyncs : length l.asyncs ≡ length l.initial.asyncs;
  outputs : length l.outputs ≡ length l.initial.outputs;
  same : text_taken (text_of l.at l.words l.asyncs l.outputs) (drop l.byte-index l.text) ≡ text_taken (text_of l.initial.at l.initial.words l.initial.asyncs l.initial.outputs) l.text;
}
