-- `card_text::reading::text_taken` meets its contract: the bytes from `byte` on give what the whole text gives.
-- Assumes nothing.
use Rattle.std.proofs.Common.{◌+◌, drop, sym, ap, ◌∙◌, arith}
use Rattle.card_text.specs.Gathered.{text_of, text_taken}
use Rattle.card_text.proofs.Lines.{held_text, text_next, text_end, text_held}
use Rattle.card_text.proofs.reading.text_taken.Goals as goal

pub loop-byte-preserved : goal.loop-byte-preserved
loop-byte-preserved c = let at = c.loop-byte in
    let text = c.args.text.now in
    record {
      words = omega (arith, c.byte_taken-at.auto.words);
      asyncs = omega (arith, c.byte_taken-at.auto.asyncs);
      outputs = omega (arith, c.byte_taken-at.auto.outputs);
      same = ap (λ t. text_taken t (drop (at.byte-index + 1) text)) (held_text c.byte_taken-at.ensures)
          ∙ sym (text_next (text_of at.at at.words at.asyncs at.outputs) text at.byte-index (omega arith)) ∙ at.invariant.same;
    }

pub returns : goal.returns
returns c = let at = c.loop-byte in
    text_held (sym (text_end (text_of at.at at.words at.asyncs at.outputs) c.args.text.now at.byte-index (omega arith)) ∙ at.invariant.same)
