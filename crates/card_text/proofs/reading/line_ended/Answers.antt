-- `card_text::reading::line_ended` meets its contract: what the line says is taken.
-- Assumes nothing.
use Rattle.card_text.specs.Gathered.{text_of}
use Rattle.card_text.proofs.Lines.{ended}
use Rattle.card_text.proofs.reading.line_ended.Goals as goal

pub returns : goal.returns
returns c = let args = c.args in ended (text_of args.at args.words.now args.asyncs.now args.outputs.now) c.said.result c.line_taken-card.result _ _ _ _ _ c.said.ensures c.line_taken-card.ensures c.begun.ensures c.line_after.ensures
