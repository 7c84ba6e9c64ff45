-- `card_text::reading::finished` meets its contract: each branch is a case of the definition.
-- Assumes nothing.
use Rattle.std.proofs.Common.{refl, ap, ◌∙◌}
use Rattle.card_text.specs.Gathered.{with_parity, finished}
use Rattle.card_text.proofs.reading.finished.Goals as goal

pub returns-then-is_some : goal.returns-then-is_some
unfolding finished
returns-then-is_some c = rw (← c.is_some.ensures, c.if-is_some.true) (record { answer = refl; words-after = refl; asyncs_after = refl; outputs_after = refl })

pub returns : goal.returns
unfolding finished
returns c = let h = c.line_ended.ensures in rw (← c.is_some.ensures, c.if-is_some.false) (record { answer = c.with_parity.ensures ∙ ap (λ p. with_parity p c.args.at.line) h.answer; words-after = h.words-after; asyncs_after = h.asyncs_after; outputs_after = h.outputs_after })
