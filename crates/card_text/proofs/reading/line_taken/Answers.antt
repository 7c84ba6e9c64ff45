-- `card_text::reading::line_taken` meets its contract: each branch is a case of the definition.
-- Assumes nothing.
use Rattle.std.proofs.Common.{refl}
use Rattle.card_text.specs.Gathered.{line_taken}
use Rattle.card_text.proofs.reading.line_taken.Goals as goal

pub returns-then-is_some : goal.returns-then-is_some
unfolding line_taken
returns-then-is_some c = rw (← c.is_some.ensures, c.if-is_some.true) c.entry_taken.ensures

pub returns : goal.returns
unfolding line_taken
returns c = rw (← c.is_some.ensures, c.if-is_some.false) (record { answer = c.parity_taken.ensures; words-after = refl; asyncs_after = refl; outputs_after = refl })
