-- `card_text::reading::byte_taken` meets its contract: each branch is a case of the definition.
-- Assumes nothing.
use Rattle.std.proofs.Common.{refl, eq-eqb, ne_eqb}
use Rattle.card_text.specs.Gathered.{byte_taken}
use Rattle.card_text.proofs.reading.byte_taken.Goals as goal

pub returns-then-is_some : goal.returns-then-is_some
unfolding byte_taken
returns-then-is_some c = rw (← c.is_some.ensures, c.if-is_some.true) (record { answer = refl; words-after = refl; asyncs_after = refl; outputs_after = refl })

pub returns-then-byte-eq10 : goal.returns-then-byte-eq10
unfolding byte_taken
returns-then-byte-eq10 c = rw (← c.is_some.ensures, c.if-is_some.false, eq-eqb _ 10 c.if-byte-eq10.true) c.line_ended.ensures

pub returns : goal.returns
unfolding byte_taken
returns c = rw (← c.is_some.ensures, c.if-is_some.false, ne_eqb _ 10 c.if-byte-eq10.false) (record { answer = rw c.taken.ensures; words-after = refl; asyncs_after = refl; outputs_after = refl })
