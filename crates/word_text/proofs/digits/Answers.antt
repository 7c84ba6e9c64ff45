-- `word_text::digits` meets its contract: so many digits are taken, and what is left to take are those behind them.
-- Assumes nothing.
use Rattle.word_text.proofs.Laws.{taken-eight}
use Rattle.word_text.proofs.digits.Goals as goal

pub returns-then-count-eq8 : goal.returns-then-count-eq8
returns-then-count-eq8 c = let both = taken-eight _ c.loop-count.count c.loop-count.value c.loop-count.invariant.taken c.loop-count-test.true c.if-count-eq8.true in record { count = both.0; value = both.1 }
