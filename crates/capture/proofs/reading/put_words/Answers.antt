-- `capture::reading::put_words` meets its contract: each turn puts one word more.
-- Assumes nothing.
use Rattle.capture.proofs.Stores.{one_more}
use Rattle.capture.proofs.reading.put_words.Goals as goal

pub loop-i-preserved : goal.loop-i-preserved
loop-i-preserved c =
    one_more c.args.bytes.now c.args.lent.now c.loop-i.lent c.args.from c.loop-i.i c.word_at.result c.loop-i.invariant c.word_at.ensures
