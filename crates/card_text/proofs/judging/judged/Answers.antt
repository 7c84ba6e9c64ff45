-- `card_text::judging::judged` meets its contract: the lists are lent as far as the card counts in them.
-- Assumes nothing.
use Rattle.std.proofs.lemmas.List.{take_min}
use Rattle.card_text.specs.Judging.{judged}
use Rattle.card_text.proofs.judging.judged.Goals as goal

pub returns : goal.returns
unfolding judged
returns c = rw (c.unwrap_or.ensures, c.min-ram.ensures, c.min-writes.ensures, c.min-numbers.ensures, take_min c.args.card.words c.args.words.now, take_min c.args.card.asyncs c.args.asyncs.now, take_min c.args.card.outputs c.args.outputs.now) at c.judge_parts.ensures
