-- `card_text::judging::judge_parts` meets its contract: the parts are the first words and those behind them.
-- Assumes nothing.
use Rattle.std.proofs.lemmas.List.{take_min, drop_min}
use Rattle.card_text.proofs.judging.judge_parts.Goals as goal

pub returns : goal.returns
returns c = rw (c.split_at.ensures.front, c.split_at.ensures.back, c.min.ensures, take_min, drop_min) at c.judge.ensures
