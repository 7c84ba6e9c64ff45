-- `word::count_of_ones` meets its contract: the machine's count is that of the 32 bits.
-- Assumes nothing.
use Rattle.word.proofs.Laws.{ones-counted}
use Rattle.word.proofs.count_of_ones.Goals as goal

pub returns : goal.returns
returns c = ones-counted c.args.word c.ranges.word.fits
