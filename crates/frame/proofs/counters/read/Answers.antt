-- `frame::counters::read` meets its contract: twelve words of the memory, one by one.
-- Assumes nothing.
use native.Mathlib.Omega.{arith}
use Rattle.ring.specs.Ring.{words}
use Rattle.ring.proofs.Words.{words_part}
use Rattle.frame.proofs.counters.read.Goals as goal

pub returns : goal.returns
unfolding words
returns c = words_part c.args.mem.now 4 12 (omega arith)
