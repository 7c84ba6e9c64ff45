-- `frame::counters::sample` meets its contract, from what `sampled` ensures.
-- Assumes nothing.
use Rattle.frame.proofs.counters.sample.Goals as goal

pub returns : goal.returns
returns c = cc
