-- `reset::reset_channels` meets its contract: the channels passed are reset, the others as they were.
-- Assumes nothing.
use mathlib.Core.Path.{◌≡◌}
use Rattle.reset.specs.Reset.{reset_to}
use Rattle.reset.proofs.reset_channels.Given as goal

abbrev pub invariant-loop-channel : goal.invariant-loop-channel
invariant-loop-channel l = l.mem ≡ reset_to l.channel l.initial.mem
