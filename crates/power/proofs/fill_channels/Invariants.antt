-- `power::fill_channels` meets its contract: the blocks of the channels passed are filled, those of the others are zeros.
-- Assumes nothing.
use mathlib.Core.Path.{◌≡◌}
use lib.ListN.{length}
use Rattle.power.proofs.Filling.{filled_to}
use Rattle.power.proofs.fill_channels.Given as goal

abbrev pub invariant-loop-channel : goal.invariant-loop-channel
invariant-loop-channel l = (length l.mem ≡ length l.initial.mem) × (l.mem ≡ filled_to l.channel l.count l.initial.mem)
