-- `registers::masked::try_each` meets its contract: the channels passed are tried, and those that refused are in the mask.
-- Assumes nothing.
use mathlib.Core.Path.{◌≡◌}
use lib.ListN.{length}
use Rattle.registers.specs.Masked.{tried_to, refused_to}
use Rattle.registers.proofs.masked.try_each.Given as goal

abbrev pub invariant-loop-channel : goal.invariant-loop-channel
invariant-loop-channel l = (length l.mem ≡ length l.initial.mem) × (l.refused ≡ refused_to l.control l.mask l.channel l.initial.mem) × (l.mem ≡ tried_to l.control l.mask l.channel l.initial.mem)
