-- `block::ranges::in_range` meets its contract: it is the definition, with the tables in the code.
-- Assumes nothing.
use mathlib.Core.Path.{refl}
use Rattle.block.specs.Ranges.{leasts, greatests}
use Rattle.block.proofs.ranges.in_range.Goals as goal

pub returns : goal.returns
unfolding leasts greatests
returns c = refl
