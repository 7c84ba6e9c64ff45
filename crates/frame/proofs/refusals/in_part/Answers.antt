-- `frame::refusals::in_part` meets its contract: it is the definition, with the tables in the code.
-- Assumes nothing.
use mathlib.Core.Path.{refl}
use Rattle.frame.specs.Refusals.{part_leasts, part_greatests}
use Rattle.frame.proofs.refusals.in_part.Goals as goal

pub returns : goal.returns
unfolding part_leasts part_greatests
returns c = refl
