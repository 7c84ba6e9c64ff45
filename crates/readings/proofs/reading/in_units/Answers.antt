-- `readings::reading::in_units` meets its contract: one division.
-- Assumes nothing.
use Rattle.std.proofs.Common.{arith}
use Rattle.std.proofs.lemmas.Int.{to_z-of_z}
use Rattle.readings.specs.Reading.{in_units}
use Rattle.readings.proofs.reading.in_units.Goals as goal

pub returns : goal.returns
unfolding in_units
returns c = grind (arith, to_z-of_z)
