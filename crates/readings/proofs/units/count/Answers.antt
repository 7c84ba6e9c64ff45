-- `readings::units::count` meets its contract: one product, and the whole number that it is.
-- Assumes nothing.
use lib.Ieee.Casts.{to_signed_in}
use mir.Facts.{to_z-of_z}
use mir.Syntax.{w64}
use Rattle.readings.specs.Units.{scaled, count_of}
use Rattle.readings.proofs.units.count.Goals as goal

pub returns : goal.returns
unfolding count_of
returns c = rw c.from.ensures (to_z-of_z {w = w64} (record { sfits = to_signed_in 63 (scaled c.args.units) }))
