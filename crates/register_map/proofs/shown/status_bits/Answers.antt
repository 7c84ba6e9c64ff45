-- `register_map::shown::status_bits` meets its contract: it is the definition.
-- Assumes nothing.
use mathlib.Core.Path.{refl}
use Rattle.register_map.specs.Shown.{status_bits}
use Rattle.register_map.proofs.shown.status_bits.Goals as goal

pub returns : goal.returns
unfolding status_bits
returns c = refl
