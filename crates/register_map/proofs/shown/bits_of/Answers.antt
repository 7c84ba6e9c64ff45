-- `register_map::shown::bits_of` meets its contract: each variant is a case of the definition.
-- Assumes nothing.
use mathlib.Core.Path.{refl}
use Rattle.register_map.proofs.shown.bits_of.Goals as goal

pub returns-in-CommandBits : goal.returns-in-CommandBits
returns-in-CommandBits c = rw c.in-CommandBits.is refl

pub returns-in-StatusBits : goal.returns-in-StatusBits
returns-in-StatusBits c = rw c.in-StatusBits.is c.status_bits.ensures
