-- `receive_changes::by_access` meets its contract: each case is one of the definition.
-- Assumes nothing.
use mathlib.Core.Path.{refl}
use Rattle.receive_changes.proofs.by_access.Goals as goal

pub returns-in-Direct : goal.returns-in-Direct
returns-in-Direct g c = rw (c.in-Direct.is, c.directly.ensures) refl

pub returns-in-ReadRegister : goal.returns-in-ReadRegister
returns-in-ReadRegister g c = rw (c.in-ReadRegister.is, c.left.ensures) refl

pub returns-in-WriteRegister : goal.returns-in-WriteRegister
returns-in-WriteRegister g c = rw (c.in-WriteRegister.is, c.left-in-WriteRegister.ensures) refl
