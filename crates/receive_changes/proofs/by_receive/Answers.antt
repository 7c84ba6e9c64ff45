-- `receive_changes::by_receive` meets its contract: each case is one of the definition.
-- Assumes nothing.
use mathlib.Core.Path.{refl}
use Rattle.receive_changes.proofs.by_receive.Goals as goal

pub returns-in-Arrive : goal.returns-in-Arrive
returns-in-Arrive c = rw (c.in-Arrive.is, c.by_arrival.ensures) refl

pub returns-in-ReadFifo : goal.returns-in-ReadFifo
returns-in-ReadFifo c = rw (c.in-ReadFifo.is, c.by_read.ensures) refl

pub returns-in-ReadMailbox : goal.returns-in-ReadMailbox
returns-in-ReadMailbox c = rw (c.in-ReadMailbox.is, c.left.ensures) refl
