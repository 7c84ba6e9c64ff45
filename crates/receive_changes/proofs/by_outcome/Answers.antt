-- `receive_changes::by_outcome` meets its contract: each case is one of the definition.
-- Assumes nothing.
use mathlib.Core.Path.{refl}
use Rattle.receive_changes.proofs.by_outcome.Goals as goal

pub returns-in-Ignored : goal.returns-in-Ignored
returns-in-Ignored c = rw (c.in-Ignored.is, c.left.ensures) refl

pub returns-in-Filtered : goal.returns-in-Filtered
returns-in-Filtered c = rw (c.in-Filtered.is, c.left-in-Filtered.ensures) refl

pub returns-in-Appended : goal.returns-in-Appended
returns-in-Appended c = rw c.in-Appended.is refl

pub returns-in-Dropped : goal.returns-in-Dropped
returns-in-Dropped c = rw (c.in-Dropped.is, c.left-in-Dropped.ensures) refl

pub returns-in-Overwriting : goal.returns-in-Overwriting
returns-in-Overwriting c = rw c.in-Overwriting.is refl

pub returns-in-AlreadyListed : goal.returns-in-AlreadyListed
returns-in-AlreadyListed c = rw (c.in-AlreadyListed.is, c.left-in-AlreadyListed.ensures) refl
