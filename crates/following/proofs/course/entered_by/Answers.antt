-- `following::course::entered_by` meets its contract: each case is one of the definition.
-- Assumes nothing.
use mathlib.Core.Path.{refl}
use Rattle.following.proofs.course.entered_by.Goals as goal

pub returns-in-Ignored : goal.returns-in-Ignored
returns-in-Ignored c = rw c.in-Ignored.is refl

pub returns-in-Filtered : goal.returns-in-Filtered
returns-in-Filtered c = rw c.in-Filtered.is refl

pub returns-in-Appended : goal.returns-in-Appended
returns-in-Appended c = rw c.in-Appended.is refl

pub returns-in-Dropped : goal.returns-in-Dropped
returns-in-Dropped c = rw c.in-Dropped.is refl

pub returns-in-Overwriting : goal.returns-in-Overwriting
returns-in-Overwriting c = rw (c.in-Overwriting.is, c.one_less.ensures) refl

pub returns-in-AlreadyListed : goal.returns-in-AlreadyListed
returns-in-AlreadyListed c = rw c.in-AlreadyListed.is refl
