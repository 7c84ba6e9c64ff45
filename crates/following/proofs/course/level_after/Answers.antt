-- `following::course::level_after` meets its contract: each case is one of the definition.
-- Assumes nothing.
use mathlib.Core.Path.{refl}
use Rattle.following.proofs.course.level_after.Goals as goal

pub returns-in-Enters : goal.returns-in-Enters
returns-in-Enters c = rw c.in-Enters.is refl

pub returns-in-EntersOverOldest : goal.returns-in-EntersOverOldest
returns-in-EntersOverOldest c = rw (c.in-EntersOverOldest.is, c.one_less.ensures) refl

pub returns-in-OldestRead : goal.returns-in-OldestRead
returns-in-OldestRead c = rw (c.in-OldestRead.is, c.one_less-in-OldestRead.ensures) refl
