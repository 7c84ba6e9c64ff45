-- `following::course::waiting_after` meets its contract: each case is one of the definition.
-- Assumes nothing.
use mathlib.Core.Path.{refl}
use Rattle.following.proofs.course.waiting_after.Goals as goal

pub returns-in-Nothing : goal.returns-in-Nothing
returns-in-Nothing c = rw c.in-Nothing.is refl

pub returns-in-Enters : goal.returns-in-Enters
returns-in-Enters c = rw c.in-Enters.is refl

pub returns-in-EntersOverOldest : goal.returns-in-EntersOverOldest
returns-in-EntersOverOldest c = rw (c.in-EntersOverOldest.is, c.gone.ensures) refl

pub returns-in-OldestRead : goal.returns-in-OldestRead
returns-in-OldestRead c = rw (c.in-OldestRead.is, c.gone-in-OldestRead.ensures) refl

pub returns-in-AllCleared : goal.returns-in-AllCleared
returns-in-AllCleared c = rw c.in-AllCleared.is refl

pub returns-in-AllBegun : goal.returns-in-AllBegun
returns-in-AllBegun c = rw c.in-AllBegun.is refl
