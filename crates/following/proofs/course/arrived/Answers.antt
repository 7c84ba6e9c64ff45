-- `following::course::arrived` meets its contract: each case is one of the definition.
-- Assumes nothing.
use mathlib.Core.Path.{refl}
use Rattle.following.proofs.course.arrived.Goals as goal

pub returns-in-Coming : goal.returns-in-Coming
returns-in-Coming g c = rw (c.in-Coming.is, c.entered_with.ensures) refl

pub returns-in-Waiting : goal.returns-in-Waiting
returns-in-Waiting g c = rw c.in-Waiting.is refl

pub returns-in-Known : goal.returns-in-Known
returns-in-Known g c = rw c.in-Known.is refl
