-- `following::course::passed` meets its contract: each case is one of the definition.
-- Assumes nothing.
use mathlib.Core.Path.{refl}
use Rattle.following.proofs.course.passed.Goals as goal

pub level_after-requires : goal.level_after-requires
level_after-requires c = rw c.in-Coming.is at c.requires

pub returns-in-Coming : goal.returns-in-Coming
returns-in-Coming c = rw (c.in-Coming.is, c.level_after.ensures) refl

pub returns-in-Waiting : goal.returns-in-Waiting
returns-in-Waiting c = rw (c.in-Waiting.is, c.waiting_after.ensures) refl

pub returns-in-Known : goal.returns-in-Known
returns-in-Known c = rw c.in-Known.is refl
