-- `following::course::course_after` meets its contract: each test is a case of the definition.
-- Assumes nothing.
use Rattle.word.proofs.Branches.{branches}
use Rattle.following.proofs.course.course_after.Goals as goal

pub returns-then-at-place : goal.returns-then-at-place
returns-then-at-place g c = search branches

pub returns : goal.returns
returns g c = search branches
