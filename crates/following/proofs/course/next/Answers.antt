-- `following::course::next` meets its contract: what is seen of the access, and the course after it.
-- Assumes nothing.
use mathlib.Core.Path.{refl}
use Rattle.following.proofs.course.next.Goals as goal

pub returns : goal.returns
returns g c = rw (c.course_after-after.ensures, c.by_access-seen.ensures) refl
