-- `following::course::gone` meets its contract: each test is a case of the definition.
-- Assumes nothing.
use Rattle.word.proofs.Branches.{branches}
use Rattle.following.proofs.course.gone.Goals as goal

pub returns-then-ahead-eq0 : goal.returns-then-ahead-eq0
returns-then-ahead-eq0 c = search branches

pub returns : goal.returns
returns c = search branches
