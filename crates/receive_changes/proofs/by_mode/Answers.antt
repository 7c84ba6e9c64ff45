-- `receive_changes::by_mode` meets its contract: each test is a case of the definition.
-- Assumes nothing.
use Rattle.word.proofs.Branches.{branches}
use Rattle.receive_changes.proofs.by_mode.Goals as goal

pub returns-then-mode-value : goal.returns-then-mode-value
returns-then-mode-value c = search branches

pub returns : goal.returns
returns c = search branches
