-- `console::base` meets its contract: each branch is a case of the definition.
use Rattle.word.proofs.Branches.{branches}
use Rattle.console.specs.Labels.{base_at}
use Rattle.console.proofs.base.Goals as goal

pub returns-then-count-eq0 : goal.returns-then-count-eq0
unfolding base_at
returns-then-count-eq0 c = search branches

pub returns : goal.returns
unfolding base_at
returns c = search branches
