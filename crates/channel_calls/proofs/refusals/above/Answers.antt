-- `channel_calls::refusals::above` meets its contract: each branch is a case of the definition.
-- Assumes nothing.
use Rattle.word.proofs.Branches.{branches}
use Rattle.channel_calls.specs.Refusals.{above}
use Rattle.channel_calls.proofs.refusals.above.Goals as goal

pub returns-then-limit-x : goal.returns-then-limit-x
unfolding above
returns-then-limit-x c = search branches

pub returns : goal.returns
unfolding above
returns c = search branches
