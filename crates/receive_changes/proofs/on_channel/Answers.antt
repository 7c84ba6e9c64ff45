-- `receive_changes::on_channel` meets its contract: each test is a case of the definition.
-- Assumes nothing.
use Rattle.word.proofs.Branches.{branches}
use Rattle.receive_changes.proofs.on_channel.Goals as goal

pub returns-then-named-channel : goal.returns-then-named-channel
returns-then-named-channel c = search branches

pub returns : goal.returns
returns c = search branches
