-- `register_map::map::register_at` meets its contract: each branch is a case of the definition.
-- Assumes nothing.
use Rattle.word.proofs.Branches.{branches}
use Rattle.register_map.specs.Map.{register_at}
use Rattle.register_map.proofs.map.register_at.Goals as goal

pub returns-then-rate-ne0 : goal.returns-then-rate-ne0
unfolding register_at
returns-then-rate-ne0 c = search (branches, ← c.channel_in-rate.ensures)

pub returns-then-waiting-ne0 : goal.returns-then-waiting-ne0
unfolding register_at
returns-then-waiting-ne0 c = search (branches, ← c.channel_in-waiting.ensures, ← c.channel_in-rate.ensures)

pub returns-then-status-ne0 : goal.returns-then-status-ne0
unfolding register_at
returns-then-status-ne0 c = search (branches, ← c.channel_in-status.ensures, ← c.channel_in-waiting.ensures, ← c.channel_in-rate.ensures)

pub returns : goal.returns
unfolding register_at
returns c = search (branches, c.ram_at.ensures, ← c.channel_in-status.ensures, ← c.channel_in-waiting.ensures, ← c.channel_in-rate.ensures)
