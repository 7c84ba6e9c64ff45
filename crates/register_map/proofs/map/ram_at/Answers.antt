-- `register_map::map::ram_at` meets its contract: each branch is a case of the definition.
-- Assumes nothing.
use Rattle.word.proofs.Branches.{branches}
use Rattle.register_map.specs.Map.{ram_at}
use Rattle.register_map.proofs.map.ram_at.Goals as goal

pub returns-then-schedule-ne0 : goal.returns-then-schedule-ne0
unfolding ram_at
returns-then-schedule-ne0 c = search (branches, ← c.channel_in-schedule.ensures)

pub returns-then-message-ne0 : goal.returns-then-message-ne0
unfolding ram_at
returns-then-message-ne0 c = search (branches, ← c.channel_in-message.ensures, ← c.channel_in-schedule.ensures)

pub returns : goal.returns
unfolding ram_at
returns c = search (branches, c.masked_at.ensures, ← c.channel_in-message.ensures, ← c.channel_in-schedule.ensures)
