-- `channel::dispatch::show` meets its contract: each call from what its callee ensures.
-- Assumes nothing.
use Rattle.channel.proofs.dispatch.show.Goals as goal

pub returns-in-Status : goal.returns-in-Status
returns-in-Status c = rw c.in-Status.is c.show.ensures
