-- `channel::dispatch::act` meets its contract: each call from what its callee ensures.
-- Assumes nothing.
use Rattle.channel.proofs.dispatch.act.Goals as goal

pub on_receive-requires : goal.on_receive-requires
on_receive-requires c = (c.requires.0, rw c.in-Receive.is at c.requires.1)

pub on_transmit-requires : goal.on_transmit-requires
on_transmit-requires c = (c.requires.0, rw c.in-Transmit.is at c.requires.1)
