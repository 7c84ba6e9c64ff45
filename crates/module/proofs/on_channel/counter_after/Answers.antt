-- `module::on_channel::counter_after` meets its contract: each call from what its callee ensures.
-- Assumes nothing.
use mathlib.Core.Path.{refl}
use Rattle.module.proofs.on_channel.counter_after.Goals as goal

pub returns-in-Tests : goal.returns-in-Tests
returns-in-Tests c = rw c.in-Tests.is c.test_counter.ensures

pub returns-in-Settings : goal.returns-in-Settings
returns-in-Settings c = rw c.in-Settings.is refl

pub returns-in-Memories : goal.returns-in-Memories
returns-in-Memories c = rw c.in-Memories.is refl

pub returns-in-Status : goal.returns-in-Status
returns-in-Status c = rw c.in-Status.is refl

pub returns-in-Reads : goal.returns-in-Reads
returns-in-Reads c = rw c.in-Reads.is refl

pub returns-in-Receive : goal.returns-in-Receive
returns-in-Receive c = rw c.in-Receive.is refl

pub returns-in-Transmit : goal.returns-in-Transmit
returns-in-Transmit c = rw c.in-Transmit.is refl
