-- `receive_changes::on_called` meets its contract: each case is one of the definition.
-- Assumes nothing.
use mathlib.Core.Path.{refl}
use Rattle.receive_changes.proofs.on_called.Goals as goal

pub returns-in-Settings : goal.returns-in-Settings
returns-in-Settings c = rw (c.in-Settings.is, c.by_settings.ensures) refl

pub returns-in-Memories : goal.returns-in-Memories
returns-in-Memories c = rw (c.in-Memories.is, c.left.ensures) refl

pub returns-in-Status : goal.returns-in-Status
returns-in-Status c = rw (c.in-Status.is, c.left-in-Status.ensures) refl

pub returns-in-Tests : goal.returns-in-Tests
returns-in-Tests c = rw (c.in-Tests.is, c.by_test.ensures) refl

pub returns-in-Reads : goal.returns-in-Reads
returns-in-Reads c = rw (c.in-Reads.is, c.left-in-Reads.ensures) refl

pub returns-in-Receive : goal.returns-in-Receive
returns-in-Receive c = rw (c.in-Receive.is, c.by_receive.ensures) refl

pub returns-in-Transmit : goal.returns-in-Transmit
returns-in-Transmit c = rw (c.in-Transmit.is, c.left-in-Transmit.ensures) refl
