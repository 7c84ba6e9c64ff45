-- `receive_changes::by_setting` meets its contract: each case is one of the definition.
-- Assumes nothing.
use mathlib.Core.Path.{refl}
use Rattle.receive_changes.proofs.by_setting.Goals as goal

pub returns-in-Receiver : goal.returns-in-Receiver
returns-in-Receiver c = rw (c.in-Receiver.is, c.left.ensures) refl

pub returns-in-Transmitter : goal.returns-in-Transmitter
returns-in-Transmitter c = rw (c.in-Transmitter.is, c.left-in-Transmitter.ensures) refl

pub returns-in-Parity : goal.returns-in-Parity
returns-in-Parity c = rw (c.in-Parity.is, c.left-in-Parity.ensures) refl

pub returns-in-Match : goal.returns-in-Match
returns-in-Match c = rw (c.in-Match.is, c.left-in-Match.ensures) refl

pub returns-in-Stamps : goal.returns-in-Stamps
returns-in-Stamps c = rw (c.in-Stamps.is, c.left-in-Stamps.ensures) refl

pub returns-in-ReceiveMode : goal.returns-in-ReceiveMode
returns-in-ReceiveMode c = rw (c.in-ReceiveMode.is, c.by_mode.ensures) refl

pub returns-in-FifoKind : goal.returns-in-FifoKind
returns-in-FifoKind c = rw (c.in-FifoKind.is, c.left-in-FifoKind.ensures) refl

pub returns-in-TransmitMode : goal.returns-in-TransmitMode
returns-in-TransmitMode c = rw (c.in-TransmitMode.is, c.left-in-TransmitMode.ensures) refl

pub returns-in-ReceiveSize : goal.returns-in-ReceiveSize
returns-in-ReceiveSize c = rw (c.in-ReceiveSize.is, c.left-in-ReceiveSize.ensures) refl

pub returns-in-AlmostFull : goal.returns-in-AlmostFull
returns-in-AlmostFull c = rw (c.in-AlmostFull.is, c.left-in-AlmostFull.ensures) refl

pub returns-in-AlmostEmpty : goal.returns-in-AlmostEmpty
returns-in-AlmostEmpty c = rw (c.in-AlmostEmpty.is, c.left-in-AlmostEmpty.ensures) refl

pub returns-in-Rate : goal.returns-in-Rate
returns-in-Rate c = rw (c.in-Rate.is, c.left-in-Rate.ensures) refl
