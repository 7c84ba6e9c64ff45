-- `channel_groups::read_calls::on_read` meets its contract: each call from what its callee ensures.
-- Assumes nothing.
use borrow.Author.Tests.{eq-eqb, ne_eqb}
use mathlib.Core.Path.{refl}
use Rattle.channel_groups.proofs.read_calls.on_read.Goals as goal

pub returns-then-mark-eq0 : goal.returns-then-mark-eq0
returns-then-mark-eq0 c = rw (c.in-ReadAsync.is, eq-eqb _ 0 c.if-mark-eq0.true) refl

pub returns-in-ReadCounts : goal.returns-in-ReadCounts
returns-in-ReadCounts c = rw c.in-ReadCounts.is refl

pub returns-in-ReadReceiveLevel : goal.returns-in-ReadReceiveLevel
returns-in-ReadReceiveLevel c = rw c.in-ReadReceiveLevel.is refl

pub returns-in-ReadTransmitLevel : goal.returns-in-ReadTransmitLevel
returns-in-ReadTransmitLevel c = rw c.in-ReadTransmitLevel.is refl

pub returns-else-mark-eq0 : goal.returns-else-mark-eq0
returns-else-mark-eq0 c = rw (c.in-ReadAsync.is, ne_eqb _ 0 c.if-mark-eq0.false) refl
