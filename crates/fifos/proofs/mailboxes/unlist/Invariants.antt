-- `fifos::mailboxes::unlist` meets its contract: the entries passed have taken their mailboxes' marks.
-- Assumes nothing.
use Rattle.std.proofs.Common.{◌≡◌}
use Rattle.fifos.specs.Mailboxes.{marks_taken}
use Rattle.fifos.proofs.mailboxes.unlist.Given as goal

abbrev pub invariant-loop-entry : goal.invariant-loop-entry
invariant-loop-entry l = l.block ≡ marks_taken l.entry l.initial.block
