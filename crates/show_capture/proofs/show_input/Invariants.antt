-- What is at hand lies within the bytes.
use Rattle.std.proofs.Common.{◌≤◌, length}
use Rattle.show_capture.proofs.show_input.Given as goal

abbrev pub invariant-loop : goal.invariant-loop
invariant-loop g l = l.held.count ≤ length l.initial.bytes
