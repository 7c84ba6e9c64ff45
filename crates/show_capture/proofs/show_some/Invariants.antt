-- The offset stays within the bytes. Each turn moves the offset on.
use Rattle.std.proofs.Common.{◌-◌, ◌≤◌, length}
use Rattle.show_capture.proofs.show_some.Given as goal

abbrev pub invariant-loop-out : goal.invariant-loop-out
invariant-loop-out g l = l.at ≤ length l.bytes

abbrev pub decreases-loop-out : goal.decreases-loop-out
decreases-loop-out g l = length l.bytes - l.at
