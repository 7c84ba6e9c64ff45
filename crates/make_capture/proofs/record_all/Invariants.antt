-- The items before this one are performed.
use Rattle.std.proofs.Common.{◌≡◌}
use Rattle.sessions.specs.Sessions.{performed}
use Rattle.make_capture.proofs.record_all.Given as goal

abbrev pub invariant-loop-done : goal.invariant-loop-done
invariant-loop-done g l = l.mem ≡ performed l.done l.bytes l.initial.mem
