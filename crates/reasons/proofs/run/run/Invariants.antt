-- Each turn performs one item more, and follows the arrival over it.
use Rattle.std.proofs.Common.{◌≡◌, length}
use Rattle.sessions.specs.Sessions.{performed}
use Rattle.reasons.specs.Followed.{followed_to}
use Rattle.reasons.proofs.run.run.Given as goal

abbrev pub invariant-loop-done : goal.invariant-loop-done
invariant-loop-done l = (length l.mem ≡ length l.initial.mem) × (l.watch ≡ followed_to l.done l.bytes l.channel l.place l.initial.mem) × (l.mem ≡ performed l.done l.bytes l.initial.mem)
