-- `reasons::run::run` meets its contract: as many entries as items at most are held.
-- Assumes nothing.
use Rattle.std.proofs.Common.{◌≤◌, arith}
use Rattle.following.specs.Course.{held_before}
use Rattle.reasons.proofs.Following.{held_to}
use Rattle.reasons.proofs.run.run.Goals as goal

pub follow-watch-requires : goal.follow-watch-requires
follow-watch-requires c = let start = c.args in
    let few : held_before c.loop-done.watch.course ≤ c.loop-done.done = rw c.loop-done.invariant.1 (held_to c.loop-done.done start.bytes.now start.channel start.place start.mem.now) in
    (omega arith, omega arith, omega (arith, few))
