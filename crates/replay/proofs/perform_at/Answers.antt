-- The answer's count lies within its words.
use Rattle.std.proofs.Common.{sym}
use lib.Seq.{length-take-le}
use Rattle.calls.specs.Performed.{item_numbers}
use Rattle.calls.proofs.Listing.{within}
use Rattle.sessions.specs.Sessions.{item_at}
use Rattle.replay.proofs.perform_at.Goals as goal

pub slice_bounds-show-end : goal.slice_bounds-show-end
slice_bounds-show-end g c =
    let answered = c.perform_at-answered.result in
    sym (length-take-le answered.count answered.words (within answered (item_numbers (item_at c.args.bytes.now c.args.at) c.args.mem.now) c.perform_at-answered.ensures.answer))
