-- `reasons::question::are_calls` meets its contract: the items passed are calls.
-- Assumes nothing.
use Rattle.std.proofs.Common.{◌≡◌, ◌/◌, ◌∙◌, sym, length, arith}
use Rattle.reasons.proofs.Lists.{no_call, all_calls}
use Rattle.reasons.proofs.question.are_calls.Goals as goal

pub returns-then-not-is_call : goal.returns-then-not-is_call
returns-then-not-is_call c = sym (no_call c.loop-done.done c.args.bytes.now (omega arith) (sym c.is_call.ensures ∙ c.if-not-is_call.true))

pub returns : goal.returns
returns c =
    let all : c.loop-done.done ≡ length c.args.bytes.now / 16 = omega arith in
    all_calls c.args.bytes.now (rw all at c.loop-done.invariant)
