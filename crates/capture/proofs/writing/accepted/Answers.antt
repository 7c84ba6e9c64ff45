-- `capture::writing::accepted` meets its contract: the tests in their order.
-- Assumes nothing.
use Rattle.std.proofs.Common.{◌≡◌, Err, rules, arith}
use Rattle.word.proofs.Branches.{branches}
use Rattle.capture.specs.Numbers.{kind_number}
use Rattle.capture.specs.Write.{room_refusal, write_refusal}
use Rattle.capture.proofs.Known.{some}
use Rattle.capture.proofs.Sizes.{not_long}
use Rattle.capture.proofs.writing.accepted.Goals as goal

pub returns-in_err-kind-clause-refusal : goal.returns-in_err-kind-clause-refusal
unfolding write_refusal
returns-in_err-kind-clause-refusal c = let e : c.from_residual.result ≡ Err c.in_err-kind.field-0.0 = search rules in
    rw (e, ← c.in_err-kind.ensures.refusal) (search (branches, some))

pub returns-in_err-channel_refusal-clause-refusal : goal.returns-in_err-channel_refusal-clause-refusal
unfolding write_refusal
returns-in_err-channel_refusal-clause-refusal c =
    let e : c.from_residual-in_err-channel_refusal.result ≡ Err c.in_err-channel_refusal.field-0.0 = search rules in
    rw (e, ← c.in_ok-kind.ensures.refusal, ← c.in_err-channel_refusal.ensures) (search (branches, some))

pub overflow_add-length : goal.overflow_add-length
overflow_add-length c = omega (arith, not_long (kind_number c.in_ok-kind.kind), c.length.ensures)

pub returns-then-room-length-clause-refusal : goal.returns-then-room-length-clause-refusal
unfolding write_refusal room_refusal
returns-then-room-length-clause-refusal c =
    rw (← c.in_ok-kind.ensures.refusal, ← c.in_ok-channel_refusal.ensures, ← c.in_ok-kind.ensures.kind, ← c.length.ensures) (search branches)

pub returns-clause-refusal : goal.returns-clause-refusal
unfolding write_refusal room_refusal
returns-clause-refusal c =
    rw (← c.in_ok-kind.ensures.refusal, ← c.in_ok-channel_refusal.ensures, ← c.in_ok-kind.ensures.kind, ← c.length.ensures) (search branches)
