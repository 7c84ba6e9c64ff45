-- `capture::reading::kind_at` meets its contract: the tests in their order; what has passed shows that the next field is there.
-- Assumes nothing.
use Rattle.std.proofs.Common.{◌≡◌, Err, sym, rules, arith}
use Rattle.word.proofs.Branches.{branches}
use Rattle.capture.specs.Read.{cut_of, refusal_at}
use Rattle.capture.proofs.Known.{some}
use Rattle.capture.proofs.Sizes.{covers}
use Rattle.capture.proofs.Sound.{of_kind}
use Rattle.capture.proofs.reading.kind_at.Goals as goal

pub returns-then-bytes-at-lt-HALF-clause-refusal : goal.returns-then-bytes-at-lt-HALF-clause-refusal
unfolding refusal_at
returns-then-bytes-at-lt-HALF-clause-refusal c = search branches

pub returns-then-bytes-at-clause-refusal : goal.returns-then-bytes-at-clause-refusal
unfolding refusal_at cut_of
returns-then-bytes-at-clause-refusal c = search (branches, ← c.half_at-long.ensures)

pub returns-then-long-lt-HALF-clause-refusal : goal.returns-then-long-lt-HALF-clause-refusal
unfolding refusal_at cut_of
returns-then-long-lt-HALF-clause-refusal c = search (branches, ← c.half_at-long.ensures)

pub returns-in_err-kind-clause-refusal : goal.returns-in_err-kind-clause-refusal
unfolding refusal_at cut_of
returns-in_err-kind-clause-refusal c = let e : c.from_residual.result ≡ Err c.in_err-kind.field-0.0 = search rules in
    rw e (search (branches, some, ← c.half_at-long.ensures, ← c.half_at.ensures, ← c.in_err-kind.ensures.refusal))

pub half_at-requires-2 : goal.half_at-requires-2
half_at-requires-2 c = let k = of_kind _ _ (sym c.in_ok-kind.ensures.refusal) in omega (arith, covers c.half_at.result)

pub returns-in_err-channel_refusal-clause-refusal : goal.returns-in_err-channel_refusal-clause-refusal
unfolding refusal_at cut_of
returns-in_err-channel_refusal-clause-refusal c =
    let e : c.from_residual-in_err-channel_refusal.result ≡ Err c.in_err-channel_refusal.field-0.0 = search rules in
    rw e
    (search (
      branches,
      some,
      ← c.half_at-long.ensures,
      ← c.half_at.ensures,
      ← c.in_ok-kind.ensures.refusal,
      ← c.half_at-2.ensures,
      ← c.in_err-channel_refusal.ensures,
    ))

pub returns-clause-refusal : goal.returns-clause-refusal
unfolding refusal_at cut_of
returns-clause-refusal c = search (
  branches,
  ← c.half_at-long.ensures,
  ← c.half_at.ensures,
  ← c.in_ok-kind.ensures.refusal,
  ← c.half_at-2.ensures,
  ← c.in_ok-channel_refusal.ensures,
)
