-- `capture::reading::look` meets its contract: the end, an offset past it, a refusal, or the record.
-- Assumes nothing.
use Rattle.std.proofs.Common.{◌≡◌, Err, sym, rules, arith}
use Rattle.word.proofs.Branches.{branches}
use Rattle.capture.specs.Read.{seen_at}
use Rattle.capture.proofs.Images.{past}
use Rattle.capture.proofs.Known.{some}
use Rattle.capture.proofs.reading.look.Goals as goal

pub returns-then-at-bytes : goal.returns-then-at-bytes
unfolding seen_at
returns-then-at-bytes c = search branches

pub returns-then-bytes-at : goal.returns-then-bytes-at
returns-then-bytes-at c = sym (past c.args.bytes.now c.args.cursor.offset (omega arith))

pub returns-in_err-kind : goal.returns-in_err-kind
unfolding seen_at
returns-in_err-kind c = let e : c.from_residual.result ≡ Err c.in_err-kind.field-0.0 = search rules in
    rw e (search (branches, some, ← c.in_err-kind.ensures.refusal))

pub returns : goal.returns
unfolding seen_at
returns c = search (branches, c.found_at.ensures, ← c.in_ok-kind.ensures.refusal)
