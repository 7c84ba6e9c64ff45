-- `capture::reading::kind_of_length` meets its contract: each branch is a case of the definition.
-- Assumes nothing.
use Rattle.std.proofs.Common.{◌≡◌, Err, refl, rules, eq-eqb, ne_eqb}
use Rattle.capture.specs.Read.{kind_refusal}
use Rattle.capture.proofs.Known.{is_known}
use Rattle.capture.proofs.reading.kind_of_length.Goals as goal

pub returns-in_err-kind-clause-refusal : goal.returns-in_err-kind-clause-refusal
unfolding kind_refusal
returns-in_err-kind-clause-refusal c = let e : c.from_residual.result ≡ Err c.in_err-kind.field-0.0 = search rules in
    rw (e, c.in_err-kind.ensures.0, c.in_err-kind.ensures.1) refl

pub returns-then-long-length-clause-refusal : goal.returns-then-long-length-clause-refusal
unfolding kind_refusal
returns-then-long-length-clause-refusal c =
    rw (← c.in_ok-kind.ensures, is_known c.in_ok-kind.kind, ← c.length.ensures, eq-eqb c.args.long c.length.result c.if-long-length.true) refl

pub returns-else-long-length-clause-refusal : goal.returns-else-long-length-clause-refusal
unfolding kind_refusal
returns-else-long-length-clause-refusal c =
    rw (← c.in_ok-kind.ensures, is_known c.in_ok-kind.kind, ← c.length.ensures, ne_eqb c.args.long c.length.result c.if-long-length.false) refl
