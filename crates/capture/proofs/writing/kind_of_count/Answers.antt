-- `capture::writing::kind_of_count` meets its contract: each branch is a case of the definition.
-- Assumes nothing.
use Rattle.std.proofs.Common.{◌≡◌, Err, refl, rules, eq-eqb, ne_eqb}
use Rattle.capture.specs.Write.{count_refusal}
use Rattle.capture.proofs.Known.{is_known}
use Rattle.capture.proofs.writing.kind_of_count.Goals as goal

pub returns-in_err-kind-clause-refusal : goal.returns-in_err-kind-clause-refusal
unfolding count_refusal
returns-in_err-kind-clause-refusal c = let e : c.from_residual.result ≡ Err c.in_err-kind.field-0.0 = search rules in
    rw (e, c.in_err-kind.ensures.0, c.in_err-kind.ensures.1) refl

pub returns-then-count-commands-clause-refusal : goal.returns-then-count-commands-clause-refusal
unfolding count_refusal
returns-then-count-commands-clause-refusal c =
    rw (← c.in_ok-kind.ensures, is_known c.in_ok-kind.kind, ← c.commands.ensures, eq-eqb c.args.count c.commands.result c.if-count-commands.true) refl

pub returns-else-count-commands-clause-refusal : goal.returns-else-count-commands-clause-refusal
unfolding count_refusal
returns-else-count-commands-clause-refusal c =
    rw (← c.in_ok-kind.ensures, is_known c.in_ok-kind.kind, ← c.commands.ensures, ne_eqb c.args.count c.commands.result c.if-count-commands.false) refl
