-- `bench_card::compared` meets its contract: what is said from the output at `number` on is what is said of the whole record.
-- Assumes nothing.
use Rattle.std.proofs.Common.{◌≡◌, length, length-append, sym, ap, ◌∙◌, arith}
use Rattle.schedule.specs.Codes.{commands}
use Rattle.bench_card.specs.Record.{numbers}
use Rattle.bench_card.proofs.Commands.{behind_address, behind_step}
use Rattle.bench_card.proofs.Records.{alike, values_length}
use Rattle.bench_card.proofs.Verdicts.{yes_at, nothing-at, differs_at, agrees_at}
use Rattle.bench_card.proofs.compared.Goals as goal

pub returns-in_default : goal.returns-in_default
returns-in_default c = let at = c.loop-recorded in
    let s = c.in-Some.ensures.steps in
    sym (nothing-at _ at.number at.step at.place _ _ _ _ at.invariant.size s.1.0 s.1.1 s.1.2 (sym c.next_output.ensures ∙ c.in_default.is)) ∙ at.invariant.said

pub returns-then-not-agrees : goal.returns-then-not-agrees
returns-then-not-agrees c = let at = c.loop-recorded in
    let s = c.in-Some.ensures.steps in
    let n = c.in-Some-next_output.next in
    sym (differs_at _ at.number at.step at.place _ _ _ _ at.invariant.size s.1.0 s.1.1 s.1.2 n.output n.place n.step
    (sym c.next_output.ensures ∙ c.in-Some-next_output.is) (sym c.agrees.ensures ∙ c.if-not-agrees.true)) ∙ at.invariant.said

pub loop-recorded-preserved : goal.loop-recorded-preserved
loop-recorded-preserved c = let at = c.loop-recorded in
    let s = c.in-Some.ensures.steps in
    let n = c.in-Some-next_output.next in
    let e = sym c.next_output.ensures ∙ c.in-Some-next_output.is in
    let same = sym c.agrees.ensures ∙ c.if-not-agrees.false in
    let whole : length c.in-Some.recorded.now ≡ numbers = ap length (alike _ _ same) ∙ values_length n.output in
    record {
      address = behind_address _ commands at.step at.place at.invariant.address n.output n.place n.step e;
      near = omega (arith, behind_step _ commands at.step at.place at.invariant.address n.output n.place n.step e, at.invariant.near);
      size = s.0 ∙ at.invariant.size;
      left = omega (arith, simp length-append at (ap length s.1.0), whole, at.invariant.left);
      said = sym (agrees_at _ at.number at.step at.place _ _ _ _ at.invariant.size s.1.0 s.1.1 s.1.2 n.output n.place n.step e same) ∙ at.invariant.said;
    }

pub returns : goal.returns
returns c = let at = c.loop-recorded in
    let s = c.in-None.ensures.steps in
    sym (yes_at _ at.number at.step at.place _ s.1.0) ∙ at.invariant.said
