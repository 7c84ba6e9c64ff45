-- `bench_card::bench::Bench::next_output` meets its contract: from each command on the next output is that of the start.
-- Assumes nothing.
use Rattle.std.proofs.Common.{◌≡◌, ◌+◌, ◌-◌, sym, ◌∙◌, arith}
use Rattle.schedule.specs.Codes.{commands}
use Rattle.bench_card.proofs.Commands.{outcome_address, next-ended, next_none, next-sent, next_quiet}
use Rattle.bench_card.proofs.bench.Bench.next_output.Goals as goal

pub returns-then-place-ne-RUNNING : goal.returns-then-place-ne-RUNNING
returns-then-place-ne-RUNNING c = sym (next-ended _ (commands - c.loop.counter) c.loop.step c.loop.place c.if-place-ne-RUNNING.true) ∙ c.loop.invariant.same

pub returns-then-sends : goal.returns-then-sends
returns-then-sends c = let e = c.outcome_at-outcome.ensures in
    rw e
    (sym (next-sent _ (commands - c.loop.counter) c.loop.step c.loop.place (omega arith) c.if-place-ne-RUNNING.false
    (rw e at (sym c.sends.ensures ∙ c.if-sends.true))) ∙ c.loop.invariant.same)

pub loop-preserved : goal.loop-preserved
loop-preserved c = let e = c.outcome_at-outcome.ensures in
    let one : commands - (c.loop.counter + 1) ≡ commands - c.loop.counter - 1 = omega arith in
    record {
      address = rw e (outcome_address _ c.loop.step c.loop.place c.loop.invariant.address);
      steps = omega arith;
      same = rw (e, one)
          (sym (next_quiet _ (commands - c.loop.counter) c.loop.step c.loop.place (omega arith) c.if-place-ne-RUNNING.false
          (rw e at (sym c.sends.ensures ∙ c.if-sends.false))) ∙ c.loop.invariant.same);
    }

pub returns : goal.returns
returns c = sym (next_none _ (commands - c.loop.counter) c.loop.step c.loop.place (omega arith)) ∙ c.loop.invariant.same
