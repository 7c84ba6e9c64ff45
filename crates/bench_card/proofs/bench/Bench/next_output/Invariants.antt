-- `bench_card::bench::Bench::next_output` meets its contract: from each command on the next output is that of the start.
-- Assumes nothing.
use Rattle.std.proofs.Common.{◌≡◌, ◌+◌, ◌-◌, ◌≤◌}
use Rattle.schedule.specs.Codes.{commands, last}
use Rattle.bench_card.specs.Given.{given}
use Rattle.bench_card.specs.Run.{next_output}
use Rattle.bench_card.proofs.bench.Bench.next_output.Given as goal

abbrev pub invariant-loop : goal.invariant-loop
invariant-loop l = record {
  address : l.place.address ≤ last;
  steps : l.step ≡ l.fn.step + l.counter;
  same : next_output (given l.self) (commands - l.counter) l.step l.place ≡ next_output (given l.self) commands l.fn.step l.fn.place;
}
