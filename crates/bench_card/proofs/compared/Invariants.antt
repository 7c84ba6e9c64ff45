-- `bench_card::compared` meets its contract: what is said from the output at `number` on is what is said of the whole record.
-- Assumes nothing.
use Rattle.std.proofs.Common.{◌≡◌, ◌+◌, ◌*◌, ◌≤◌, length}
use Rattle.std.specs.Slice.Iter.{chunks_rest, chunks_size}
use Rattle.schedule.specs.Codes.{commands, last}
use Rattle.bench_card.specs.Given.{given}
use Rattle.bench_card.specs.Record.{numbers, recorded}
use Rattle.bench_card.specs.Verdict.{verdict_on}
use Rattle.bench_card.proofs.Verdicts.{said_from}
use Rattle.bench_card.proofs.compared.Given as goal

-- each output takes at most so many steps as there are commands
abbrev pub invariant-loop-recorded : goal.invariant-loop-recorded
invariant-loop-recorded l = record {
  address : l.place.address ≤ last;
  near : l.step ≤ commands * l.number;
  size : chunks_size l.recorded-iterator ≡ numbers;
  left : numbers * l.number + length (chunks_rest l.recorded-iterator) ≤ length l.outputs + numbers;
  said : said_from (given l.bench) l.number l.step l.place (recorded (chunks_rest l.recorded-iterator)) ≡ verdict_on (given l.bench) (recorded l.outputs);
}
