-- The lent parts of a card as lists.
use Rattle.bench_card.specs.Bench.{Bench, bench}
use Rattle.bench_card.specs.declared.bench.Bench as declared

abbrev pub given : declared.Bench → Bench
given b = bench b.schedule.now b.messages.now b.parity b.asyncs.now
