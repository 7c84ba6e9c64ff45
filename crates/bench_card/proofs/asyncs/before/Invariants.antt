-- `bench_card::asyncs::before` meets its contract: the writes that are left give what the whole list gives.
-- Assumes nothing.
use Rattle.std.proofs.Common.{◌≡◌}
use Rattle.std.specs.Slice.Iter.{chunks_exact_rest, chunks_exact_size}
use Rattle.bench_card.specs.Asyncs.{before}
use Rattle.bench_card.proofs.asyncs.before.Given as goal

abbrev pub invariant-loop-write : goal.invariant-loop-write
invariant-loop-write l = record {
  pairs : chunks_exact_size l.write-iterator ≡ 2;
  same : before l.step (chunks_exact_rest l.write-iterator) l.place ≡ before l.step l.asyncs l.initial.place;
}
