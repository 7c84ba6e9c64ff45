-- `bench_card::asyncs::before` meets its contract: the writes that are left give what the whole list gives.
-- Assumes nothing.
use Rattle.std.proofs.Common.{sym, ◌∙◌, arith}
use Rattle.bench_card.proofs.Writes.{before_more, before_end}
use Rattle.bench_card.proofs.asyncs.before.Goals as goal

pub loop-write-preserved : goal.loop-write-preserved
loop-write-preserved c = let s = c.in-Some.ensures.steps in record {
  pairs = s.0 ∙ c.loop-write.invariant.pairs;
  same = rw c.written_for-place.ensures
      (sym (before_more c.args.step _ _ _ c.loop-write.place s.1.0 (s.1.1 ∙ c.loop-write.invariant.pairs)) ∙ c.loop-write.invariant.same);
}

pub returns : goal.returns
returns c = let s = c.in-None.ensures.steps in sym (before_end c.args.step _ c.loop-write.place (omega (arith, s.1.0, c.loop-write.invariant.pairs))) ∙ c.loop-write.invariant.same
