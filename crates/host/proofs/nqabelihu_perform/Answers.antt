-- `host::nqabelihu_perform` meets its contract: the eight words of `perform_item`, the first as the result and the others as the values.
-- Assumes nothing.
use lib.ListN.{get_or, length-set}
use lib.Seq.{sets}
use mathlib.Core.Path.{refl, ap}
use native.Mathlib.Omega.{arith}
use borrow.Author.Tests.{lt-ltb, le-ltb}
use Rattle.host.specs.Host.{value_words, host_number, host_values, host_after}
use Rattle.host.proofs.nqabelihu_perform.Goals as goal

pub returns-then-values-lt-VALUES : goal.returns-then-values-lt-VALUES
unfolding host_number host_values host_after
returns-then-values-lt-VALUES c = rw (lt-ltb _ 7 c.if-values-lt-VALUES.true) (record { answer = refl; values = refl; after = refl })

pub returns : goal.returns
unfolding host_number host_values host_after
returns c = let t = le-ltb _ 7 c.if-values-lt-VALUES.false in
    let v = c.args.values.now in
    (record { answer = rw t (ap (λ w. get_or w 0 0) c.perform_item-answered.ensures.answer.1); values = rw t (ap (λ w. sets v 0 (value_words w)) c.perform_item-answered.ensures.answer.1); after = rw t c.perform_item-answered.ensures.after })

pub bounds-values-1 : goal.bounds-values-1
bounds-values-1 c = simp length-set (omega arith)

pub bounds-values-2 : goal.bounds-values-2
bounds-values-2 c = simp length-set (omega arith)

pub bounds-values-3 : goal.bounds-values-3
bounds-values-3 c = simp length-set (omega arith)

pub bounds-values-4 : goal.bounds-values-4
bounds-values-4 c = simp length-set (omega arith)

pub bounds-values-5 : goal.bounds-values-5
bounds-values-5 c = simp length-set (omega arith)

pub bounds-values-6 : goal.bounds-values-6
bounds-values-6 c = simp length-set (omega arith)

pub shape_of-values : goal.shape_of-values
shape_of-values c = simp length-set
