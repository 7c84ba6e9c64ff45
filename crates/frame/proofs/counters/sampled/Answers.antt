-- `frame::counters::sampled` meets its contract: each branch is a case of the definition.
-- Assumes nothing.
use native.Mathlib.Omega.{arith}
use borrow.Author.Tests.{eq-eqb}
use Rattle.word.proofs.Branches.{branches}
use Rattle.frame.specs.Counters.{sampled}
use borrow.Author.Rules.{rules}
use Rattle.frame.proofs.counters.sampled.Goals as goal

pub returns-then-counter-eq0 : goal.returns-then-counter-eq0
unfolding sampled
returns-then-counter-eq0 c = rw (eq-eqb _ 0 c.if-res-eq0.true) (omega arith)

pub overflow_sub-result : goal.overflow_sub-result
unfolding sampled
overflow_sub-result c = search rules

pub returns-then-res-eq0 : goal.returns-then-res-eq0
unfolding sampled
returns-then-res-eq0 c = search branches

pub overflow_sub-t-5 : goal.overflow_sub-t-5
unfolding sampled
overflow_sub-t-5 c = search rules

pub returns-then-counter : goal.returns-then-counter
unfolding sampled
returns-then-counter c = search branches

pub overflow_add-result : goal.overflow_add-result
unfolding sampled
overflow_add-result c = search rules

pub returns : goal.returns
unfolding sampled
returns c = search branches
