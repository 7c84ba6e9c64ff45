-- `word_text::word_of` meets its contract: the digits lie within the text, and the blanks are counted in the text behind them.
-- Assumes nothing.
use Prim.Native.Nat.{◌≤◌}
use lib.ListN.{length}
use native.Mathlib.Omega.{arith}
use borrow.Author.Rules.{rules}
use Rattle.word.proofs.Branches.{branches}
use Rattle.word_text.specs.Text.{word_of}
use Rattle.word_text.proofs.Laws.{digits-within, a_word, no_word}
use Rattle.word_text.proofs.word_of.Goals as goal

pub returns-then-count-eq0 : goal.returns-then-count-eq0
unfolding word_of
returns-then-count-eq0 c = search (branches, ← c.digits-number.ensures.count)

pub slice_bounds-blanks-count : goal.slice_bounds-blanks-count
slice_bounds-blanks-count c = omega (arith, c.digits-number.ensures.count, digits-within 0 c.args.text.now)

pub slice_bounds-blanks-start : goal.slice_bounds-blanks-start
slice_bounds-blanks-start c = let h : c.digits-number.result.count ≤ length c.args.text.now = omega (arith, c.digits-number.ensures.count, digits-within 0 c.args.text.now) in
    search (rules, h)

pub overflow_sub-text : goal.overflow_sub-text
overflow_sub-text c = omega (arith, c.digits-number.ensures.count, digits-within 0 c.args.text.now)

pub returns-then-blanks-text : goal.returns-then-blanks-text
returns-then-blanks-text c = a_word _ c.digits-number.result.count _ _ c.digits-number.ensures.count c.digits-number.ensures.value c.if-count-eq0.false c.blanks.ensures c.if-blanks-text.true

pub returns : goal.returns
returns c = no_word _ c.digits-number.result.count _ c.digits-number.ensures.count c.if-count-eq0.false c.blanks.ensures c.if-blanks-text.false
