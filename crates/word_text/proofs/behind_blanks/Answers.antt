-- `word_text::behind_blanks` meets its contract: the prefix lies within the text.
-- Assumes nothing.
use Prim.Native.Nat.{◌≤◌}
use lib.ListN.{length}
use native.Mathlib.Omega.{arith}
use borrow.Author.Rules.{rules}
use Rattle.word_text.proofs.Laws.{prefix-within, prefixed}
use Rattle.word_text.proofs.behind_blanks.Goals as goal

pub slice_bounds-word_of-count : goal.slice_bounds-word_of-count
slice_bounds-word_of-count c = omega (arith, c.prefix-skipped.ensures, prefix-within c.args.text.now)

pub slice_bounds-word_of-start : goal.slice_bounds-word_of-start
slice_bounds-word_of-start c = let h : c.prefix-skipped.result ≤ length c.args.text.now = omega (arith, c.prefix-skipped.ensures, prefix-within c.args.text.now) in
    search (rules, h)

pub returns : goal.returns
returns c = prefixed _ c.prefix-skipped.result _ c.prefix-skipped.ensures c.word_of.ensures
