-- `word_text::hex_word` meets its contract: the blanks lie within the line.
-- Assumes nothing.
use Prim.Native.Nat.{◌≤◌}
use lib.ListN.{length}
use native.Mathlib.Omega.{arith}
use borrow.Author.Rules.{rules}
use Rattle.word.proofs.Branches.{branches}
use Rattle.word_text.specs.Text.{hex_word}
use Rattle.word_text.proofs.Laws.{blanks-within, some_text}
use Rattle.word_text.proofs.hex_word.Goals as goal

pub returns-then-skipped-line : goal.returns-then-skipped-line
unfolding hex_word
returns-then-skipped-line c = search (branches, ← c.blanks-skipped.ensures)

pub slice_bounds-behind_blanks-count : goal.slice_bounds-behind_blanks-count
slice_bounds-behind_blanks-count c = omega (arith, c.blanks-skipped.ensures, blanks-within c.args.line.now)

pub slice_bounds-behind_blanks-start : goal.slice_bounds-behind_blanks-start
slice_bounds-behind_blanks-start c = let h : c.blanks-skipped.result ≤ length c.args.line.now = omega (arith, c.blanks-skipped.ensures, blanks-within c.args.line.now) in
    search (rules, h)

pub returns : goal.returns
returns c = some_text _ c.blanks-skipped.result _ c.blanks-skipped.ensures c.if-skipped-line.false c.behind_blanks.ensures
