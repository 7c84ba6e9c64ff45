-- `console::list_all` meets its contract: the bytes from `byte` on give what the whole text gives.
use mathlib.Core.Path.{sym, ap, ◌∙◌}
use native.Mathlib.Omega.{arith}
use lib.ListN.{length, get_or}
use Rattle.text.proofs.Lengths.{length-after}
use Rattle.console.proofs.Texts.{listed_next, held_next, listed_end, held_end}
use Rattle.console.proofs.list_all.Goals as goal

pub loop-byte-preserved : goal.loop-byte-preserved
loop-byte-preserved c = (
  ap length c.list_byte-at.ensures.after ∙ length-after c.loop-byte.list c.loop-byte.at (get_or c.args.text.now c.loop-byte.byte-index 0)
      ∙ c.loop-byte.invariant.0,
  rw (c.list_byte-at.ensures.answer, c.list_byte-at.ensures.after, c.base.ensures)
      (sym (listed_next c.loop-byte.list c.loop-byte.at c.args.text.now c.loop-byte.byte-index c.loop-byte-test.true) ∙ c.loop-byte.invariant.1),
  rw (c.list_byte-at.ensures.answer, c.list_byte-at.ensures.after, c.base.ensures)
      (sym (held_next c.loop-byte.list c.loop-byte.at c.args.text.now c.loop-byte.byte-index c.loop-byte-test.true) ∙ c.loop-byte.invariant.2),
)

pub returns-clause-answer : goal.returns-clause-answer
returns-clause-answer c =
    sym (listed_end c.loop-byte.list c.loop-byte.at c.args.text.now c.loop-byte.byte-index (omega arith)) ∙ c.loop-byte.invariant.1

pub returns-clause-after : goal.returns-clause-after
returns-clause-after c =
    sym (held_end c.loop-byte.list c.loop-byte.at c.args.text.now c.loop-byte.byte-index (omega arith)) ∙ c.loop-byte.invariant.2
