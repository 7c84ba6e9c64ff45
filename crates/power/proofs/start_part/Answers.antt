-- `power::start_part` meets its contract: the count and the layout number, and then the words between them.
-- Assumes nothing.
use mathlib.Core.Path.{◌∙◌}
use lib.ListN.{length-set, set}
use Rattle.frame.specs.Layout.{count, layout, layout_number}
use Rattle.power.proofs.Filling.{part_started}
use borrow.Author.Rules.{rules}
use Rattle.power.proofs.start_part.Goals as goal

pub shape_of-mem : goal.shape_of-mem
shape_of-mem c = let start = c.args in
    c.fill_part.auto.mem ∙ length-set (set start.mem.now count start.count) layout layout_number ∙ length-set start.mem.now count start.count

pub returns : goal.returns
returns c = let start = c.args in
    c.fill_part.ensures ∙ part_started start.mem.now start.count (search rules)

pub bounds-mem-16 : goal.bounds-mem-16
bounds-mem-16 c = simp length-set (search rules)

pub fill_part-requires : goal.fill_part-requires
fill_part-requires c = simp length-set (search rules)
