-- `power::power_up` meets its contract: each branch is a case of the definition.
-- Assumes nothing.
use Prim.Native.Nat.{◌≤◌, ◌<◌}
use lib.ListN.{length}
use Rattle.frame.specs.Layout.{need}
use Rattle.word.proofs.Branches.{branches}
use Rattle.power.specs.Power.{power_refusal}
use Rattle.power.proofs.Filling.{filled_whole}
use borrow.Author.Rules.{rules}
use Rattle.power.proofs.power_up.Goals as goal

pub returns-then-mem-need : goal.returns-then-mem-need
unfolding power_refusal
returns-then-mem-need c = let a = c.args in
    let h : length a.mem.now < need a.count = search rules in
    search branches

pub returns : goal.returns
unfolding power_refusal
returns c = let a = c.args in
    let h : need a.count ≤ length a.mem.now = search rules in
    search (branches, filled_whole a.count a.mem.now _ _ h c.fill_channels.ensures c.start_part.ensures)

pub returns-then-count-lt1 : goal.returns-then-count-lt1
unfolding power_refusal
returns-then-count-lt1 c = search branches

pub returns-then-count-gt-MOST : goal.returns-then-count-gt-MOST
unfolding power_refusal
returns-then-count-gt-MOST c = search branches

pub need-requires : goal.need-requires
unfolding power_refusal
need-requires c = search rules

pub fill_channels-requires : goal.fill_channels-requires
unfolding power_refusal
fill_channels-requires c = search rules

pub start_part-requires : goal.start_part-requires
unfolding power_refusal
start_part-requires c = search rules

pub shape_of-mem : goal.shape_of-mem
unfolding power_refusal
shape_of-mem c = search rules
