-- `power::fill_part` meets its contract: its stores are the words of the module part between the count and the layout number.
-- Assumes nothing.
use native.Mathlib.Omega.{arith}
use lib.ListN.{length-set}
use Rattle.power.proofs.Filling.{part_stored}
use Rattle.power.proofs.fill_part.Goals as goal

pub returns : goal.returns
returns c = part_stored c.args.mem.now (omega arith)

pub bounds-mem-2 : goal.bounds-mem-2
bounds-mem-2 c = simp length-set (omega arith)

pub bounds-mem-3 : goal.bounds-mem-3
bounds-mem-3 c = simp length-set (omega arith)

pub bounds-mem-4 : goal.bounds-mem-4
bounds-mem-4 c = simp length-set (omega arith)

pub bounds-mem : goal.bounds-mem
bounds-mem c = simp length-set (omega arith)

pub bounds-mem-5 : goal.bounds-mem-5
bounds-mem-5 c = simp length-set (omega arith)

pub bounds-mem-6 : goal.bounds-mem-6
bounds-mem-6 c = simp length-set (omega arith)

pub bounds-mem-7 : goal.bounds-mem-7
bounds-mem-7 c = simp length-set (omega arith)

pub bounds-mem-8 : goal.bounds-mem-8
bounds-mem-8 c = simp length-set (omega arith)

pub bounds-mem-9 : goal.bounds-mem-9
bounds-mem-9 c = simp length-set (omega arith)

pub bounds-mem-10 : goal.bounds-mem-10
bounds-mem-10 c = simp length-set (omega arith)

pub bounds-mem-11 : goal.bounds-mem-11
bounds-mem-11 c = simp length-set (omega arith)

pub bounds-mem-12 : goal.bounds-mem-12
bounds-mem-12 c = simp length-set (omega arith)

pub bounds-mem-13 : goal.bounds-mem-13
bounds-mem-13 c = simp length-set (omega arith)

pub bounds-mem-14 : goal.bounds-mem-14
bounds-mem-14 c = simp length-set (omega arith)

pub shape_of-mem : goal.shape_of-mem
shape_of-mem c = simp length-set
