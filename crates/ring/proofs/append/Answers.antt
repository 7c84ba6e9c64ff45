-- `ring::append` meets its contract: the part copied over is the stores of `appended`.
-- Assumes nothing.
use Rattle.std.proofs.Common.{arith, ◌+◌, ◌-◌, ◌≤◌, ◌≡◌, ℕ, length, length-take, length-drop, take, drop}
use Rattle.ring.specs.Ring.{slot, of_width}
use Rattle.ring.proofs.Words.{copied}
use Rattle.ring.proofs.Laws.{inside}
use Rattle.ring.proofs.append.Goals as goal

pub returns : goal.returns
returns g c =
    let n : ℕ = g.row.N in
    let s : ℕ = slot (of_width n c.args.at) (c.args.pos + c.args.level) in
    let fits : s + n ≤ length c.args.block.now = let i = inside (of_width n c.args.at) (c.args.pos + c.args.level) (omega arith) in omega arith in
    let part : length (take (s + n - s) (drop s c.args.block.now)) ≡ n = rw (length-take, length-drop) (omega arith) in
    copied c.args.block.now c.args.entry c.copy_from_slice.new.self s _ c.copy_from_slice.ensures.after (omega arith) (omega arith)
