-- `ring::oldest` meets its contract: a position below 255 is its own slot, and the part copied is the words of that slot.
-- Assumes nothing.
use Rattle.std.proofs.Common.{arith, ◌+◌, ◌-◌, ◌*◌, ◌%◌, ◌≤◌, ◌≡◌, ℕ, length, take, drop, sym, ◌∙◌}
use native.Mathlib.Nat.{mod-eq_of_lt}
use Rattle.ring.specs.Ring.{oldest, of_width}
use Rattle.ring.proofs.Words.{words_part}
use Rattle.ring.proofs.Laws.{inside}
use Rattle.ring.proofs.oldest.Goals as goal

pub returns : goal.returns
returns g c =
    let n : ℕ = g.row.N in
    let s : ℕ = c.args.at + n * c.args.pos in
    let own : c.args.pos % 255 ≡ c.args.pos = mod-eq_of_lt (omega arith) in
    let i = inside (of_width n c.args.at) c.args.pos (omega arith) in
    let fits : s + n ≤ length c.args.block.now = (let j : s + n ≤ c.args.at + n * 255 = rw own at i in omega arith) in
    let part : s + n - s ≡ n = omega arith in
    let taken : take (s + n - s) (drop s c.args.block.now) ≡ oldest (of_width n c.args.at) c.args.block.now c.args.pos
    = rw (part, own) (sym (words_part c.args.block.now s n fits)) in
    c.copy_from_slice.ensures.after ∙ taken
