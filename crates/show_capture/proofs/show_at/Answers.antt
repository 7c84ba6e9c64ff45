-- An image fills no more than the lent words, and a record moves on.
use Rattle.std.proofs.Common.{◌≡◌, length, Ok, Some, length-take, rules, arith}
use Rattle.capture.specs.Numbers.{kind_number}
use Rattle.capture.proofs.Sizes.{few_lent}
use Rattle.show_capture.proofs.Moves.{moved}
use Rattle.show_capture.proofs.show_at.Goals as goal

pub slice_bounds-commands-end : goal.slice_bounds-commands-end
slice_bounds-commands-end g c = omega (arith, few_lent (kind_number c.in-Ok-Some.found.kind), c.lent.ensures, c.read-seen.auto.lent, c.requires)

pub slice_bounds-commands-end-in-Ok-Some : goal.slice_bounds-commands-end-in-Ok-Some
slice_bounds-commands-end-in-Ok-Some g c =
    simp length-take (omega (arith, few_lent (kind_number c.in-Ok-Some.found.kind), c.lent.ensures, c.read-seen.auto.lent, c.requires))

pub returns-in-Ok-Some : goal.returns-in-Ok-Some
returns-in-Ok-Some g c = let e : c.read-seen.result ≡ Ok (Some c.in-Ok-Some.found) = search rules in
    moved c.args.bytes.now c.args.at (length c.args.lent.now) c.in-Ok-Some.found (rw e at c.read-seen.ensures.answer)
