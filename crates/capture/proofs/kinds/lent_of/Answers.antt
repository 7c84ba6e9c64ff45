-- `capture::kinds::lent_of` meets its contract: the kind's, or that of a number that no kind has.
-- Assumes nothing.
use Rattle.std.proofs.Common.{refl, ◌∙◌, ap}
use Rattle.capture.specs.Format.{lent_of}
use Rattle.capture.proofs.Known.{no_kind}
use Rattle.capture.proofs.kinds.lent_of.Goals as goal

pub returns-in-Ok : goal.returns-in-Ok
returns-in-Ok c = c.lent.ensures ∙ ap lent_of c.in-Ok.ensures

pub returns-in-Err : goal.returns-in-Err
unfolding lent_of
returns-in-Err c = let n = no_kind c.args.kind c.in-Err.ensures.1 in rw (n.1) refl
