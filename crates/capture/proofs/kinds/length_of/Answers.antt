-- `capture::kinds::length_of` meets its contract: the kind's, or that of a number that no kind has.
-- Assumes nothing.
use Rattle.std.proofs.Common.{refl, ◌∙◌, ap}
use Rattle.capture.specs.Format.{length_of}
use Rattle.capture.proofs.Known.{no_kind}
use Rattle.capture.proofs.kinds.length_of.Goals as goal

pub returns-in-Ok : goal.returns-in-Ok
returns-in-Ok c = c.length.ensures ∙ ap length_of c.in-Ok.ensures

pub returns-in-Err : goal.returns-in-Err
unfolding length_of
returns-in-Err c = let n = no_kind c.args.kind c.in-Err.ensures.1 in rw (n.0, n.1) refl
