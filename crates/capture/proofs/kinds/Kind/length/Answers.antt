-- `capture::kinds::Kind::length` meets its contract: each kind is a case of the definition.
-- Assumes nothing.
use Rattle.std.proofs.Common.{refl, inl, inr, arith}
use Rattle.capture.proofs.Sizes.{few}
use Rattle.capture.specs.Format.{length_of}
use Rattle.capture.specs.Numbers.{kind_number}
use Rattle.capture.proofs.kinds.Kind.length.Goals as goal

pub overflow_mul-result : goal.overflow_mul-result
overflow_mul-result c = omega (arith, few (kind_number c.args.self), c.commands.ensures)

pub overflow_add-result-in-OldImage : goal.overflow_add-result-in-OldImage
overflow_add-result-in-OldImage c = omega (arith, few (kind_number c.args.self), c.commands.ensures)

pub returns-in-Arrival : goal.returns-in-Arrival
unfolding length_of
returns-in-Arrival c = rw c.in-Arrival.is refl

pub returns-in-OldImage : goal.returns-in-OldImage
unfolding length_of
returns-in-OldImage c = rw c.commands.ensures (elim c.in-OldImage.is [ inl e ↦ rw e refl | inr e ↦ rw e refl ])
