-- `capture::kinds::Kind::lent` meets its contract: each kind is a case of the definition.
-- Assumes nothing.
use Rattle.std.proofs.Common.{refl, inl, inr}
use Rattle.capture.specs.Format.{commands_of, lent_of}
use Rattle.capture.proofs.kinds.Kind.lent.Goals as goal

pub returns-in-Arrival : goal.returns-in-Arrival
unfolding commands_of lent_of
returns-in-Arrival c = rw c.in-Arrival.is refl

pub returns-in-OldImage : goal.returns-in-OldImage
unfolding commands_of lent_of
returns-in-OldImage c = elim c.in-OldImage.is [ inl e ↦ rw e refl | inr e ↦ rw e refl ]
