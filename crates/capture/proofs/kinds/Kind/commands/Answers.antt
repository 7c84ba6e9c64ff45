-- `capture::kinds::Kind::commands` meets its contract: each kind is a case of the definition.
-- Assumes nothing.
use Rattle.std.proofs.Common.{refl}
use Rattle.capture.specs.Format.{commands_of}
use Rattle.capture.proofs.kinds.Kind.commands.Goals as goal

pub returns-in-Arrival : goal.returns-in-Arrival
unfolding commands_of
returns-in-Arrival c = rw c.in-Arrival.is refl

pub returns-in-OldImage : goal.returns-in-OldImage
unfolding commands_of
returns-in-OldImage c = rw c.in-OldImage.is refl

pub returns-in-Image : goal.returns-in-Image
unfolding commands_of
returns-in-Image c = rw c.in-Image.is refl
