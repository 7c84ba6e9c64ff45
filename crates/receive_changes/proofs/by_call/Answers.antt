-- `receive_changes::by_call` meets its contract: each case is one of the definition.
-- Assumes nothing.
use mathlib.Core.Path.{refl}
use Rattle.receive_changes.proofs.by_call.Goals as goal

pub returns-in-PowerUp : goal.returns-in-PowerUp
returns-in-PowerUp c = rw c.in-PowerUp.is refl

pub returns-in-Reset : goal.returns-in-Reset
returns-in-Reset c = rw c.in-Reset.is refl

pub returns-in-Wide : goal.returns-in-Wide
returns-in-Wide c = rw (c.in-Wide.is, c.left.ensures) refl

pub returns-in-On : goal.returns-in-On
returns-in-On c = rw (c.in-On.is, c.on_channel.ensures) refl
