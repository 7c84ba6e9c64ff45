-- `frame::channels::are_sound` meets its contract: what is told so far is told of the channels up to the number tested.
-- Assumes nothing.
use mathlib.Core.Path.{refl, ap₂}
use mathlib.Core.Bool.{◌&&◌}
use native.Mathlib.Numerals.{add-one}
use Rattle.frame.specs.Refusals.{sound_to}
use Rattle.frame.proofs.channels.are_sound.Goals as goal

pub loop-tested-init : goal.loop-tested-init
unfolding sound_to
loop-tested-init c = refl

pub loop-tested-preserved : goal.loop-tested-preserved
unfolding sound_to
loop-tested-preserved c = rw add-one (ap₂ ◌&&◌ c.loop-tested.invariant (rw add-one at c.is_channel_sound-sound.ensures))
