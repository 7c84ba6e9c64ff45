-- `reset::reset_channels` meets its contract: the channels passed are reset, the others as they were.
-- Assumes nothing.
use mathlib.Core.Path.{refl, ◌∙◌}
use native.Mathlib.Numerals.{add-one}
use Rattle.frame.specs.Each.{each_to}
use Rattle.reset.proofs.reset_channels.Goals as goal

pub loop-channel-init : goal.loop-channel-init
unfolding each_to
loop-channel-init c = refl

pub loop-channel-preserved : goal.loop-channel-preserved
unfolding each_to
loop-channel-preserved c = c.reset_channel.ensures ∙ rw (add-one, c.loop-channel.invariant) refl
