-- `frame::channels::are_sound` meets its contract: what is told so far is told of the channels up to the number tested.
-- Assumes nothing.
use mathlib.Core.Path.{◌≡◌}
use Rattle.frame.specs.Refusals.{sound_to}
use Rattle.frame.proofs.channels.are_sound.Given as goal

abbrev pub invariant-loop-tested : goal.invariant-loop-tested
invariant-loop-tested l = l.sound ≡ sound_to l.mem l.tested
