-- `frame::refusals::is_part_sound` meets its contract: what is told so far is told of the words before the index.
-- Assumes nothing.
use Prim.Native.Nat.{◌≤◌, ◌-◌}
use mathlib.Core.Path.{◌≡◌}
use Rattle.block.specs.Ranges.{all_within}
use Rattle.frame.specs.Layout.{module_words}
use Rattle.frame.specs.Refusals.{part_leasts, part_greatests}
use Rattle.frame.proofs.refusals.is_part_sound.Given as goal

abbrev pub invariant-loop-at : goal.invariant-loop-at
invariant-loop-at l = (l.at ≤ module_words) × (l.sound ≡ all_within part_leasts part_greatests l.mem l.at)

abbrev pub decreases-loop-at : goal.decreases-loop-at
decreases-loop-at l = module_words - l.at
