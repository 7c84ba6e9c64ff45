-- `block::ranges::is_sound` meets its contract: in both loops, what is told so far is told of the words before the index.
-- Assumes nothing.
use mathlib.Core.Path.{◌≡◌}
use Rattle.block.specs.Ranges.{leasts, greatests, all_within}
use Rattle.block.proofs.ranges.is_sound.Given as goal

abbrev pub invariant-loop-at : goal.invariant-loop-at
invariant-loop-at l = l.sound ≡ all_within leasts greatests l.block l.at

abbrev pub invariant-loop-at-2 : goal.invariant-loop-at-2
invariant-loop-at-2 l = l.sound ≡ all_within leasts greatests l.block l.at
