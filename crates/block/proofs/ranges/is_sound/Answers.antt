-- `block::ranges::is_sound` meets its contract: in both loops, what is told so far is told of the words before the index.
-- Assumes nothing.
use mathlib.Core.Path.{refl, sym, ap₂, ◌∙◌}
use mathlib.Core.Bool.{true, false, ◌&&◌}
use native.Mathlib.Numerals.{add-one}
use native.Mathlib.Omega.{arith}
use Rattle.block.specs.Ranges.{all_within}
use Rattle.block.proofs.Sound.{decides}
use Rattle.block.proofs.ranges.is_sound.Goals as goal

pub loop-at-init : goal.loop-at-init
unfolding all_within
loop-at-init c = refl

pub loop-at-preserved : goal.loop-at-preserved
unfolding all_within
loop-at-preserved c = rw add-one (ap₂ ◌&&◌ c.loop-at.invariant c.in_range-sound.ensures)

pub loop-at-2-preserved : goal.loop-at-2-preserved
unfolding all_within
loop-at-2-preserved c = rw add-one (ap₂ ◌&&◌ c.loop-at-2.invariant c.in_range-sound-in-loop-at-2.ensures)

pub returns-then-sound : goal.returns-then-sound
returns-then-sound c = sym (decides _ _ true (omega arith) (sym c.if-sound.true ∙ c.loop-at-2.invariant))

pub returns-else-sound : goal.returns-else-sound
returns-else-sound c = c.if-sound.false ∙ sym (decides _ _ false (omega arith) (sym c.if-sound.false ∙ c.loop-at-2.invariant))
