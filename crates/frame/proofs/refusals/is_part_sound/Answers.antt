-- `frame::refusals::is_part_sound` meets its contract: what is told so far is told of the words before the index.
-- Assumes nothing.
use borrow.Author.Rules.{rules}
use mathlib.Core.Path.{◌≡◌, refl, ap₂}
use mathlib.Core.Bool.{◌&&◌}
use native.Mathlib.Numerals.{add-one}
use native.Mathlib.Omega.{arith}
use Rattle.block.specs.Ranges.{all_within}
use Rattle.frame.specs.Layout.{module_words}
use Rattle.frame.proofs.refusals.is_part_sound.Goals as goal

pub loop-at-init : goal.loop-at-init
unfolding all_within
loop-at-init c = (omega arith, refl)

pub loop-at-preserved : goal.loop-at-preserved
unfolding all_within
loop-at-preserved c = (search rules, rw add-one (ap₂ ◌&&◌ c.loop-at.invariant.1 c.in_part-sound.ensures))

pub returns : goal.returns
returns c = let e : c.loop-at.at ≡ module_words = omega arith in rw e at c.loop-at.invariant.1
