-- `wide::refusals::effect_refusal` meets its contract: a read, a number in range and one outside are the cases of the definition.
-- Assumes nothing.
use Rattle.std.proofs.Common.{refl}
use Rattle.wide.specs.Refusals.{argument_refusal}
use Rattle.wide.proofs.refusals.effect_refusal.Goals as goal

pub returns-then-in_part : goal.returns-then-in_part
unfolding argument_refusal
returns-then-in_part c = rw (c.in-Stores.is, ← c.in_part.ensures, c.if-in_part.true) refl

pub returns-else-in_part : goal.returns-else-in_part
unfolding argument_refusal
returns-else-in_part c = rw (c.in-Stores.is, ← c.in_part.ensures, c.if-in_part.false) refl
