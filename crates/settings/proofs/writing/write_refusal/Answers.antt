-- `settings::writing::write_refusal` meets its contract: each branch is a case of the definition.
-- Assumes nothing.
use Rattle.word.proofs.Branches.{branches}
use Rattle.settings.specs.Settings.{setting_refusal}
use Rattle.settings.proofs.writing.write_refusal.Goals as goal

pub returns-then-not-in_range : goal.returns-then-not-in_range
unfolding setting_refusal
returns-then-not-in_range c = search (branches, ← c.in_range.ensures, c.if-not-in_range.true)

pub returns-then-value-block : goal.returns-then-value-block
unfolding setting_refusal
returns-then-value-block c = search (branches, ← c.in_range.ensures, c.if-not-in_range.false)

pub returns : goal.returns
unfolding setting_refusal
returns c = search (branches, ← c.in_range.ensures, c.if-not-in_range.false)
