-- `wide::rule::rule_block` meets its contract, from what `conditions` and `rule` ensure.
-- Assumes nothing.
use Rattle.wide.proofs.rule.rule_block.Goals as goal

pub returns : goal.returns
returns c = rw (← c.conditions-conditions.ensures.value) c.rule.ensures
