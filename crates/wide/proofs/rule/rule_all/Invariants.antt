-- `wide::rule::rule_all` meets its contract: the rule has run on the channels before the index.
-- Assumes nothing.
use Rattle.std.proofs.Common.{◌≡◌}
use Rattle.wide.specs.Rule.{ruled_to}
use Rattle.wide.proofs.rule.rule_all.Given as goal

abbrev pub invariant-loop-ruled : goal.invariant-loop-ruled
invariant-loop-ruled l = l.mem ≡ ruled_to l.old l.ruled l.initial.mem
