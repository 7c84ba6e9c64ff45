-- `wide::rule::rule_channel` meets its contract: the channel's block, from what the callees ensure.
-- Assumes nothing.
use Rattle.std.proofs.Common.{refl}
use Rattle.frame.proofs.Blocks.{part_is, put_is}
use Rattle.wide.specs.Rule.{ruled_channel}
use Rattle.wide.proofs.rule.rule_channel.Goals as goal

pub returns : goal.returns
unfolding ruled_channel
returns c = rw (put_is, c.rule_block.ensures, part_is, c.fault-before.ensures.value, c.fault-after.ensures.value) refl
