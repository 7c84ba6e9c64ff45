-- `wide::on_module::store` meets its contract: the word, and then the rule on every channel, from what `rule_all` ensures.
-- Assumes nothing.
use Rattle.std.proofs.Common.{◌∙◌, length-set}
use Rattle.wide.proofs.Stored.{count_kept, stored_framed}
use Rattle.wide.proofs.on_module.store.Goals as goal

pub rule_all-requires : goal.rule_all-requires
rule_all-requires c = stored_framed c.args.mem.now c.args.at c.args.value c.requires.1.low c.requires.0

pub shape_of-mem : goal.shape_of-mem
shape_of-mem c = c.rule_all.auto.mem ∙ length-set c.args.mem.now c.args.at c.args.value

pub returns : goal.returns
returns c = rw (count_kept c.args.mem.now c.args.at c.args.value c.requires.1.low) at c.rule_all.ensures
