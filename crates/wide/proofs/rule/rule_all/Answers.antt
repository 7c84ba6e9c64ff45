-- `wide::rule::rule_all` meets its contract: the rule has run on the channels before the index.
-- Assumes nothing.
use Rattle.std.proofs.Common.{◌≤◌, refl, ◌∙◌, add-one, arith}
use Rattle.block.specs.Layout.{word}
use Rattle.frame.specs.Layout.{count}
use Rattle.frame.specs.Each.{each_to}
use Rattle.frame.proofs.Each.{each_word, each_framed}
use Rattle.wide.proofs.Laws.{ruled_own}
use Rattle.wide.proofs.rule.rule_all.Goals as goal

pub loop-ruled-init : goal.loop-ruled-init
unfolding each_to
loop-ruled-init c = refl

pub rule_channel-requires : goal.rule_channel-requires
rule_channel-requires c = let h : c.loop-ruled.ruled ≤ word c.args.mem.now count = omega arith in
    (rw c.loop-ruled.invariant (each_framed (ruled_own _) _ c.requires _ h), omega arith, rw (c.loop-ruled.invariant, each_word (ruled_own _) _ c.requires _ count h (omega arith)) (omega arith))

pub loop-ruled-preserved : goal.loop-ruled-preserved
unfolding each_to
loop-ruled-preserved c = c.rule_channel.ensures ∙ rw (add-one, c.loop-ruled.invariant) refl
