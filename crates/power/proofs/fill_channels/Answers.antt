-- `power::fill_channels` meets its contract: the blocks of the channels passed are filled, those of the others are zeros.
-- Assumes nothing.
use Prim.Native.Nat.{◌-◌}
use mathlib.Core.Path.{refl}
use borrow.Rule.Slice.PartMut.{put_mid}
use native.Mathlib.Omega.{arith}
use borrow.Author.Rules.{rules}
use Rattle.frame.specs.Layout.{module_words}
use Rattle.power.proofs.Filling.{zeroed, filled_next, filled_all}
use Rattle.power.proofs.fill_channels.Goals as goal

pub loop-channel-init : goal.loop-channel-init
loop-channel-init c = let a = c.args in
    (refl, (zeroed a.count _ a.mem.now c.fill.new.self (search rules) c.need-to.ensures (search rules)).zeros)

pub loop-channel-preserved : goal.loop-channel-preserved
loop-channel-preserved c = let a = c.args in
    let m = put_mid module_words (c.need-to.result - module_words) a.mem.now c.fill.new.self in
    (search rules, filled_next c.loop-channel.channel a.count m c.loop-channel.mem _ (search rules) (search rules) c.loop-channel.invariant.0 c.loop-channel.invariant.1 c.set_channel.ensures)

pub returns : goal.returns
returns c = let a = c.args in
    filled_all c.loop-channel.channel a.count a.mem.now _ _ (search rules)
    (zeroed a.count _ a.mem.now c.fill.new.self (search rules) c.need-to.ensures (search rules)) c.loop-channel.invariant.1
