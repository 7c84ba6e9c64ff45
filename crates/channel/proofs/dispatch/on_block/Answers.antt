-- `channel::dispatch::on_block` meets its contract: the call, the rule and what is shown, from what its callees ensure.
-- Assumes nothing.
use native.Mathlib.Omega.{arith}
use Rattle.channel.proofs.Signals.{signal_le}
use Rattle.channel.proofs.Performed.{performed}
use Rattle.channel.proofs.dispatch.on_block.Goals as goal

pub overflow_add-holds : goal.overflow_add-holds
overflow_add-holds c = omega (arith, c.act-did.ensures.signal, signal_le c.args.call c.args.block.now)

pub returns : goal.returns
returns c = let both = performed c.args.given c.args.call _ _ _ _ _ _ _ _ c.holding-before.ensures.value c.act-did.ensures.answer c.act-did.ensures.signal
    c.act-did.ensures.after c.holding.ensures.value c.rule.ensures c.show.ensures in record { answer = both.0; after = both.1 }
