-- `reasons::reason_for` meets its contract: the arrival followed behind the power-up has the reason of the definition.
-- Assumes nothing.
use Rattle.reasons.proofs.Reason.{found}
use borrow.Author.Rules.{rules}
use Rattle.reasons.proofs.reason_for.Goals as goal

pub returns : goal.returns
returns c = let both = found c.args.count c.args.bytes.now c.args.place c.args.mem.now c.requires.0 c.requires.1 _ c.channel_at-channel.result
    c.run.result _ c.reason_of.result c.power_up.ensures.after c.channel_at-channel.ensures c.run.ensures.answer c.run.ensures.after c.reason_of.ensures in record { answer = both.0; after = both.1 }
