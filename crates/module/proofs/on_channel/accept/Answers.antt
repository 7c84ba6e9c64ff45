-- `module::on_channel::accept` meets its contract: the counter and the block, from what the callees ensure.
-- Assumes nothing.
use Rattle.module.proofs.Accepted.{put_length, lent, accepted_is}
use Rattle.module.proofs.on_channel.accept.Goals as goal

pub on_block-requires : goal.on_block-requires
on_block-requires c = let m = c.args.mem.now in
    let room = c.requires.0 in (
      rw (lent m c.args.channel room.low room.high) c.requires.1,
      rw (lent m c.args.channel room.low room.high) c.requires.2,
      c.fault-before.ensures.bound,
      c.fault-after.ensures.bound,
    )

pub shape_of-mem : goal.shape_of-mem
shape_of-mem c = let start = c.args in
    put_length start.mem.now c.on_block.new.block start.channel c.counter_after-next.result c.on_block.auto.block

pub returns : goal.returns
returns c = let both = accepted_is c.args.mem.now c.args.channel c.args.call _ _ _ c.requires.0.low c.requires.0.high
    c.counter_after-next.ensures c.fault-before.ensures.value c.fault-after.ensures.value _ _
    c.on_block.ensures.answer c.on_block.ensures.after in record { answer = both.0; after = both.1 }
