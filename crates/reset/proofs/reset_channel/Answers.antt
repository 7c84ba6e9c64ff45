-- `reset::reset_channel` meets its contract: the channel's block, from what `restart::reset` ensures of the part that is lent.
-- Assumes nothing.
use mathlib.Core.Path.{refl}
use Rattle.frame.proofs.Blocks.{part_is, put_is}
use Rattle.reset.proofs.reset_channel.Goals as goal

pub returns : goal.returns
returns c = rw (put_is, c.reset.ensures, part_is) refl
