-- `power::set_channel` meets its contract: the channel's block, from what `reset_nonzero_settings` ensures of the part that is lent.
-- Assumes nothing.
use mathlib.Core.Path.{refl}
use Rattle.frame.proofs.Blocks.{part_is, put_is}
use Rattle.power.proofs.set_channel.Goals as goal

pub returns : goal.returns
returns c = rw (put_is, c.reset_nonzero_settings.ensures, part_is) refl
