-- `frame::channels::is_channel_sound` meets its contract, from what `is_sound` ensures of the part that is lent.
-- Assumes nothing.
use Rattle.frame.proofs.Blocks.{part_is}
use Rattle.frame.proofs.channels.is_channel_sound.Goals as goal

pub returns : goal.returns
returns c = rw part_is at c.is_sound.ensures
