-- `capture::writing::put_image` meets its contract: the head and the commands are the bytes of an image.
-- Assumes nothing.
use Rattle.std.proofs.Common.{arith}
use Rattle.capture.specs.Numbers.{kind_number}
use Rattle.capture.proofs.Put.{put_image}
use Rattle.capture.proofs.Sizes.{covers, not_long, image_is}
use Rattle.capture.proofs.writing.put_image.Goals as goal

pub overflow_cast-length : goal.overflow_cast-length
overflow_cast-length c = omega (arith, c.length.ensures, not_long (kind_number c.args.kind))

pub put_head-requires : goal.put_head-requires
put_head-requires c = omega (arith, covers (kind_number c.args.kind))

pub put_commands-requires : goal.put_commands-requires
put_commands-requires c = omega (arith, image_is (kind_number c.args.kind) c.requires.arrival_value)

pub returns : goal.returns
returns c = let a = c.args in
    put_image a.bytes.now _ _ a.commands.now a.at (kind_number a.kind) a.channel 0 0 c.requires.commands_len c.requires.arrival_value
    (rw (c.length.ensures, c.into.ensures) at c.put_head.ensures) c.put_commands.ensures
