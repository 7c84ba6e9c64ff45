-- `capture::writing::put_record` meets its contract: an arrival's bytes show no commands, an image's neither word nor stamp.
-- Assumes nothing.
use Rattle.std.proofs.Common.{ap, ne_eqb}
use Rattle.capture.specs.Format.{arrival}
use Rattle.capture.specs.Numbers.{kind_number}
use Rattle.capture.proofs.Known.{pictured}
use Rattle.capture.proofs.Put.{any_commands, any_values}
use Rattle.capture.proofs.writing.put_record.Goals as goal

pub put_arrival-requires : goal.put_arrival-requires
put_arrival-requires c = rw (ap kind_number c.in-Arrival.is) at c.requires.kind_in_bounds

pub returns-in-Arrival : goal.returns-in-Arrival
returns-in-Arrival c = let a = c.args in
    rw (any_commands (kind_number a.kind) a.channel a.word a.stamp a.commands.now (ap kind_number c.in-Arrival.is)) at c.put_arrival.ensures

pub put_image-requires : goal.put_image-requires
put_image-requires c = record {
  kind_in_bounds = c.requires.kind_in_bounds;
  commands_len = c.requires.commands_len;
  arrival_value = ne_eqb (kind_number c.args.kind) arrival (pictured c.args.kind c.in-OldImage.is);
}

pub returns-in-OldImage : goal.returns-in-OldImage
returns-in-OldImage c = let a = c.args in
    rw (any_values (kind_number a.kind) a.channel a.word a.stamp a.commands.now (pictured a.kind c.in-OldImage.is)) at c.put_image.ensures
