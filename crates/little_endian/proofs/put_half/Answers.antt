-- `little_endian::put_half` meets its contract: its two bytes.
-- Assumes nothing.
use Rattle.std.proofs.Common.{◌+◌, refl, arith}
use Rattle.little_endian.specs.LittleEndian.{two}
use Rattle.little_endian.proofs.Stores.{stored}
use Rattle.little_endian.proofs.put_half.Goals as goal

pub returns : goal.returns
unfolding two
returns c = stored c.args.bytes.now _ (two c.args.x) c.args.at (c.args.at + 2) (omega arith) (omega arith) (rw (c.copy_from_slice.ensures.after, c.to_le_bytes.ensures) refl)
