-- `little_endian::half_at` meets its contract: the number of its two bytes.
-- Assumes nothing.
use Rattle.std.proofs.Common.{arith}
use Rattle.little_endian.specs.LittleEndian.{half_at}
use Rattle.little_endian.proofs.half_at.Goals as goal

pub returns : goal.returns
unfolding half_at
returns c = omega (arith, c.into.ensures, c.from_le_bytes.ensures)
