-- `little_endian::word_at` meets its contract: the word of its four bytes.
-- Assumes nothing.
use Rattle.std.proofs.Common.{arith}
use Rattle.little_endian.specs.LittleEndian.{word_at}
use Rattle.little_endian.proofs.word_at.Goals as goal

pub returns : goal.returns
unfolding word_at
returns c = omega (arith, c.from_le_bytes.ensures)
