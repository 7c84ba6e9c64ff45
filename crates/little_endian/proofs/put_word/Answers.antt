-- `little_endian::put_word` meets its contract: its four bytes.
-- Assumes nothing.
use Rattle.std.proofs.Common.{◌+◌, ◌∙◌, arith}
use Rattle.little_endian.specs.LittleEndian.{four}
use Rattle.little_endian.proofs.Stores.{stored}
use Rattle.little_endian.proofs.put_word.Goals as goal

pub returns : goal.returns
unfolding four
returns c = stored c.args.bytes.now _ (four c.args.x) c.args.at (c.args.at + 4) (omega arith) (omega arith) (c.copy_from_slice.ensures.after ∙ c.to_le_bytes.ensures)
