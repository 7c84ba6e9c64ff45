-- `word::fields::index_of` meets its contract: a low byte is below 256, so the sum fits.
-- Assumes nothing.
use native.Mathlib.Omega.{arith}
use Rattle.word.proofs.Parts.{low_byte_below}
use Rattle.word.proofs.fields.index_of.Goals as goal

pub overflow_add-result : goal.overflow_add-result
overflow_add-result c = omega (arith, c.low_byte.ensures, low_byte_below c.args.label)
