-- `reading_fields::bits::twos_complement` meets its contract: each branch is a case of the definition.
-- Assumes nothing.
use Rattle.std.proofs.Common.{arith}
use Rattle.std.proofs.lemmas.Int.{to_z-of_z, to_z_pos}
use Rattle.std.proofs.lemmas.Bool.Decides.{nat_tests}
use Rattle.reading_fields.specs.Bits.{twos_complement}
use Rattle.reading_fields.proofs.bits.twos_complement.Goals as goal

pub returns-then-field-lt-HALF : goal.returns-then-field-lt-HALF
unfolding twos_complement
returns-then-field-lt-HALF c = grind (arith, nat_tests, to_z_pos)

pub returns-else-field-lt-HALF : goal.returns-else-field-lt-HALF
unfolding twos_complement
returns-else-field-lt-HALF c = grind (arith, nat_tests, to_z-of_z)
