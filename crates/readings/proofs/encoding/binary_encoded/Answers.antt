-- `readings::encoding::binary_encoded` meets its contract: each branch is a case of the definition.
-- Assumes nothing.
use Rattle.std.proofs.Common.{arith}
use Rattle.std.proofs.lemmas.Bool.Decides.{nat_tests}
use Rattle.std.proofs.lemmas.Int.{to_z-of_z}
use Rattle.readings.specs.Encoding.{binary_encoded}
use Rattle.readings.proofs.encoding.binary_encoded.Goals as goal

pub returns-then-magnitude-ge-HALF : goal.returns-then-magnitude-ge-HALF
unfolding binary_encoded
returns-then-magnitude-ge-HALF c = grind (arith, nat_tests, to_z-of_z)

pub returns-then-is_minus : goal.returns-then-is_minus
unfolding binary_encoded
returns-then-is_minus c = grind (arith, nat_tests, to_z-of_z)

pub returns : goal.returns
unfolding binary_encoded
returns c = grind (arith, nat_tests, to_z-of_z)
