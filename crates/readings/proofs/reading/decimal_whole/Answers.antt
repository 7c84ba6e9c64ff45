-- `readings::reading::decimal_whole` meets its contract: each branch is a case of the definition.
-- Assumes nothing.
use Rattle.std.proofs.Common.{arith}
use Rattle.std.proofs.lemmas.Bool.Decides.{nat_tests}
use Rattle.std.proofs.lemmas.Int.{to_z-of_z}
use Rattle.reading_fields.specs.Digits.{lower}
use Rattle.reading_fields.proofs.Decimal.{digits_le}
use Rattle.readings.specs.Reading.{decimal_whole}
use Rattle.readings.proofs.reading.decimal_whole.Goals as goal

pub returns-in_default : goal.returns-in_default
unfolding decimal_whole
returns-in_default c = grind (arith, nat_tests)

pub returns-then-digit_above_9 : goal.returns-then-digit_above_9
unfolding decimal_whole
returns-then-digit_above_9 c = grind (arith, nat_tests, to_z-of_z)

pub joined-requires : goal.joined-requires
unfolding decimal_whole
joined-requires c = omega (arith, digits_le lower c.field-field.result)

pub returns : goal.returns
unfolding decimal_whole
returns c = grind (arith, nat_tests, to_z-of_z)
