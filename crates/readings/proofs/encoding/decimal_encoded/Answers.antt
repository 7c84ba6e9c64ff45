-- `readings::encoding::decimal_encoded` meets its contract: each branch is a case of the definition.
-- Assumes nothing.
use Rattle.std.proofs.Common.{arith}
use Rattle.std.proofs.lemmas.Bool.Decides.{nat_tests}
use Rattle.std.proofs.lemmas.Int.{to_z-of_z}
use Rattle.readings.specs.Encoding.{decimal_encoded}
use Rattle.reading_fields.specs.Digits.{lower}
use Rattle.reading_fields.proofs.Decimal.{field_below}
use Rattle.readings.proofs.encoding.decimal_encoded.Goals as goal

pub returns-then-size-gt-GREATEST : goal.returns-then-size-gt-GREATEST
unfolding decimal_encoded
returns-then-size-gt-GREATEST c = grind (arith, nat_tests, to_z-of_z)

pub with_field-filled-requires : goal.with_field-filled-requires
unfolding decimal_encoded
with_field-filled-requires c = rw c.to_digits.ensures (field_below lower c.unsigned_abs-size.result (omega arith))

pub returns-then-is_minus : goal.returns-then-is_minus
unfolding decimal_encoded
returns-then-is_minus c = grind (arith, nat_tests, to_z-of_z)

pub returns : goal.returns
unfolding decimal_encoded
returns c = grind (arith, nat_tests, to_z-of_z)
