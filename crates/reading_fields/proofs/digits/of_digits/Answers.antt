-- `reading_fields::digits::of_digits` meets its contract: the code is the definition, and a number of digits is at most its field.
-- Assumes nothing.
use mathlib.Core.Path.{refl}
use mir.Facts.{Fits-le}
use Rattle.reading_fields.specs.Digits.{lower, of_digits}
use Rattle.reading_fields.proofs.Decimal.{digits_le}
use Rattle.reading_fields.proofs.digits.of_digits.Goals as goal

pub overflow_add-result-4 : goal.overflow_add-result-4
unfolding of_digits
overflow_add-result-4 c = Fits-le (digits_le lower c.args.field) c.ranges.field

pub returns : goal.returns
unfolding of_digits
returns c = refl
