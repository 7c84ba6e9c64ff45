-- `reading_fields::digits::to_digits` meets its contract: the code is the definition.
-- Assumes nothing.
use mathlib.Core.Path.{refl}
use Rattle.reading_fields.specs.Digits.{to_digits}
use Rattle.reading_fields.proofs.digits.to_digits.Goals as goal

pub returns : goal.returns
unfolding to_digits
returns c = refl
