-- `reading_fields::digits::digit_above_9` meets its contract: each test is a digit of the definition.
-- Assumes nothing.
use Rattle.std.proofs.Common.{arith}
use Rattle.std.proofs.lemmas.Bool.Decides.{nat_tests}
use Rattle.reading_fields.specs.Digits.{digit_above9}
use Rattle.reading_fields.proofs.digits.digit_above_9.Goals as goal

pub returns-then-hundreds-gt9 : goal.returns-then-hundreds-gt9
unfolding digit_above9
returns-then-hundreds-gt9 c = grind (arith, nat_tests)

pub returns-else-hundreds-gt9 : goal.returns-else-hundreds-gt9
unfolding digit_above9
returns-else-hundreds-gt9 c = grind (arith, nat_tests)
