-- `readings::reading::shown` meets its contract: each kind is a case of the definition.
-- Assumes nothing.
use Rattle.std.proofs.Common.{arith}
use Rattle.std.proofs.lemmas.Bool.Decides.{nat_tests}
use Rattle.std.proofs.lemmas.Int.{to_z-of_z}
use Rattle.label_list.specs.declared.kinds.Kind.TheVariants.{Binary, Decimal}
use Rattle.readings.specs.Reading.{shown}
use Rattle.readings.proofs.reading.shown.Goals as goal

pub returns-in-Ok-Binary : goal.returns-in-Ok-Binary
unfolding shown
returns-in-Ok-Binary c = grind (arith, nat_tests, to_z-of_z)

pub returns-in-Ok-Decimal : goal.returns-in-Ok-Decimal
unfolding shown
returns-in-Ok-Decimal c = grind (arith, nat_tests, to_z-of_z)

pub returns-in-Ok-BitField : goal.returns-in-Ok-BitField
unfolding shown
returns-in-Ok-BitField c = grind (arith, nat_tests, to_z-of_z)

pub returns-in-Err : goal.returns-in-Err
unfolding shown
returns-in-Err c = grind (arith, nat_tests, c.in-Err.ensures Binary, c.in-Err.ensures Decimal)
