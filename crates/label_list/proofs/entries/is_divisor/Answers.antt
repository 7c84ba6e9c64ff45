-- `label_list::entries::is_divisor` meets its contract: a power of two has one bit that is one.
-- Assumes nothing.
use Rattle.std.proofs.Common.{arith}
use Rattle.std.proofs.lemmas.Bool.Decides.{nat_tests}
use Rattle.word.proofs.Laws.{ones-counted}
use Rattle.label_list.specs.Entries.{is_divisor}
use Rattle.label_list.proofs.entries.is_divisor.Goals as goal

pub returns-then-divisor-le-GREATEST_DIVISOR : goal.returns-then-divisor-le-GREATEST_DIVISOR
unfolding is_divisor
returns-then-divisor-le-GREATEST_DIVISOR c = grind (arith, nat_tests, ones-counted c.args.divisor c.ranges.divisor.fits)

pub returns-else-divisor-le-GREATEST_DIVISOR : goal.returns-else-divisor-le-GREATEST_DIVISOR
unfolding is_divisor
returns-else-divisor-le-GREATEST_DIVISOR c = grind (arith, nat_tests)
