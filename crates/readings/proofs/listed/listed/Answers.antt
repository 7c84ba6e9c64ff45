-- `readings::listed::listed` meets its contract: the list is tested first.
-- Assumes nothing.
use Rattle.std.proofs.Common.{arith}
use Rattle.std.proofs.lemmas.Bool.Decides.{nat_tests}
use Rattle.readings.specs.Listed.{listed}
use Rattle.readings.proofs.listed.listed.Goals as goal

pub returns-then-list_wrong : goal.returns-then-list_wrong
unfolding listed
returns-then-list_wrong c = grind (arith, nat_tests)

pub returns : goal.returns
unfolding listed
returns c = grind (arith, nat_tests)
