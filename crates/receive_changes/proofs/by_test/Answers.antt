-- `receive_changes::by_test` meets its contract: each case is one of the definition.
-- Assumes nothing.
use mathlib.Core.Path.{refl}
use Rattle.receive_changes.proofs.by_test.Goals as goal

pub returns-in-Sample : goal.returns-in-Sample
returns-in-Sample c = rw (c.in-Sample.is, c.left.ensures) refl

pub returns-in-ResetTest : goal.returns-in-ResetTest
returns-in-ResetTest c = rw (c.in-ResetTest.is, c.left-in-ResetTest.ensures) refl

pub returns-in-InitiateTest : goal.returns-in-InitiateTest
returns-in-InitiateTest c = rw c.in-InitiateTest.is refl
