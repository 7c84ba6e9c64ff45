-- `calls::answers::values_of` meets its contract: each reply is a case of the definition; a step's four numbers by their law.
-- Assumes nothing.
use mathlib.Core.Path.{refl}
use Rattle.calls.proofs.Listing.{stepped}
use Rattle.calls.proofs.answers.values_of.Goals as goal

pub returns-in-Done : goal.returns-in-Done
returns-in-Done c = rw c.in-Done.is (refl, refl)

pub returns-in-Value : goal.returns-in-Value
returns-in-Value c = rw c.in-Value.is (refl, refl)

pub returns-in-Waiting : goal.returns-in-Waiting
returns-in-Waiting c = rw c.in-Waiting.is (refl, refl)

pub returns-in-Fates : goal.returns-in-Fates
returns-in-Fates c = rw c.in-Fates.is (refl, refl)

pub returns-in-Arrived : goal.returns-in-Arrived
returns-in-Arrived c = rw (c.in-Arrived.is, c.outcome-what.ensures) (refl, refl)

pub returns-in-Entry : goal.returns-in-Entry
returns-in-Entry c = rw c.in-Entry.is (refl, refl)

pub returns-in-Stepped : goal.returns-in-Stepped
returns-in-Stepped c = rw c.in-Stepped.is (stepped c.in-Stepped.output c.values-v.result c.values-v.ensures)
