-- `calls::answers::numbers_of` meets its contract: a refusal's zeros and a reply's values by their laws.
-- Assumes nothing.
use Rattle.registers.specs.Access.{access_values}
use Rattle.calls.proofs.Listing.{refused, any_values}
use Rattle.calls.proofs.answers.numbers_of.Goals as goal

pub returns-in-Err : goal.returns-in-Err
returns-in-Err g c = rw (c.in-Err.is, c.number.ensures) (refused _ (access_values c.args.access) c.values.result (c.values.ensures.value, c.values.ensures.bound))

pub returns-in-Ok : goal.returns-in-Ok
returns-in-Ok g c = rw (c.in-Ok.is, ← any_values (access_values c.args.access) c.in-Ok.reply) c.values_of.ensures
