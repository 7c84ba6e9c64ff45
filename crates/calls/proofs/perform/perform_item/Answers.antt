-- `calls::perform::perform_item` meets its contract: decode, perform and list, from what the callees ensure.
-- Assumes nothing.
use mathlib.Core.Path.{refl}
use Rattle.calls.proofs.perform.perform_item.Goals as goal

pub returns-in-None : goal.returns-in-None
returns-in-None c = rw (← c.in-None.ensures) (record { answer = (refl, refl); after = refl })

pub returns-in-Some : goal.returns-in-Some
returns-in-Some c = rw (← c.in-Some.ensures, ← c.perform-answer.ensures.answer) (record { answer = c.numbers_of.ensures; after = c.perform-answer.ensures.after })
