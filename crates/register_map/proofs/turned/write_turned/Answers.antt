-- `register_map::turned::write_turned` meets its contract: each branch is a case of the definition.
-- Assumes nothing.
use Rattle.word.proofs.Branches.{branches}
use Rattle.register_map.specs.Turned.{write_turned}
use Rattle.register_map.proofs.turned.write_turned.Goals as goal

pub returns-then-address-ne0 : goal.returns-then-address-ne0
unfolding write_turned
returns-then-address-ne0 c = search branches

pub returns-in-Some : goal.returns-in-Some
unfolding write_turned
returns-in-Some c = search (branches, c.write_of.ensures, ← c.in-Some.ensures)

pub returns-in-None : goal.returns-in-None
unfolding write_turned
returns-in-None c = search (branches, ← c.in-None.ensures)
