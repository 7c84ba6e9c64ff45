-- `wide::on_module::accept` meets its contract: a word is shown, or stored as `store` ensures.
-- Assumes nothing.
use Rattle.std.proofs.Common.{refl, arith}
use Rattle.wide.proofs.on_module.accept.Goals as goal

pub offset_bounds-mem-at : goal.offset_bounds-mem-at
offset_bounds-mem-at c = let p = rw c.in-Shows.is at c.requires.1 in omega arith

pub bounds-mem-at : goal.bounds-mem-at
bounds-mem-at c = let p = rw c.in-Shows.is at c.requires.1 in omega arith

pub store-requires : goal.store-requires
store-requires c = (c.requires.0, rw c.in-Stores.is at c.requires.1)

pub returns-in-Shows : goal.returns-in-Shows
returns-in-Shows c = rw c.in-Shows.is (record { answer = refl; after = refl })

pub returns-in-Stores : goal.returns-in-Stores
returns-in-Stores c = rw c.in-Stores.is (record { answer = refl; after = c.store.ensures })

pub returns-in-Advances : goal.returns-in-Advances
returns-in-Advances c = rw c.in-Advances.is (record { answer = refl; after = c.store-in-Advances.ensures })
