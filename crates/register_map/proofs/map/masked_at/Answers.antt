-- `register_map::map::masked_at` meets its contract: each branch is a case of the definition.
-- Assumes nothing.
use Rattle.word.proofs.Branches.{branches}
use Rattle.register_map.specs.Map.{masked_at}
use Rattle.register_map.proofs.map.masked_at.Goals as goal

pub returns-then-address-eq-TRIGGER : goal.returns-then-address-eq-TRIGGER
unfolding masked_at
returns-then-address-eq-TRIGGER c = search branches

pub returns-then-address-eq-PAUSE : goal.returns-then-address-eq-PAUSE
unfolding masked_at
returns-then-address-eq-PAUSE c = search branches

pub returns-then-address-eq-STOP : goal.returns-then-address-eq-STOP
unfolding masked_at
returns-then-address-eq-STOP c = search branches

pub returns : goal.returns
unfolding masked_at
returns c = search branches
