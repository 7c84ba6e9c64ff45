-- `channel_groups::memory_calls::on_memory` meets its contract: each call from what its callee ensures; a refusal of 0 bounds the index and the address.
-- Assumes nothing.
use mathlib.Core.Path.{refl, ap}
use native.Mathlib.Omega.{arith}
use Rattle.block.proofs.Refusals.{neither}
use Rattle.schedule.specs.Codes.{last_message, last}
use Rattle.block.specs.Layout.{last_index}
use Rattle.channel_calls.proofs.Accepted.{not_above}
use Rattle.channel_calls.specs.Answer.{Value}
use Rattle.channel_groups.proofs.memory_calls.on_memory.Goals as goal

pub write-requires : goal.write-requires
write-requires c = let both = neither _ _ (rw c.in-WriteMatch.is at c.requires.1) in omega (arith, not_above last_index _ 3 both.0, not_above 1 _ 3 both.1)

pub read-requires : goal.read-requires
read-requires c = omega (arith, not_above last_index _ 3 (rw c.in-ReadMatch.is at c.requires.1))

pub write-requires-in-WriteSchedule : goal.write-requires-in-WriteSchedule
write-requires-in-WriteSchedule c = omega (arith, not_above last _ 3 (rw c.in-WriteSchedule.is at c.requires.1))

pub read-requires-in-ReadSchedule : goal.read-requires-in-ReadSchedule
read-requires-in-ReadSchedule c = omega (arith, not_above last _ 3 (rw c.in-ReadSchedule.is at c.requires.1))

pub write-requires-in-WriteMessage : goal.write-requires-in-WriteMessage
write-requires-in-WriteMessage c = omega (arith, not_above last_message _ 3 (rw c.in-WriteMessage.is at c.requires.1))

pub read-requires-in-ReadMessage : goal.read-requires-in-ReadMessage
read-requires-in-ReadMessage c = omega (arith, not_above last_message _ 3 (rw c.in-ReadMessage.is at c.requires.1))

pub returns-in-WriteMatch : goal.returns-in-WriteMatch
returns-in-WriteMatch c = rw c.in-WriteMatch.is (record { answer = refl; after = c.write.ensures })

pub returns-in-ReadMatch : goal.returns-in-ReadMatch
returns-in-ReadMatch c = rw c.in-ReadMatch.is (record { answer = ap Value c.read.ensures; after = refl })

pub returns-in-WriteSchedule : goal.returns-in-WriteSchedule
returns-in-WriteSchedule c = rw c.in-WriteSchedule.is (record { answer = refl; after = c.write-in-WriteSchedule.ensures })

pub returns-in-ReadSchedule : goal.returns-in-ReadSchedule
returns-in-ReadSchedule c = rw c.in-ReadSchedule.is (record { answer = ap Value c.read-in-ReadSchedule.ensures; after = refl })

pub returns-in-WriteMessage : goal.returns-in-WriteMessage
returns-in-WriteMessage c = rw c.in-WriteMessage.is (record { answer = refl; after = c.write-in-WriteMessage.ensures })

pub returns-in-ReadMessage : goal.returns-in-ReadMessage
returns-in-ReadMessage c = rw c.in-ReadMessage.is (record { answer = ap Value c.read-in-ReadMessage.ensures; after = refl })
