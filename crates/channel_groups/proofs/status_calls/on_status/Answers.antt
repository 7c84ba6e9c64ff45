-- `channel_groups::status_calls::on_status` meets its contract: each call from what its callee ensures.
-- Assumes nothing.
use mathlib.Core.Path.{refl}
use Rattle.channel_groups.proofs.status_calls.on_status.Goals as goal

pub returns-in-ClearLatch : goal.returns-in-ClearLatch
returns-in-ClearLatch c = rw c.in-ClearLatch.is (record { answer = refl; after = c.clear_latch.ensures })

pub returns-in-WriteEnable : goal.returns-in-WriteEnable
returns-in-WriteEnable c = rw c.in-WriteEnable.is (record { answer = refl; after = refl })

pub returns-in-ReadEnable : goal.returns-in-ReadEnable
returns-in-ReadEnable c = rw c.in-ReadEnable.is (record { answer = refl; after = refl })

pub returns-in-WriteLevelMask : goal.returns-in-WriteLevelMask
returns-in-WriteLevelMask c = rw c.in-WriteLevelMask.is (record { answer = refl; after = refl })

pub returns-in-ReadLevelMask : goal.returns-in-ReadLevelMask
returns-in-ReadLevelMask c = rw c.in-ReadLevelMask.is (record { answer = refl; after = refl })
