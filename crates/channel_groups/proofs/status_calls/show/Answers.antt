-- `channel_groups::status_calls::show` meets its contract: each call from what its callee ensures.
-- Assumes nothing.
use Rattle.channel_groups.proofs.status_calls.show.Goals as goal

pub returns-in-ReadStatus : goal.returns-in-ReadStatus
returns-in-ReadStatus g c = rw c.in-ReadStatus.is c.accepted.ensures

pub returns-in-ReadPending : goal.returns-in-ReadPending
returns-in-ReadPending g c = cc
