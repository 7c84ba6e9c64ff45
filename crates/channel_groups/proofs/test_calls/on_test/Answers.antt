-- `channel_groups::test_calls::on_test` meets its contract: each call from what its callee ensures.
-- Assumes nothing.
use Rattle.channel_groups.proofs.test_calls.on_test.Goals as goal

pub returns-in-InitiateTest : goal.returns-in-InitiateTest
returns-in-InitiateTest c = cc
