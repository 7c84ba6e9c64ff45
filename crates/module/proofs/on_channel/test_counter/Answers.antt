-- `module::on_channel::test_counter` meets its contract: a sample's counter out of the twelve that pass as one array.
-- Assumes nothing.
use mathlib.Core.Path.{refl}
use Rattle.module.proofs.Sampled.{sampled_counter}
use Rattle.module.proofs.on_channel.test_counter.Goals as goal

pub returns-in-Sample : goal.returns-in-Sample
returns-in-Sample c = rw c.in-Sample.is (sampled_counter c.args.mem.now _ _ c.args.channel _ c.requires.part c.requires.low c.requires.high c.read.ensures c.sample-next.ensures)

pub returns-in-InitiateTest : goal.returns-in-InitiateTest
returns-in-InitiateTest c = rw c.in-InitiateTest.is refl
