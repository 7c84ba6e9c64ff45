-- `channel_groups::transmit_calls::on_transmit` meets its contract: each call from what its callee ensures.
-- Assumes nothing.
use native.Mathlib.Omega.{arith}
use mathlib.Core.Path.{ap}
use Rattle.ring.specs.Ring.{last_slot}
use Rattle.channel_calls.proofs.Accepted.{not_above}
use Rattle.channel_calls.specs.Answer.{Stepped}
use Rattle.channel_groups.proofs.transmit_calls.on_transmit.Goals as goal

pub write_fifo-requires : goal.write_fifo-requires
write_fifo-requires c = (c.requires.0, omega (arith, not_above last_slot _ 5 (rw c.in-WriteFifo.is at c.requires.1)))

pub returns-in-WriteFifo : goal.returns-in-WriteFifo
returns-in-WriteFifo c = rw c.in-WriteFifo.is (record { answer = c.done.ensures.answer; signal = c.done.ensures.signal; after = c.write_fifo.ensures })

pub returns-in-WriteAsync : goal.returns-in-WriteAsync
returns-in-WriteAsync c = rw c.in-WriteAsync.is (record { answer = c.done-in-WriteAsync.ensures.answer; signal = c.done-in-WriteAsync.ensures.signal; after = c.write_async.ensures })

pub returns-in-Trigger : goal.returns-in-Trigger
returns-in-Trigger c = rw c.in-Trigger.is (record { answer = c.done-in-Trigger.ensures.answer; signal = c.done-in-Trigger.ensures.signal; after = c.trigger.ensures })

pub returns-in-Pause : goal.returns-in-Pause
returns-in-Pause c = rw c.in-Pause.is (record { answer = c.done-in-Pause.ensures.answer; signal = c.done-in-Pause.ensures.signal; after = c.pause.ensures })

pub returns-in-Stop : goal.returns-in-Stop
returns-in-Stop c = rw c.in-Stop.is (record { answer = c.done-in-Stop.ensures.answer; signal = c.done-in-Stop.ensures.signal; after = c.stop.ensures })

pub returns-in-Step : goal.returns-in-Step
returns-in-Step c = rw c.in-Step.is (record { answer = ap Stepped c.step-stepped.ensures.output; signal = c.step-stepped.ensures.signal; after = c.step-stepped.ensures.after })
