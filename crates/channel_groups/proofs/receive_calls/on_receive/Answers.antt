-- `channel_groups::receive_calls::on_receive` meets its contract: each call from what its callee ensures.
-- Assumes nothing.
use native.Mathlib.Omega.{arith}
use mathlib.Core.Path.{refl, ap}
use Rattle.block.specs.Layout.{last_index}
use Rattle.channel_calls.proofs.Accepted.{not_above, not_below}
use Rattle.channel_groups.specs.Groups.{entry_answer}
use Rattle.channel_calls.specs.Answer.{Arrived}
use Rattle.channel_groups.proofs.receive_calls.on_receive.Goals as goal

pub read_fifo-entry-requires : goal.read_fifo-entry-requires
read_fifo-entry-requires c = (c.requires.0, not_below 1 _ 6 (rw c.in-ReadFifo.is at c.requires.1))

pub read_mailbox-entry-requires : goal.read_mailbox-entry-requires
read_mailbox-entry-requires c = (c.requires.0, omega (arith, not_above last_index _ 3 (rw c.in-ReadMailbox.is at c.requires.1)))

pub returns-in-Arrive : goal.returns-in-Arrive
returns-in-Arrive c = rw c.in-Arrive.is (record { answer = ap Arrived c.arrive-arrived.ensures.arrival; signal = c.arrive-arrived.ensures.signal; after = c.arrive-arrived.ensures.after })

pub returns-in-ReadFifo : goal.returns-in-ReadFifo
returns-in-ReadFifo c = rw c.in-ReadFifo.is (record { answer = ap entry_answer c.read_fifo-entry.ensures.entry; signal = refl; after = c.read_fifo-entry.ensures.after })

pub returns-in-ReadMailbox : goal.returns-in-ReadMailbox
returns-in-ReadMailbox c = rw c.in-ReadMailbox.is (record { answer = ap entry_answer c.read_mailbox-entry.ensures.entry; signal = refl; after = c.read_mailbox-entry.ensures.after })
