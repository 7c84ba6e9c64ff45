-- A call signals at most one condition.
-- Assumes nothing.
use Prim.Native.Nat.{ℕ, ◌≤◌, zero-le}
use mathlib.Core.Bool.{Bool, true, false, cond}
use mathlib.Core.List.{List}
use native.Mathlib.Omega.{arith}
use lib.Dec.{eqb}
use Rattle.block.specs.Layout.{word, parity, transmitter, transmit_mode}
use Rattle.status.specs.Status.{interrupt_signal}
use Rattle.receive.proofs.Laws.{arrive_signal}
use Rattle.schedule.proofs.Laws.{step_signal_lem}
use Rattle.transmit.specs.Step.{place, command, message, scheduled_outcome, scheduled_signal, step_signal}
use Rattle.channel_groups.specs.Groups.{receive_signal, transmit_signal}
use Rattle.channel_groups.specs.Groups.{did_signal}
use Rattle.channel_calls.specs.declared.calls.ReceiveCall.{ReceiveCall}
use Rattle.channel_calls.specs.declared.calls.ReceiveCall.TheVariants.{Arrive, ReadFifo, ReadMailbox}
use Rattle.channel_calls.specs.declared.calls.TransmitCall.{TransmitCall}
use Rattle.channel_calls.specs.declared.calls.TransmitCall.TheVariants.{WriteFifo, WriteAsync, Trigger, Pause, Stop, Step}
use Rattle.channel_calls.specs.declared.calls.ChannelCall.{ChannelCall}
use Rattle.channel_calls.specs.declared.calls.ChannelCall.TheVariants.{Settings, Memories, Status, Tests, Reads, Receive, Transmit}

receive_le : (k : ReceiveCall) (b : List ℕ) → receive_signal k b ≤ interrupt_signal
receive_le (Arrive w) b = omega (arith, arrive_signal w b)
receive_le ReadFifo b = zero-le
receive_le (ReadMailbox i) b = zero-le

scheduled_le : (b : List ℕ) → scheduled_signal b ≤ interrupt_signal
unfolding scheduled_outcome
scheduled_le b = omega (arith, step_signal_lem (place b) (word b parity) (command b) (message b))

step_le : (b : List ℕ) → step_signal b ≤ interrupt_signal
unfolding step_signal
step_le b = go (eqb (word b transmitter) 0) (eqb (word b transmit_mode) 0) (eqb (word b transmit_mode) 1)
  where
    go : (r s t : Bool) → cond r 0 (cond s 0 (cond t 0 (scheduled_signal b))) ≤ interrupt_signal
    go true s t = zero-le
    go false true t = zero-le
    go false false true = zero-le
    go false false false = scheduled_le b

transmit_le : (k : TransmitCall) (b : List ℕ) → transmit_signal k b ≤ interrupt_signal
transmit_le (WriteFifo w) b = zero-le
transmit_le (WriteAsync w) b = zero-le
transmit_le Trigger b = zero-le
transmit_le Pause b = zero-le
transmit_le Stop b = zero-le
transmit_le Step b = step_le b

pub signal_le : (k : ChannelCall) (b : List ℕ) → did_signal k b ≤ interrupt_signal
signal_le (Settings k) b = zero-le
signal_le (Memories k) b = zero-le
signal_le (Status k) b = zero-le
signal_le (Tests k) b = zero-le
signal_le (Reads k) b = zero-le
signal_le (Receive k) b = receive_le k b
signal_le (Transmit k) b = transmit_le k b
