-- `transmit::step::scheduled` meets its contract, from the command's outcome.
-- Assumes nothing.
use Rattle.std.proofs.Common.{◌≡◌, ◌≤◌, List, refl, arith}
use Rattle.block.specs.Layout.{word, parity}
use Rattle.schedule.specs.declared.Outcome.{Outcome}
use Rattle.schedule.proofs.Laws.{step_signal_lem}
use Rattle.transmit.specs.Step.{place, command, message, scheduled_outcome}
use Rattle.transmit.proofs.step.scheduled.Goals as goal

-- a command signals once at most
signal_fits : (b : List _) (o : Outcome) → o ≡ scheduled_outcome b → o.signal ≤ 1
unfolding scheduled_outcome
signal_fits b o e = rw e (step_signal_lem (place b) (word b parity) (command b) (message b))

pub overflow_mul-signal : goal.overflow_mul-signal
overflow_mul-signal c = omega (arith, signal_fits _ _ c.command-outcome.ensures)

pub returns : goal.returns
returns c = rw c.command-outcome.ensures (record { output = refl; signal = refl; after = refl })
