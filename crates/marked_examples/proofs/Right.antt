-- Every marked example is right, by computation.
-- Assumes nothing.
use mathlib.Core.Path.{refl}
use mathlib.Core.List.{flatten}
use Rattle.word.specs.Word.{ones, reversed}
use Rattle.word.specs.Parity.{odd_parity, as_sent, error_mark}
use Rattle.word.specs.Gap.{clamped}
use Rattle.status.specs.Status.{latch_bit, latched}
use Rattle.frame.specs.Counters.{sampled}
use Rattle.ring.specs.Ring.{words, held}
use Rattle.schedule.specs.Output.{values}
use Rattle.schedule.specs.Schedule.{onward, message_step, gap_step, command_step, stepped}
use Rattle.fifos.specs.Mailboxes.{unlisted}
use Rattle.arrival.specs.Arrival.{filtered, listed, arrival}
use Rattle.receive.specs.Arrived.{stored}
use Rattle.receive.specs.Entries.{stamp_of, entry_of, mailed}
use Rattle.transmit.specs.Step.{scheduled_outcome}
use Rattle.marked_examples.specs.Marked.{receiving, received, scheduling, marked, Right}

pub right : Right
unfolding Right marked sampled latch_bit latched receiving received scheduling scheduled_outcome flatten ones reversed odd_parity as_sent error_mark clamped words held values onward message_step gap_step command_step stepped filtered listed arrival unlisted stored stamp_of entry_of mailed
right = refl
