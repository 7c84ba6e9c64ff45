-- What is said of the samples, computed from the definitions.
-- Assumes nothing.
use mathlib.Core.Path.{refl}
use lib.Count.{ones_in}
use Rattle.word.specs.Word.{ones}
use Rattle.word.specs.Gap.{clamped}
use Rattle.word.specs.Parity.{odd_parity, as_sent}
use Rattle.schedule.specs.Output.{values}
use Rattle.schedule.specs.Schedule.{onward, message_step, gap_step, command_step, stepped, step_at}
use Rattle.bench_card.specs.Asyncs.{before}
use Rattle.bench_card.specs.Run.{outcome_at, next_output, dues}
use Rattle.bench_card.specs.Record.{recorded, same}
use Rattle.bench_card.specs.Verdict.{compared, verdict}
use Rattle.bench_card.specs.Samples.{samples, SaidOf, RefusedSo}

pub said_of : SaidOf samples
unfolding verdict recorded compared same dues next_output outcome_at before values step_at stepped command_step message_step gap_step onward clamped as_sent odd_parity ones ones_in
said_of = (refl, (refl, (refl, (refl, (refl, (refl, (refl, (refl, (refl, (refl, (refl, (refl, tt))))))))))))

pub refused_so : RefusedSo
unfolding verdict recorded
refused_so = (refl, refl, refl, refl, refl)
