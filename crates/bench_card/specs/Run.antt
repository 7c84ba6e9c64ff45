-- What the rules give from trigger on: command after command, and of these the outputs (paper 02, (xiii)).
use Rattle.std.specs.Prelude.{ℕ, zero, suc, ◌+◌, Bool, true, false, cond, List, [], ◌∷◌, Option, None, Some, eqb}
use Rattle.schedule.specs.Codes.{running, commands}
use Rattle.schedule.specs.Schedule.{step_at}
use Rattle.schedule.specs.declared.Place.{Place}
use Rattle.schedule.specs.declared.Outcome.{Outcome}
use Rattle.schedule.specs.declared.Output.{Output}
use Rattle.schedule.specs.declared.Output.TheVariants.{Quiet, FifoWord, Message, Null, Async, Reserved, NullMessage}
use Rattle.bench_card.specs.Bench.{Bench}
use Rattle.bench_card.specs.Asyncs.{before}
use Rattle.bench_card.specs.declared.stepping.Next.{Next}

-- one command, the async writes for its step before it; every command is a step
unfoldable pub outcome_at : Bench → ℕ → Place → Outcome
outcome_at b step p = step_at b.schedule b.messages (before step b.asyncs p) b.parity

-- "commands that send nothing are not recorded"; a reserved command sends nothing, and a word of the FIFO is no output of a schedule
abbrev pub sends : Output → Bool
sends Quiet = false
sends (FifoWord word gap) = true
sends (Message word) = true
sends (Null time) = true
sends (Async word rest) = true
sends (Reserved address) = false
sends (NullMessage word) = true

-- an output, the place behind it and the step that then comes
abbrev pub next_of : Output → Place → ℕ → Option Next
next_of output p step = Some (record { output = output; place = p; step = step })

-- the next output, the place behind it and the step that then comes, within `left` commands: "Stepping ends .. when the schedule stops or
-- pauses, or after 512 commands in a row that sent nothing"
unfoldable pub next_output : Bench → ℕ → ℕ → Place → Option Next
next_output b zero step p = None
next_output b (suc left) step p =
    cond (eqb p.state running)
    (cond (sends (outcome_at b step p).output) (next_of (outcome_at b step p).output (outcome_at b step p).place (step + 1))
    (next_output b left (step + 1) (outcome_at b step p).place)) None

-- an output before those that follow it
abbrev pub followed : Option Next → (ℕ → Place → List Output) → List Output
followed None rest = []
followed (Some next) rest = next.output ∷ rest next.step next.place

-- the outputs that the rules give from a place on, `count` at most
unfoldable pub dues : Bench → ℕ → ℕ → Place → List Output
dues b zero step p = []
dues b (suc count) step p = followed (next_output b commands step p) (dues b count)
