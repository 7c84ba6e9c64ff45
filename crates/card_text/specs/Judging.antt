-- The verdict on a card that was read from text.
use Rattle.std.specs.Prelude.{ℕ, List, take, drop, Option, None, Some, Result, Ok, Err, unwrap_or}
use Rattle.schedule.specs.Codes.{commands}
use Rattle.bench_card.specs.Bench.{bench}
use Rattle.bench_card.specs.Verdict.{verdict}
use Rattle.bench_card.specs.declared.Verdict.{Verdict}
use Rattle.bench_card.specs.declared.Refusal.{Refusal}
use Rattle.card_text.specs.declared.faults.Fault.{Fault}
use Rattle.card_text.specs.Gathered.{State, state_of, Text}
use Rattle.card_text.specs.declared.judging.CardError.{CardError}
use Rattle.card_text.specs.declared.judging.CardError.TheVariants.{WrongLine, Refused}

-- the first 512 words are the schedule RAM's, those behind them the message RAM's
abbrev pub judged_parts : List ℕ → ℕ → List ℕ → List ℕ → Result Verdict Refusal
judged_parts ram parity asyncs outputs = verdict (bench (take commands ram) (drop commands ram) parity asyncs) outputs

-- a card whose text was read to its end has its parity or a fault; any number but 0 is parity on
abbrev pub parity_on : ℕ
parity_on = 1

-- the numbers that the card counts
unfoldable pub judged : State → Result Verdict Refusal
judged s =
    judged_parts (take s.card.words s.words) (unwrap_or s.card.parity parity_on) (take s.card.asyncs s.asyncs) (take s.card.outputs s.outputs)

-- a verdict, or the refusal
abbrev pub said_of : Result Verdict Refusal → Result Verdict CardError
said_of (Ok v) = Ok v
said_of (Err refusal) = Err (Refused refusal)

-- the first wrong line, with its number, or what is said of the card
abbrev pub answered_by : Option Fault → Text → Result Verdict CardError
answered_by None t = said_of (judged (state_of t.progress.card t.words t.asyncs t.outputs))
answered_by (Some fault) t = Err (WrongLine fault t.progress.line)

unfoldable pub answered : Text → Result Verdict CardError
answered t = answered_by t.progress.card.fault t
