-- What a bench card is judged by: "Given schedule, message RAM, async words with the step, from 1, before which each was written", "parity as
-- given" (paper 02, (xiii)).
use Rattle.std.specs.Prelude.{ℕ, ◌≤◌, List, length}
use Rattle.schedule.specs.Codes.{running, commands, messages}
use Rattle.schedule.specs.declared.Place.{Place}

-- the lent lists and the parity: 0 off, any other number on
pub record Bench : Type 0 where
  pub schedule : List ℕ
  pub messages : List ℕ
  pub parity : ℕ
  pub asyncs : List ℕ

abbrev pub bench : List ℕ → List ℕ → ℕ → List ℕ → Bench
bench schedule messages parity asyncs = record { schedule = schedule; messages = messages; parity = parity; asyncs = asyncs }

-- "The start is command 0, just triggered, no word sent before": and no async word waits
abbrev pub start : Place
start = record { state = running; address = 0; waiting = 0; word = 0; mark = 0 }

-- "from 1"
abbrev pub first_step : ℕ
first_step = 1

-- RAMs that are long enough: of a schedule and of messages
pub record RamsWhole (schedule ram : List ℕ) : Type 0 where
  pub schedule-words : commands ≤ length schedule
  pub ram-words : messages ≤ length ram
