-- What a call answers (paper 01, "Memory and answer numbers"): a refusal with its number, or an accepted call's answer.
use Rattle.std.specs.Prelude.{ℕ, Result, Ok, Err}
use Rattle.arrival.specs.declared.Arrival.{Arrival}
use Rattle.schedule.specs.declared.Output.{Output}
use Rattle.block.specs.Refusals.{refusal_number}
use Rattle.block.specs.declared.refusal.Refusal.{Refusal}
use Rattle.channel_calls.specs.declared.calls.Reply.{Reply}
use Rattle.channel_calls.specs.declared.calls.Reply.TheVariants as reply

pub data Answer : Type 0 where
  -- "0 done"
  Done : Answer
  -- the refusal's number
  Refused : ℕ → Answer
  Value : ℕ → Answer
  -- the async mark, and the async word where one waits
  Waiting : ℕ → ℕ → Answer
  -- receive accepted, read, cleared, overwritten; transmit accepted, sent, cleared
  Fates : ℕ → ℕ → ℕ → ℕ → ℕ → ℕ → ℕ → Answer
  -- what became of an arrival
  Arrived : Arrival → Answer
  -- status, word and stamp
  Entry : ℕ → ℕ → ℕ → Answer
  -- what a step gave
  Stepped : Output → Answer

-- what an accepted call's reply answers
abbrev pub accepted : Reply → Answer
accepted reply.Done = Done
accepted (reply.Value x) = Value x
accepted (reply.Waiting m w) = Waiting m w
accepted (reply.Fates a r c o t s d) = Fates a r c o t s d
accepted (reply.Arrived a) = Arrived a
accepted (reply.Entry s w t) = Entry s w t
accepted (reply.Stepped o) = Stepped o

-- what a call answers, accepted or refused, by the number that stands for each refusal
abbrev pub answered_by : {E : Type 0} → (E → ℕ) → Result Reply E → Answer
answered_by number (Ok r) = accepted r
answered_by number (Err e) = Refused (number e)

-- the same, where the refusals are those of the table
abbrev pub answered : Result Reply Refusal → Answer
answered = answered_by refusal_number
