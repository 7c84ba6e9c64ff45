-- Every call on a module's memory: what it answers and what it leaves (paper 01).
use Rattle.std.specs.Prelude.{ℕ, List, length}
use Rattle.block.specs.Refusals.{leave_unless}
use Rattle.channel_calls.specs.Answers.{channel_values, answer_unless, numbers_of}
use Rattle.channel_calls.specs.Answer.{Answer, Done}
use Rattle.frame.specs.Refusals.{wide_refusal}
use Rattle.power.specs.Power.{power_refusal, power_after}
use Rattle.wide.specs.Refusals.{call_refusal}
use Rattle.wide.specs.Effects.{wide_effect, values_of}
use Rattle.wide.specs.OnModule.{wide_answer, wide_after}
use Rattle.wide.specs.declared.calls.WideCall.{WideCall}
use Rattle.reset.specs.Reset.{reset_after}
use Rattle.module.specs.OnChannel.{on_answer, on_after}
use Rattle.module.specs.declared.calls.Call.{Call}
use Rattle.module.specs.declared.calls.Call.TheVariants.{PowerUp, Reset, Wide, On}

-- the answer of a call on a memory
abbrev pub answer : Call → List ℕ → Answer
answer (PowerUp k) m = answer_unless (power_refusal k (length m)) Done
answer Reset m = answer_unless (wide_refusal m) Done
answer (Wide k) m = answer_unless (call_refusal k m) (wide_answer k m)
answer (On ch k) m = on_answer ch k m

-- the memory after a call
abbrev pub after : Call → List ℕ → List ℕ
after (PowerUp k) m = power_after k m
after Reset m = reset_after m
after (Wide k) m = leave_unless (call_refusal k m) (wide_after k m) m
after (On ch k) m = on_after ch k m

-- how many values a call answers beside the number
abbrev pub wide_values : WideCall → ℕ
wide_values k = values_of (wide_effect k)

abbrev pub values : Call → ℕ
values (PowerUp k) = 0
values Reset = 0
values (Wide k) = wide_values k
values (On ch k) = channel_values k

-- the paper's number and values of an answer: "A refusal .. every other result is 0"
abbrev pub numbers : Call → Answer → List ℕ
numbers c a = numbers_of (values c) a
