-- A module-wide call: what it answers and what it leaves (paper 01, "Receive", "Channel settings" and "Faults and status").
use Rattle.std.specs.Prelude.{ℕ, List, slice_set}
use Rattle.fifos.specs.Counts.{counted}
use Rattle.block.specs.Layout.{word}
use Rattle.channel_calls.specs.Answer.{Answer, Done, Value}
use Rattle.frame.specs.Layout.{stamp}
use Rattle.wide.specs.Rule.{ruled_all}
use Rattle.wide.specs.Effects.{wide_effect}
use Rattle.wide.specs.declared.calls.WideCall.{WideCall}
use Rattle.wide.specs.declared.calls.WideEffect.{WideEffect}
use Rattle.wide.specs.declared.calls.WideEffect.TheVariants.{Shows, Stores, Advances}

-- "0 done": what an accepted call answers, a read with the stored number
abbrev pub effect_answer : WideEffect → List ℕ → Answer
effect_answer (Shows i) m = Value (word m i)
effect_answer (Stores i v) m = Done
effect_answer (Advances n) m = Done

-- the memory with the call's word stored: "An advance by any 32-bit number is added and the counter rolls over."
abbrev pub effect_stored : WideEffect → List ℕ → List ℕ
effect_stored (Shows i) m = m
effect_stored (Stores i v) m = slice_set m i v
effect_stored (Advances n) m = slice_set m stamp (counted (word m stamp) n)

-- "Module-wide writes apply the rule to every channel"; a read changes nothing
abbrev pub effect_after : WideEffect → List ℕ → List ℕ
effect_after (Shows i) m = m
effect_after (Stores i v) m = ruled_all m (effect_stored (Stores i v) m)
effect_after (Advances n) m = ruled_all m (effect_stored (Advances n) m)

abbrev pub wide_answer : WideCall → List ℕ → Answer
wide_answer k m = effect_answer (wide_effect k) m

abbrev pub wide_stored : WideCall → List ℕ → List ℕ
wide_stored k m = effect_stored (wide_effect k) m

abbrev pub wide_after : WideCall → List ℕ → List ℕ
wide_after k m = effect_after (wide_effect k) m
