-- A call that nothing refuses, from its effect.
-- Assumes nothing.
use Rattle.std.proofs.Common.{◌≡◌, ℕ, List}
use Rattle.block.specs.Refusals.{leave_unless}
use Rattle.channel_calls.specs.Answers.{answer_unless}
use Rattle.channel_calls.specs.Answer.{Answer}
use Rattle.frame.specs.Refusals.{wide_refusal}
use Rattle.wide.specs.Effects.{wide_effect}
use Rattle.wide.specs.Refusals.{effect_refusal, call_refusal}
use Rattle.wide.specs.OnModule.{effect_answer, effect_after, wide_answer, wide_after}
use Rattle.wide.specs.declared.calls.WideCall.{WideCall}
use Rattle.wide.specs.declared.calls.WideEffect.{WideEffect}

pub accepted : (k : WideCall) (m : List ℕ) (e : WideEffect) (a : Answer) (m' : List ℕ) → e ≡ wide_effect k → wide_refusal m ≡ 0 → effect_refusal e ≡ 0
    → (a ≡ effect_answer e m) × (m' ≡ effect_after e m)
    → (a ≡ answer_unless (call_refusal k m) (wide_answer k m)) × (m' ≡ leave_unless (call_refusal k m) (wide_after k m) m)
unfolding call_refusal
accepted k m e a m' is memory argument done = rw (memory, ← is, argument) done
