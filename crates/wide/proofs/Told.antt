-- Every answer to a module-wide call on a sound memory is what a history tells that keeps what the module part holds.
-- Assumes nothing.
use Rattle.std.proofs.Common.{ℕ, List, refl}
use Rattle.frame.specs.Refusals.{part_leasts, part_greatests}
use Rattle.channel_calls.specs.Answers.{answer_unless}
use Rattle.wide.specs.Refusals.{argument_refusal, wide_call_refusal}
use Rattle.wide.specs.OnModule.{wide_answer}
use Rattle.wide.specs.Part.{part_of, WideTold}
use Rattle.wide.specs.declared.calls.WideCall.{WideCall}
use Rattle.wide.specs.declared.calls.WideCall.TheVariants.{AdvanceStamp, ZeroStamp, ReadStamp, WriteResolution, ReadResolution, WriteThreshold, ReadThreshold}

pub wide_told : (k : WideCall) (m : List ℕ) → WideTold (part_of m) k (answer_unless (wide_call_refusal k) (wide_answer k m))
unfolding argument_refusal part_leasts part_greatests
wide_told (AdvanceStamp n) m = refl
wide_told ZeroStamp m = refl
wide_told ReadStamp m = refl
wide_told (WriteResolution x) m = refl
wide_told ReadResolution m = refl
wide_told (WriteThreshold x) m = refl
wide_told ReadThreshold m = refl
