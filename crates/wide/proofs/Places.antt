-- Every module-wide call shows or stores a word of the module part behind the count.
-- Assumes nothing.
use Rattle.std.proofs.Common.{◌≡◌, arith}
use Rattle.wide.specs.Effects.{wide_effect, place_of, PartWord}
use Rattle.wide.specs.declared.calls.WideCall.{WideCall}
use Rattle.wide.specs.declared.calls.WideEffect.{WideEffect}
use Rattle.wide.specs.declared.calls.WideCall.TheVariants.{AdvanceStamp, ZeroStamp, ReadStamp, WriteResolution, ReadResolution, WriteThreshold, ReadThreshold}

pub part_word : (k : WideCall) → PartWord (place_of (wide_effect k))
part_word (AdvanceStamp n) = omega arith
part_word ZeroStamp = omega arith
part_word ReadStamp = omega arith
part_word (WriteResolution x) = omega arith
part_word ReadResolution = omega arith
part_word (WriteThreshold x) = omega arith
part_word ReadThreshold = omega arith

-- of an effect that was computed
pub placed : (e : WideEffect) (k : WideCall) → e ≡ wide_effect k → PartWord (place_of e)
placed e k is = rw is (part_word k)
