-- When a module-wide call is refused, and by which number (paper 01, "Memory and answer numbers").
use Rattle.std.specs.Prelude.{ℕ, cond, List}
use Rattle.block.specs.Ranges.{within}
use Rattle.block.specs.Refusals.{first}
use Rattle.frame.specs.Refusals.{part_leasts, part_greatests, wide_refusal}
use Rattle.wide.specs.Effects.{wide_effect}
use Rattle.wide.specs.declared.calls.WideCall.{WideCall}
use Rattle.wide.specs.declared.calls.WideEffect.{WideEffect}
use Rattle.wide.specs.declared.calls.WideEffect.TheVariants.{Shows, Stores, Advances}

-- "4 range: an argument outside its range below"; "Arguments have the same ranges" as the stored numbers: x for word i of the module part
unfoldable pub argument_refusal : ℕ → ℕ → ℕ
argument_refusal i x = cond (within part_leasts part_greatests i x) 0 4

-- a read has no argument; "An advance by any 32-bit number" is never refused for it
abbrev pub effect_refusal : WideEffect → ℕ
effect_refusal (Shows i) = 0
effect_refusal (Stores i v) = argument_refusal i v
effect_refusal (Advances n) = 0

abbrev pub wide_call_refusal : WideCall → ℕ
wide_call_refusal k = effect_refusal (wide_effect k)

-- "Tested in number order; the first that applies is given": the memory, then the call
unfoldable pub call_refusal : WideCall → List ℕ → ℕ
call_refusal k m = first (wide_refusal m) (wide_call_refusal k)
