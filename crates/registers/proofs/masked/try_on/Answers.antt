-- `registers::masked::try_on` meets its contract: not named, done, or refused.
-- Assumes nothing.
use Prim.Native.Nat.{◌^◌, ◌-◌}
use mathlib.Core.Path.{sym, ap, ◌∙◌}
use mathlib.Core.Bool.{Bool, cond}
use Rattle.word.proofs.Branches.{branches}
use Rattle.channel_calls.proofs.Refused.{not_refused}
use Rattle.registers.specs.Masked.{tried_on, refused_on}
use Rattle.registers.proofs.Masks.{tried}
use Rattle.registers.proofs.masked.try_on.Goals as goal

pub returns-then-mask-channel-eq0 : goal.returns-then-mask-channel-eq0
unfolding tried_on refused_on
returns-then-mask-channel-eq0 c = record { answer = search branches; after = search branches }

pub returns-in-Ok : goal.returns-in-Ok
returns-in-Ok c =
    let t = tried c.args.control c.args.mask c.args.channel _ _ _ _ c.if-mask-channel-eq0.false c.control_call.ensures c.in-Ok.ensures.answer c.in-Ok.ensures.after in
    record { answer = sym (t.0 ∙ ap (λ (b : Bool). cond b (2 ^ (c.args.channel - 1)) 0) (not_refused c.in-Ok.field-0)); after = t.1 }

-- a named channel's bit, and the memory that its try leaves
pub returns-in-Err : goal.returns-in-Err
returns-in-Err c =
    let t = tried c.args.control c.args.mask c.args.channel _ _ _ _ c.if-mask-channel-eq0.false c.control_call.ensures c.in-Err.ensures.answer c.in-Err.ensures.after in
    record { answer = c.weight.ensures ∙ sym t.0; after = t.1 }
