-- `wide::on_module::on_module` meets its contract: refused for the memory, refused for the argument, or done.
-- Assumes nothing.
use Rattle.std.proofs.Common.{sym, ap, ◌∙◌}
use Rattle.std.proofs.lemmas.Result.{err_from_is_err_and}
use Rattle.block.proofs.Refusals.{is_other, passed_on, kept}
use Rattle.channel_calls.proofs.Refused.{refused}
use Rattle.frame.proofs.Refused.{wide_framed}
use Rattle.wide.specs.Refusals.{effect_refusal, call_refusal}
use Rattle.wide.proofs.Places.{placed}
use Rattle.wide.proofs.Accepted.{accepted}
use Rattle.wide.proofs.on_module.on_module.Goals as goal

pub returns-in_err-wide_refusal : goal.returns-in_err-wide_refusal
unfolding call_refusal
returns-in_err-wide_refusal c =
    let p = err_from_is_err_and c.from_residual.result c.from_residual.ensures.1 in
    let e = passed_on _ _ _ c.in_err-wide_refusal.ensures in
    record { answer = rw (p.1, p.2) (refused _ _ _ e); after = kept _ _ _ _ e }

pub effect_refusal-requires : goal.effect_refusal-requires
effect_refusal-requires c = placed _ c.args.call c.effect_of-effect.ensures

pub returns-in_err-effect_refusal : goal.returns-in_err-effect_refusal
unfolding call_refusal
returns-in_err-effect_refusal c =
    let p = err_from_is_err_and c.from_residual-in_err-effect_refusal.result c.from_residual-in_err-effect_refusal.ensures.1 in
    let e = is_other _ _ _ (sym c.in_ok-wide_refusal.ensures) (c.in_err-effect_refusal.ensures ∙ ap effect_refusal c.effect_of-effect.ensures) in
    record { answer = rw (p.1, p.2) (refused _ _ _ e); after = kept _ _ _ _ e }

pub accept-requires : goal.accept-requires
accept-requires c = (wide_framed _ (sym c.in_ok-wide_refusal.ensures), placed _ c.args.call c.effect_of-effect.ensures)

pub returns : goal.returns
returns c = let both = accepted c.args.call _ _ _ _ c.effect_of-effect.ensures (sym c.in_ok-wide_refusal.ensures)
    (sym c.in_ok-effect_refusal.ensures) (c.accept.ensures.answer, c.accept.ensures.after) in record { answer = both.0; after = both.1 }
