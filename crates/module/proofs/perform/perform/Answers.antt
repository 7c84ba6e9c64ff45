-- `module::perform::perform` meets its contract: each call from what its callee ensures.
-- Assumes nothing.
use mathlib.Core.Path.{refl}
use Rattle.std.proofs.lemmas.Result.{err_from_is_err_and}
use Rattle.channel_calls.proofs.Refused.{refused}
use Rattle.module.proofs.perform.perform.Goals as goal

pub returns-in_err-power_up-in-PowerUp : goal.returns-in_err-power_up-in-PowerUp
returns-in_err-power_up-in-PowerUp c =
    let p = err_from_is_err_and c.from_residual.result c.from_residual.ensures.1 in
    rw c.in-PowerUp.is (record { answer = rw (p.1, p.2) (refused _ _ _ c.in_err-power_up-in-PowerUp.ensures.refusal); after = c.power_up.ensures.after })

pub returns-in_ok-power_up-in-PowerUp : goal.returns-in_ok-power_up-in-PowerUp
returns-in_ok-power_up-in-PowerUp c = rw c.in-PowerUp.is (record { answer = rw (← c.in_ok-power_up-in-PowerUp.ensures.refusal) refl; after = c.power_up.ensures.after })

pub returns-in_err-reset-in-Reset : goal.returns-in_err-reset-in-Reset
returns-in_err-reset-in-Reset c =
    let p = err_from_is_err_and c.from_residual-in_err-reset-in-Reset.result c.from_residual-in_err-reset-in-Reset.ensures.1 in
    rw c.in-Reset.is (record { answer = rw (p.1, p.2) (refused _ _ _ c.in_err-reset-in-Reset.ensures.refusal); after = c.reset.ensures.after })

pub returns-in_ok-reset-in-Reset : goal.returns-in_ok-reset-in-Reset
returns-in_ok-reset-in-Reset c = rw c.in-Reset.is (record { answer = rw (← c.in_ok-reset-in-Reset.ensures.refusal) refl; after = c.reset.ensures.after })
