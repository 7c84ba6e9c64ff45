-- `module::on_channel::on_channel` meets its contract: refused by the address, refused by the call, or done.
-- Assumes nothing.
use mathlib.Core.Path.{sym}
use Rattle.std.proofs.lemmas.Result.{err_from_is_err_and}
use Rattle.block.proofs.Refusals.{is_other, passed_on, kept}
use Rattle.channel_calls.proofs.Refused.{refused}
use Rattle.frame.proofs.Blocks.{within_memory, part_is}
use Rattle.module.specs.OnChannel.{on_refusal}
use Rattle.module.proofs.Accepted.{room, done}
use Rattle.module.proofs.on_channel.on_channel.Goals as goal

pub returns-in_err-address_refusal : goal.returns-in_err-address_refusal
unfolding on_refusal
returns-in_err-address_refusal c =
    let p = err_from_is_err_and c.from_residual.result c.from_residual.ensures.1 in
    let e = passed_on _ _ _ c.in_err-address_refusal.ensures in
    record { answer = rw (p.1, p.2) (refused _ _ _ e); after = kept _ _ _ _ e }

pub overflow_sub-from : goal.overflow_sub-from
overflow_sub-from c = (within_memory _ _ (sym c.in_ok-address_refusal.ensures)).low

pub slice_bounds-refusal-end : goal.slice_bounds-refusal-end
slice_bounds-refusal-end c = (within_memory _ _ (sym c.in_ok-address_refusal.ensures)).room

pub refusal-requires : goal.refusal-requires
refusal-requires c = rw part_is (within_memory _ _ (sym c.in_ok-address_refusal.ensures)).usable

pub returns-in_err-refusal : goal.returns-in_err-refusal
unfolding on_refusal
returns-in_err-refusal c =
    let p = err_from_is_err_and c.from_residual-in_err-refusal.result c.from_residual-in_err-refusal.ensures.1 in
    let e = is_other _ _ _ (sym c.in_ok-address_refusal.ensures) (rw part_is at c.in_err-refusal.ensures) in
    record { answer = rw (p.1, p.2) (refused _ _ _ e); after = kept _ _ _ _ e }

pub accept-requires : goal.accept-requires
accept-requires c = let w = within_memory _ _ (sym c.in_ok-address_refusal.ensures) in
    (room w, w.usable, sym (rw part_is at c.in_ok-refusal.ensures))

pub returns : goal.returns
unfolding on_refusal
returns c =
    let refusal = is_other _ _ _ (sym c.in_ok-address_refusal.ensures) (rw part_is at c.in_ok-refusal.ensures) in
    let both = done _ _ _ _ _ _ (sym refusal) c.accept.ensures.answer c.accept.ensures.after in record { answer = both.0; after = both.1 }
