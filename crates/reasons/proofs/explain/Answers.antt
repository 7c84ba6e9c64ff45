-- `reasons::explain` meets its contract: refused, or the reason on the words that the count needs.
-- Assumes nothing.
use Rattle.std.proofs.Common.{◌≡◌, ◌≤◌, ◌∙◌, sym, length, Err, arith, rules}
use lib.Seq.{length-take-le}
use Rattle.frame.specs.Layout.{need}
use Rattle.reasons.specs.Question.{Asked}
use Rattle.reasons.proofs.Refusing.{asked}
use Rattle.reasons.proofs.Answering.{refused, given}
use Rattle.reasons.proofs.explain.Goals as goal

pub returns-in_err-refusal : goal.returns-in_err-refusal
returns-in_err-refusal c = let start = c.args in
    let e : c.from_residual.result ≡ Err c.in_err-refusal.field-0.0 = search rules in
    let both = refused start.count start.bytes.now start.place start.mem.now c.in_err-refusal.field-0.0 c.in_err-refusal.ensures in
    rw e (record { answer = both.0; after = both.1 })

-- what a question that is not refused says: room for what the count needs, and that it is asked
pub need-words-requires : goal.need-words-requires
need-words-requires c = (asked c.args.count c.args.bytes.now c.args.place (length c.args.mem.now) (sym c.in_ok-refusal.ensures)).1.most

pub slice_bounds-reason_for-end : goal.slice_bounds-reason_for-end
slice_bounds-reason_for-end c =
    let accepted = asked c.args.count c.args.bytes.now c.args.place (length c.args.mem.now) (sym c.in_ok-refusal.ensures) in
    let within : c.need-words.result ≤ length c.args.mem.now = omega (arith, accepted.0, c.need-words.ensures) in
    within

pub slice_bounds-reason_for-end-2 : goal.slice_bounds-reason_for-end-2
slice_bounds-reason_for-end-2 c =
    let accepted = asked c.args.count c.args.bytes.now c.args.place (length c.args.mem.now) (sym c.in_ok-refusal.ensures) in
    let within : c.need-words.result ≤ length c.args.mem.now = omega (arith, accepted.0, c.need-words.ensures) in
    sym (length-take-le c.need-words.result c.args.mem.now within)

pub reason_for-reason-requires : goal.reason_for-reason-requires
reason_for-reason-requires c =
    let accepted = asked c.args.count c.args.bytes.now c.args.place (length c.args.mem.now) (sym c.in_ok-refusal.ensures) in
    let within : c.need-words.result ≤ length c.args.mem.now = omega (arith, accepted.0, c.need-words.ensures) in
    (length-take-le c.need-words.result c.args.mem.now within ∙ c.need-words.ensures, accepted.1)

pub returns : goal.returns
returns c = let start = c.args in
    let both = given start.count start.bytes.now start.place start.mem.now (sym c.in_ok-refusal.ensures) c.need-words.result
    c.need-words.ensures c.reason_for-reason.result _ c.reason_for-reason.ensures.answer c.reason_for-reason.ensures.after in record { answer = both.0; after = both.1 }
