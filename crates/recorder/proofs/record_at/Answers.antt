-- `recorder::record_at` meets its contract: by the op, and by the answer's number.
-- Assumes nothing.
use mathlib.Core.Path.{ap, sym, ◌∙◌}
use mathlib.Core.Bool.{true, false}
use lib.ListN.{length, get_or}
use borrow.Author.Tests.{eq-eqb, ne_eqb}
use Rattle.capture.specs.Format.{Record}
use Rattle.capture.specs.Write.{Written, written, bytes_after}
use Rattle.recorder.proofs.Kept.{no_arrival, by_number, other, an_arrival, record_is}
use Rattle.recorder.proofs.record_at.Goals as goal

pub returns-then-word_at-ne-ARRIVE : goal.returns-then-word_at-ne-ARRIVE
returns-then-word_at-ne-ARRIVE c = let l = other c.args.bytes.now
    c.args.at
    c.args.mem.now
    c.args.out.now (no_arrival
    c.args.bytes.now
    c.args.at
    c.args.mem.now (λ e. c.if-word_at-ne-ARRIVE.true (c.word_at.ensures ∙ e))) in
    (record { count = l.0; written = l.1; after = c.perform_at.ensures.after })

pub returns-then-words-ne0 : goal.returns-then-words-ne0
returns-then-words-ne0 c = let l = other c.args.bytes.now
    c.args.at
    c.args.mem.now
    c.args.out.now (by_number
    c.args.bytes.now
    c.args.at
    c.args.mem.now
    c.perform_at.result false (sym c.word_at.ensures ∙ c.if-word_at-ne-ARRIVE.false) c.perform_at.ensures.answer
    (ne_eqb (get_or c.perform_at.result.words 0 0) 0 c.if-words-ne0.true)) in
    (record { count = l.0; written = l.1; after = c.perform_at.ensures.after })

pub returns-in-Ok : goal.returns-in-Ok
returns-in-Ok c = let e = record_is c.args.bytes.now c.args.at c.args.mem.now c.perform_at.new.mem c.word_at-2.result c.word_at-3.result c.stamp-stamp.result
    c.word_at-2.ensures c.word_at-3.ensures c.stamp-stamp.ensures.answer c.perform_at.ensures.after in
    let o = c.args.out.now in
    let l = an_arrival c.args.bytes.now c.args.at c.args.mem.now o _ _
    (by_number c.args.bytes.now c.args.at c.args.mem.now c.perform_at.result true (sym c.word_at.ensures ∙ c.if-word_at-ne-ARRIVE.false) c.perform_at.ensures.answer
    (eq-eqb (get_or c.perform_at.result.words 0 0) 0 c.if-words-ne0.false))
    (ap (λ (x : Written). x.next.offset) c.in-Ok.ensures.answer ∙ ap (λ (r : Record). (written (length o) 0 r).next.offset) (rw c.into.ensures e))
    (c.in-Ok.ensures.after ∙ ap (λ (r : Record). bytes_after o 0 r) (rw c.into.ensures e)) in
    (record { count = l.0; written = l.1; after = c.stamp-stamp.ensures.after ∙ c.perform_at.ensures.after })

pub returns-in-Err : goal.returns-in-Err
returns-in-Err c = let e = record_is c.args.bytes.now c.args.at c.args.mem.now c.perform_at.new.mem c.word_at-2.result c.word_at-3.result c.stamp-stamp.result
    c.word_at-2.ensures c.word_at-3.ensures c.stamp-stamp.ensures.answer c.perform_at.ensures.after in
    let o = c.args.out.now in
    let l = an_arrival c.args.bytes.now c.args.at c.args.mem.now o _ _
    (by_number c.args.bytes.now c.args.at c.args.mem.now c.perform_at.result true (sym c.word_at.ensures ∙ c.if-word_at-ne-ARRIVE.false) c.perform_at.ensures.answer
    (eq-eqb (get_or c.perform_at.result.words 0 0) 0 c.if-words-ne0.false))
    (ap (λ (x : Written). x.next.offset) c.in-Err.ensures.answer ∙ ap (λ (r : Record). (written (length o) 0 r).next.offset) (rw c.into.ensures e))
    (c.in-Err.ensures.after ∙ ap (λ (r : Record). bytes_after o 0 r) (rw c.into.ensures e)) in
    (record { count = l.0; written = l.1; after = c.stamp-stamp.ensures.after ∙ c.perform_at.ensures.after })
