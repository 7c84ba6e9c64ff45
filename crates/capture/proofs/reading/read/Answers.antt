-- `capture::reading::read` meets its contract: by the commands of the record that stands there.
-- Assumes nothing.
use Rattle.std.proofs.Common.{◌≡◌, Err, Ok, Some, refl, rules, arith}
use Rattle.capture.specs.Numbers.{kind_number, refusal_number, answer_of}
use Rattle.capture.specs.Read.{nothing}
use Rattle.capture.proofs.Known.{no_record}
use Rattle.capture.proofs.Sizes.{few}
use Rattle.capture.proofs.Images.{plain, short, image, fits}
use Rattle.capture.proofs.reading.read.Goals as goal

pub returns-in_err-found : goal.returns-in_err-found
returns-in_err-found c = let a = c.args in
    let e : c.from_residual.result ≡ Err c.in_err-found.field-0.0 = search rules in
    let both = plain a.bytes.now a.lent.now a.cursor.offset (nothing (refusal_number c.in_err-found.field-0.0) a.cursor.offset) 0 c.in_err-found.ensures no_record refl in
    record { answer = rw e both.0; after = both.1 }

pub returns-in_default : goal.returns-in_default
returns-in_default c = let a = c.args in
    let both = plain a.bytes.now a.lent.now a.cursor.offset (nothing 0 a.cursor.offset) 0 (rw c.in_default.is at c.in_ok-found.ensures) no_record refl in
    record { answer = both.0; after = both.1 }

pub returns-then-count-eq0 : goal.returns-then-count-eq0
returns-then-count-eq0 c = let a = c.args in
    let both = plain a.bytes.now a.lent.now a.cursor.offset (answer_of a.cursor.offset (Ok (Some c.in-Some.found))) c.commands-count.result
    (rw c.in-Some.is at c.in_ok-found.ensures) c.commands-count.ensures c.if-count-eq0.true in
    record { answer = both.0; after = both.1 }

pub returns-then-lent-lt-LENT_WORDS : goal.returns-then-lent-lt-LENT_WORDS
returns-then-lent-lt-LENT_WORDS c = let a = c.args in
    let both = short a.bytes.now a.lent.now a.cursor.offset (answer_of a.cursor.offset (Ok (Some c.in-Some.found))) c.commands-count.result
    (rw c.in-Some.is at c.in_ok-found.ensures) c.commands-count.ensures (nothing 24 a.cursor.offset) refl c.if-count-eq0.false (omega arith) in
    record { answer = both.0; after = both.1 }

pub overflow_add-at : goal.overflow_add-at
overflow_add-at c = let a = c.args in
    let f = fits a.bytes.now a.lent.now a.cursor.offset (answer_of a.cursor.offset (Ok (Some c.in-Some.found))) c.commands-count.result
    (rw c.in-Some.is at c.in_ok-found.ensures) c.commands-count.ensures c.if-count-eq0.false in
    omega arith

pub overflow_add-at-2 : goal.overflow_add-at-2
overflow_add-at-2 c = let a = c.args in
    let f = fits a.bytes.now a.lent.now a.cursor.offset (answer_of a.cursor.offset (Ok (Some c.in-Some.found))) c.commands-count.result
    (rw c.in-Some.is at c.in_ok-found.ensures) c.commands-count.ensures c.if-count-eq0.false in
    omega arith

pub overflow_add-at-3 : goal.overflow_add-at-3
overflow_add-at-3 c = let a = c.args in
    let f = fits a.bytes.now a.lent.now a.cursor.offset (answer_of a.cursor.offset (Ok (Some c.in-Some.found))) c.commands-count.result
    (rw c.in-Some.is at c.in_ok-found.ensures) c.commands-count.ensures c.if-count-eq0.false in
    omega arith

pub put_words-requires : goal.put_words-requires
put_words-requires c = let a = c.args in
    let f = fits a.bytes.now a.lent.now a.cursor.offset (answer_of a.cursor.offset (Ok (Some c.in-Some.found))) c.commands-count.result
    (rw c.in-Some.is at c.in_ok-found.ensures) c.commands-count.ensures c.if-count-eq0.false in
    record { count_in_bounds = f; count_in_bounds_2 = omega (arith, few (kind_number c.in-Some.found.kind), c.commands-count.ensures) }

pub put_stops-requires-clause-from_le_lent_words : goal.put_stops-requires-clause-from_le_lent_words
put_stops-requires-clause-from_le_lent_words c = omega (arith, few (kind_number c.in-Some.found.kind), c.commands-count.ensures)

pub returns : goal.returns
returns c = let a = c.args in
    let both = image a.bytes.now a.lent.now a.cursor.offset (answer_of a.cursor.offset (Ok (Some c.in-Some.found))) c.commands-count.result
    (rw c.in-Some.is at c.in_ok-found.ensures) c.commands-count.ensures _ _ c.put_words.ensures c.put_stops.ensures c.if-count-eq0.false (omega arith) in
    record { answer = both.0; after = both.1 }
