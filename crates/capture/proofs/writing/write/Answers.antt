-- `capture::writing::write` meets its contract: by the refusal; what is refused for nothing has its room.
-- Assumes nothing.
use Rattle.std.proofs.Common.{◌≡◌, Err, length, refl, sym, ap, ◌∙◌, rules, arith}
use Rattle.capture.specs.Format.{made, length_of}
use Rattle.capture.specs.Numbers.{refusal_number}
use Rattle.capture.proofs.Known.{not_zero}
use Rattle.capture.proofs.Writable.{writable, refused, done}
use Rattle.capture.proofs.writing.write.Goals as goal

pub returns-in_err-kind : goal.returns-in_err-kind
returns-in_err-kind c = let a = c.args in
    let e : c.from_residual.result ≡ Err c.in_err-kind.field-0.0 = search rules in
    let both = refused a.bytes.now a.cursor.offset (made a.kind a.channel a.word a.stamp a.commands.now) c.saturating_sub-room.result (refusal_number c.in_err-kind.field-0.0)
    c.saturating_sub-room.ensures c.in_err-kind.ensures.refusal (not_zero c.in_err-kind.field-0.0) in
    record { answer = rw e both.0; after = both.1 }

pub put_record-requires : goal.put_record-requires
put_record-requires c = let a = c.args in
    let k = writable c.saturating_sub-room.result a.kind a.channel (length a.commands.now) (sym c.in_ok-kind.ensures.refusal) in
    rw c.in_ok-kind.ensures.kind (record { kind_in_bounds = omega (arith, c.saturating_sub-room.ensures); commands_len = k.counted })

pub overflow_add-result : goal.overflow_add-result
overflow_add-result c = let a = c.args in
    let k = writable c.saturating_sub-room.result a.kind a.channel (length a.commands.now) (sym c.in_ok-kind.ensures.refusal) in
    omega (arith, c.saturating_sub-room.ensures)

pub overflow_add-result-2 : goal.overflow_add-result-2
overflow_add-result-2 c = let a = c.args in
    let k = writable c.saturating_sub-room.result a.kind a.channel (length a.commands.now) (sym c.in_ok-kind.ensures.refusal) in
    let l : c.length.result ≡ length_of a.kind = c.length.ensures ∙ ap length_of c.in_ok-kind.ensures.kind in
    omega (arith, c.saturating_sub-room.ensures)

pub returns : goal.returns
returns c = let a = c.args in
    let both = done a.bytes.now _ a.cursor.offset (made a.kind a.channel a.word a.stamp a.commands.now) c.saturating_sub-room.result 0 c.length.result
    c.saturating_sub-room.ensures c.in_ok-kind.ensures.refusal refl (c.length.ensures ∙ ap length_of c.in_ok-kind.ensures.kind)
    (rw c.in_ok-kind.ensures.kind at c.put_record.ensures) in
    record { answer = both.0; after = both.1 }
