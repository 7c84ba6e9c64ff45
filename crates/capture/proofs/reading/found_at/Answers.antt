-- `capture::reading::found_at` meets its contract: a record whose refusal is 0 has all its fields within the bytes, and an arrival has its own length.
-- Assumes nothing.
use Rattle.std.proofs.Common.{◌≡◌, false, eqb, refl, sym, ap, ◌∙◌, ne_eqb, arith}
use Rattle.capture.specs.Format.{arrival, length_of}
use Rattle.capture.specs.Numbers.{kind_number}
use Rattle.capture.specs.Read.{length_at, kind_at, found_at}
use Rattle.capture.proofs.Known.{pictured}
use Rattle.capture.proofs.Sizes.{covers, arrival_long}
use Rattle.capture.proofs.Sound.{sound}
use Rattle.capture.proofs.reading.found_at.Goals as goal

pub overflow_add-next-2 : goal.overflow_add-next-2
overflow_add-next-2 c = let s = sound c.args.bytes.now c.args.at c.requires.at_value in
    let l : c.length.result ≡ length_at c.args.bytes.now c.args.at = c.length.ensures ∙ ap length_of c.requires.kind_value ∙ sym s.long in
    omega arith

pub half_at-channel-requires : goal.half_at-channel-requires
half_at-channel-requires c = let s = sound c.args.bytes.now c.args.at c.requires.at_value in
    omega (arith, covers (kind_at c.args.bytes.now c.args.at))

pub word_at-requires : goal.word_at-requires
word_at-requires c = let s = sound c.args.bytes.now c.args.at c.requires.at_value in
    omega (arith, arrival_long _ (sym c.requires.kind_value ∙ ap kind_number c.in-Arrival.is))

pub word_at-requires-in-Arrival : goal.word_at-requires-in-Arrival
word_at-requires-in-Arrival c = let s = sound c.args.bytes.now c.args.at c.requires.at_value in
    omega (arith, arrival_long _ (sym c.requires.kind_value ∙ ap kind_number c.in-Arrival.is))

pub returns-in-Arrival : goal.returns-in-Arrival
unfolding found_at
returns-in-Arrival c = let s = sound c.args.bytes.now c.args.at c.requires.at_value in
    let l : c.length.result ≡ length_at c.args.bytes.now c.args.at = c.length.ensures ∙ ap length_of c.requires.kind_value ∙ sym s.long in
    let k : kind_at c.args.bytes.now c.args.at ≡ arrival = sym c.requires.kind_value ∙ ap kind_number c.in-Arrival.is in
    rw (c.requires.kind_value, k, l, c.half_at-channel.ensures, c.word_at.ensures, c.word_at-in-Arrival.ensures) refl

pub returns-in-OldImage : goal.returns-in-OldImage
unfolding found_at
returns-in-OldImage c = let s = sound c.args.bytes.now c.args.at c.requires.at_value in
    let l : c.length.result ≡ length_at c.args.bytes.now c.args.at = c.length.ensures ∙ ap length_of c.requires.kind_value ∙ sym s.long in
    let n : eqb (kind_at c.args.bytes.now c.args.at) arrival ≡ false =
    ne_eqb _ _ (λ z. pictured c.args.kind c.in-OldImage.is (c.requires.kind_value ∙ z)) in
    rw (c.requires.kind_value, n, l, c.half_at-channel.ensures) refl
