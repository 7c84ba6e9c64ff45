-- What a reading says of a valid record that stands at the offset, and what it says of any offset.
-- Assumes nothing.
use Prim.Native.Nat.{ℕ, ◌+◌, ◌-◌, ◌<◌, ◌≤◌, ◌^◌}
use mathlib.Core.Path.{◌≡◌, refl, ap, ◌∙◌}
use mathlib.Core.Bool.{Bool, true, false, cond}
use mathlib.Core.List.{List, [], ◌∷◌, ◌++◌, append_assoc}
use native.Mathlib.Omega.{arith}
use borrow.Author.Tests.{eqb-true, eqb-false, eq-eqb, ne_eqb, ltb-true, le-ltb}
use lib.Dec.{eqb, ltb}
use lib.ListN.{length, take, drop, replicate, length-append, length-replicate}
use lib.Seq.{sets, sets-eq, take_at}
use Rattle.little_endian.specs.LittleEndian.{word_at, two, four}
use Rattle.capture.specs.Format.{Record, arrival, old_image, old_image_commands, image, image_commands, commands_of, lent_words, lent_of, known, length_of, half, whole, fours, body_of, bytes_of}
use Rattle.capture.specs.declared.reading.Answer.{Answer}
use Rattle.capture.specs.Read.{length_at, kind_at, channel_at, body_at, commands_at, cut_of, kind_refusal, channel_refusal, refusal_at, found_at, seen_at, read_at, lent_after}
use Rattle.capture.specs.Captures.{Valid, record_of}
use Rattle.capture.proofs.Sizes.{few, few_lent, covers, no_commands, not_long}
use Rattle.capture.proofs.Put.{length_two, length-four, length_body}
use Rattle.capture.proofs.Parts.{Has, has_left, has_right, has_room, half_is, word_is, words_are}

-- a known kind has a number of 16 bits that is not 0
pub known_is : (kind : ℕ) → known kind ≡ true → (1 ≤ kind) × (kind < 2 ^ 16)
unfolding known commands_of
known_is kind = of (eqb kind arrival) refl (eqb kind old_image) refl (eqb kind image) refl
  where
    of : (t : Bool) → eqb kind arrival ≡ t → (s : Bool) → eqb kind old_image ≡ s → (r : Bool) → eqb kind image ≡ r
        → cond t true (ltb 0 (cond s old_image_commands (cond r image_commands 0))) ≡ true → (1 ≤ kind) × (kind < 2 ^ 16)
    of true e s f r g h = let k = eqb-true kind arrival e in (omega arith, omega arith)
    of false e true f r g h = let k = eqb-true kind old_image f in (omega arith, omega arith)
    of false e false f true g h = let k = eqb-true kind image g in (omega arith, omega arith)
    of false e false f false g h = absurd (omega (arith, ltb-true 0 0 h))

arrival-length : (kind channel word stamp : ℕ) → kind ≡ arrival → length (two kind ++ (two channel ++ (four word ++ four stamp))) ≡ length_of kind
unfolding length_of two four
arrival-length kind channel word stamp e = rw e refl

-- "counting kind and body": the length of a valid record
pub long_is : (r : Record) → Valid r → length (two r.kind ++ body_of r) ≡ length_of r.kind
unfolding body_of
long_is r v = of (eqb r.kind arrival) refl
  where
    of : (t : Bool) → eqb r.kind arrival ≡ t
        → length (two r.kind ++ (two r.channel ++ cond t (four r.word ++ four r.stamp) (fours r.commands))) ≡ length_of r.kind
    of true e = arrival-length r.kind r.channel r.word r.stamp (eqb-true r.kind arrival e)
    of false e = length_body r.kind r.channel r.commands v.counted e

pub length-bytes : (r : Record) → Valid r → length (bytes_of r) ≡ half + length_of r.kind
unfolding bytes_of
length-bytes r v =
    length-append (two (length (two r.kind ++ body_of r))) (two r.kind ++ body_of r)
    ∙ rw (length_two (length (two r.kind ++ body_of r)), long_is r v) refl

nil_of : (l : List ℕ) → length l ≡ 0 → [] ≡ l
nil_of [] e = refl
nil_of (x ∷ l) e = absurd (omega arith)

-- with room for an image a reading answers what stands there
pub readable : (b : List ℕ) (at n : ℕ) → lent_words ≤ n → read_at b at n ≡ seen_at b at
unfolding read_at
readable b at n m = rw (le-ltb n lent_words m) (of (eqb (commands_of (seen_at b at).kind) 0))
  where
    of : (t : Bool) → cond t (seen_at b at) (seen_at b at) ≡ seen_at b at
    of true = refl
    of false = refl

-- the first of the lent words are the commands that were put there, whatever was put behind them
taken : (l vs ws : List ℕ) (n : ℕ) → length vs ≡ n → n + length ws ≤ length l → take n (sets l 0 (vs ++ ws)) ≡ vs
taken l vs ws n e h =
    let f : 0 + length (vs ++ ws) ≤ length l = rw (length-append vs ws) (omega arith) in
    ap (λ x. take n x) (sets-eq (vs ++ ws) l 0 f ∙ append_assoc vs ws (drop (0 + length (vs ++ ws)) l)) ∙ take_at vs (ws ++ drop (0 + length (vs ++ ws)) l) n e

pub commands-taken : (l vs : List ℕ) (kind : ℕ) → length vs ≡ commands_of kind → lent_words ≤ length l
    → take (commands_of kind) (sets l 0 (vs ++ replicate (lent_of kind - commands_of kind) 0)) ≡ vs
commands-taken l vs kind e h =
    let f = few kind in
    let g = few_lent kind in
    taken l vs (replicate (lent_of kind - commands_of kind) 0) (commands_of kind) e (rw (length-replicate {A = ℕ} (lent_of kind - commands_of kind) 0) (omega arith))

-- what the reading of a valid record answers
abbrev pub told : ℕ → Record → Answer
told at r = record {
  number = 0;
  kind = r.kind;
  next = record { offset = at + half + length_of r.kind };
  channel = r.channel;
  word = r.word;
  stamp = r.stamp;
}

module _ (b : List ℕ) (at : ℕ) (r : Record) (v : Valid r) (h : Has b at (bytes_of r)) where
  -- its fields
  behind : Has b (at + half) (two r.kind ++ body_of r)
  unfolding bytes_of
  behind = has_right b at half (two (length (two r.kind ++ body_of r))) (two r.kind ++ body_of r) (length_two (length (two r.kind ++ body_of r))) h

  body : Has b (at + half + half) (body_of r)
  body = has_right b (at + half) half (two r.kind) (body_of r) (length_two r.kind) behind

  -- word and stamp, or the commands
  values : Has b (body_at at) (cond (eqb r.kind arrival) (four r.word ++ four r.stamp) (fours r.commands))
  unfolding body_of
  values =
      has_right b (at + half + half) half (two r.channel) (cond (eqb r.kind arrival) (four r.word ++ four r.stamp) (fours r.commands))
      (length_two r.channel) body

  long : length_at b at ≡ length_of r.kind
  unfolding bytes_of
  long =
      half_is b at (length (two r.kind ++ body_of r)) (has_left b at (two (length (two r.kind ++ body_of r))) (two r.kind ++ body_of r) h)
      (rw (long_is r v) (not_long r.kind))
      ∙ long_is r v

  kind : kind_at b at ≡ r.kind
  kind = half_is b (at + half) r.kind (has_left b (at + half) (two r.kind) (body_of r) behind) (known_is r.kind v.is_known).1

  channel : channel_at b at ≡ r.channel
  unfolding body_of
  channel =
      half_is b (at + half + half) r.channel
      (has_left b (at + half + half) (two r.channel) (cond (eqb r.kind arrival) (four r.word ++ four r.stamp) (fours r.commands)) body)
      (omega (arith, v.high))

  room : at + half + length_of r.kind ≤ length b
  room = omega (arith, has_room b at (bytes_of r) h, length-bytes r v)

  pub no_refusal : refusal_at b at ≡ 0
  unfolding refusal_at cut_of kind_refusal channel_refusal
  no_refusal =
      let m = room in
      let c = covers r.kind in
      let e₁ : half ≤ length b - at = omega arith in
      let e₂ : length_of r.kind ≤ length b - at - half = omega arith in
      let e₃ : half ≤ length_of r.kind = omega arith in
      rw (
        long,
        kind,
        channel,
        le-ltb (length b - at) half e₁,
        le-ltb (length b - at - half) (length_of r.kind) e₂,
        le-ltb (length_of r.kind) half e₃,
        v.is_known,
        eq-eqb (length_of r.kind) (length_of r.kind) refl,
        le-ltb r.channel 1 v.low,
        le-ltb 12 r.channel v.high,
      ) refl

  found : found_at b at ≡ told at r
  unfolding found_at
  found = rw (long, kind, channel) (of (eqb r.kind arrival) refl values)
    where
      of : (t : Bool) → eqb r.kind arrival ≡ t → Has b (body_at at) (cond t (four r.word ++ four r.stamp) (fours r.commands))
          → ◌≡◌ {A = Answer}
          (record {
            number = 0;
            kind = r.kind;
            next = record { offset = at + half + length_of r.kind };
            channel = r.channel;
            word = cond t (word_at b (body_at at)) 0;
            stamp = cond t (word_at b (body_at at + whole)) 0;
          })
          (told at r)
      of true e p =
          rw (
            word_is b (body_at at) r.word (has_left b (body_at at) (four r.word) (four r.stamp) p) v.word_fits,
            word_is b (body_at at + whole) r.stamp (has_right b (body_at at) whole (four r.word) (four r.stamp) (length-four r.word) p) v.stamp_fits,
          ) refl
      of false e p = let z = v.image_plain (eqb-false r.kind arrival e) in rw (z.0, z.1) refl

  pub seen : seen_at b at ≡ told at r
  unfolding seen_at
  seen =
      let m = room in
      let n : at ≡ length b → ⊥ = λ q. omega arith in
      rw (ne_eqb at (length b) n, no_refusal, found) refl

  pub commands : commands_at b at r.kind ≡ r.commands
  commands = of (eqb r.kind arrival) refl values
    where
      of : (t : Bool) → eqb r.kind arrival ≡ t → Has b (body_at at) (cond t (four r.word ++ four r.stamp) (fours r.commands)) → commands_at b at r.kind ≡ r.commands
      of true e p =
          let z = no_commands r.kind (eqb-true r.kind arrival e) in
          rw z (nil_of r.commands (v.counted ∙ z))
      of false e p = rw v.counted at (words_are b (body_at at) r.commands p v.commands_fit)

  -- the record read, with room for an image, is the record that stands there
  module _ (lent : List ℕ) (m : lent_words ≤ length lent) where
    pub reads : read_at b at (length lent) ≡ told at r
    reads = readable b at (length lent) m ∙ seen

    pub record_is : record_of (read_at b at (length lent)) (lent_after b at lent) ≡ r
    unfolding lent_after
    record_is =
        rw (reads, commands, commands-taken lent r.commands r.kind v.counted m) refl
