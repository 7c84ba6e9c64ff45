-- Whole captures: reading what was written, writing what was read, and that a reading ends.
-- Assumes nothing.
use Prim.Native.Nat.{ℕ, zero, suc, ◌+◌, ◌*◌, ◌-◌, ◌^◌, ◌<◌, ◌≤◌}
use mathlib.Core.Path.{◌≡◌, refl, ap, ap₂, sym, ◌∙◌}
use mathlib.Core.Bool.{Bool, true, false, cond}
use mathlib.Core.List.{List, [], ◌∷◌, ◌++◌, append-nil}
use native.Mathlib.Omega.{arith}
use borrow.Author.Tests.{eqb-true, eqb-false, eq-eqb, ne_eqb, le-ltb}
use lib.Dec.{eqb, ltb}
use lib.ListN.{length, take, drop, length-append, length-drop, take-append-drop}
use lib.Seq.{sets, sets-eq, length-take-le, length-sets, drop-length, drop-drop}
use Rattle.little_endian.specs.LittleEndian.{half_at, word_at, two, four}
use Rattle.capture.specs.Format.{Record, made, arrival, commands_of, lent_words, known, length_of, half, whole, fours, body_of, bytes_of}
use Rattle.capture.specs.declared.reading.Answer.{Answer}
use Rattle.capture.specs.Read.{length_at, kind_at, channel_at, body_at, words_at, commands_at, filling, cut_of, kind_refusal, channel_refusal, refusal_at, nothing, found_at, seen_at, read_at, lent_after}
use Rattle.capture.specs.Captures.{Below, Valid, AllValid, Reading, capture_of, record_of, ended, before, read_from, read_all, write_from}
use Rattle.capture.specs.Write.{count_refusal, room_refusal, write_refusal, refusal_of, written, bytes_after}
use Rattle.capture.specs.Laws.{ReadsWhatWasWritten, WritesWhatWasRead, WritesOneAfterAnother, MovesOn, Stays, Ends, Example}
use Rattle.capture.proofs.Sound.{Sound, sound}
use Rattle.capture.proofs.Parts.{below_at, Has, has_left, has_right, part, part_add, two_back, four_back, fours_back}
use Rattle.capture.proofs.Stores.{sets-append, length-words}
use Rattle.capture.proofs.Told.{known_is, length-bytes, readable, commands-taken, reads, record_is}

-- the lent words are as many as before
pub same-lent : (b : List ℕ) (at : ℕ) (lent : List ℕ) → length (lent_after b at lent) ≡ length lent
unfolding lent_after
same-lent b at lent = length-sets lent 0 (filling b at (read_at b at (length lent)).kind)

-- ---- reading what was written

at_end : (b : List ℕ) (at n : ℕ) → lent_words ≤ n → at ≡ length b → read_at b at n ≡ nothing 0 at
unfolding seen_at
at_end b at n m e = readable b at n m ∙ rw (eq-eqb at (length b) e) refl

read_list : (b : List ℕ) (rs : List Record) (n at : ℕ) (lent : List ℕ) → AllValid rs → Has b at (capture_of rs) → at + length (capture_of rs) ≡ length b
    → lent_words ≤ length lent → length rs < n → read_from n b at lent ≡ record { records = rs; number = 0; offset = at + length (capture_of rs) }
unfolding read_from capture_of
read_list b rs zero at lent v h e m l = absurd (omega arith)
read_list b [] (suc n) at lent v h e m l =
    let p : at ≡ length b = omega arith in
    let q : at ≡ at + 0 = omega arith in
    rw (at_end b at (length lent) m p) (ap (λ o. ended 0 o) q)
read_list b (r ∷ rs) (suc n) at lent v h e m l =
    let h₁ = has_left b at (bytes_of r) (capture_of rs) h in
    let t = reads b at r v.0 h₁ lent m in
    let k : r.kind ≡ 0 → ⊥ = λ z. omega (arith, (known_is r.kind v.0.is_known).0) in
    let lb = length-bytes r v.0 in
    let la = length-append (bytes_of r) (capture_of rs) in
    let next : at + length (bytes_of r) ≡ at + half + length_of r.kind = omega arith in
    let h₂ = has_right b at (length (bytes_of r)) (bytes_of r) (capture_of rs) refl h in
    let s = same-lent b at lent in
    let ih = read_list b rs n (at + half + length_of r.kind) (lent_after b at lent) v.1 (rw next at h₂) (omega arith) (omega arith) (omega arith) in
    let o : at + half + length_of r.kind + length (capture_of rs) ≡ at + length (bytes_of r ++ capture_of rs) = omega arith in
    ap (λ a. cond (eqb a.kind 0) (ended a.number a.next.offset) (before (record_of a (lent_after b at lent)) (read_from n b a.next.offset (lent_after b at lent)))) t
    ∙ rw (ne_eqb r.kind 0 k, ih, o) (ap (λ x. before x (record { records = rs; number = 0; offset = at + length (bytes_of r ++ capture_of rs) }))
    (ap (λ a. record_of a (lent_after b at lent)) (sym t) ∙ record_is b at r v.0 h₁ lent m))

not_more : (rs : List Record) → AllValid rs → length rs ≤ length (capture_of rs)
unfolding capture_of
not_more [] v = omega arith
not_more (r ∷ rs) v = omega (arith, length-append (bytes_of r) (capture_of rs), length-bytes r v.0, not_more rs v.1)

pub reads_what_was_written : ReadsWhatWasWritten
unfolding ReadsWhatWasWritten
reads_what_was_written rs lent v m =
    let h : Has (capture_of rs) 0 (capture_of rs) = record { front = []; back = []; is = sym (append-nil (capture_of rs)); place = refl } in
    let n = not_more rs v in
    let z : 0 + length (capture_of rs) ≡ length (capture_of rs) = omega arith in
    read_list (capture_of rs) rs (suc (length (capture_of rs))) 0 lent v h z m (omega arith) ∙ rw z refl

-- ---- what stands at an offset: the end, a bad record, or a record

data At (b : List ℕ) (at : ℕ) (a : Answer) : Type 0 where
  the_end : at ≡ length b → a ≡ nothing 0 at → At b at a
  bad : (refusal_at b at ≡ 0 → ⊥) → a ≡ nothing (refusal_at b at) at → At b at a
  good : Sound b at → a ≡ found_at b at → At b at a

view : (b : List ℕ) (at : ℕ) → At b at (seen_at b at)
unfolding seen_at
view b at = of (eqb at (length b)) refl (eqb (refusal_at b at) 0) refl
  where
    of : (t : Bool) → eqb at (length b) ≡ t → (s : Bool) → eqb (refusal_at b at) 0 ≡ s
        → At b at (cond t (nothing 0 at) (cond s (found_at b at) (nothing (refusal_at b at) at)))
    of true e s f = the_end (eqb-true at (length b) e) refl
    of false e true f = good (sound b at (eqb-true (refusal_at b at) 0 f)) refl
    of false e false f = bad (eqb-false (refusal_at b at) 0 f) refl

-- ---- a reading ends

moved : (b : List ℕ) (at : ℕ) (a : Answer) → At b at a → (a.kind ≡ 0 → ⊥) → (at < a.next.offset) × (a.next.offset ≤ length b)
unfolding found_at
moved b at a (the_end e q) h = absurd (h (ap (λ (x : Answer). x.kind) q))
moved b at a (bad n q) h = absurd (h (ap (λ (x : Answer). x.kind) q))
moved b at a (good s q) h = rw q (omega arith, s.room)

-- a record is what was seen
accepted : (b : List ℕ) (at n : ℕ) → ((read_at b at n).kind ≡ 0 → ⊥) → seen_at b at ≡ read_at b at n
unfolding read_at
accepted b at n = of (eqb (commands_of (seen_at b at).kind) 0) (ltb n lent_words)
  where
    of : (t s : Bool) → ((cond t (seen_at b at) (cond s (nothing 24 at) (seen_at b at))).kind ≡ 0 → ⊥) → seen_at b at ≡ cond t (seen_at b at) (cond s (nothing 24 at) (seen_at b at))
    of true s h = refl
    of false true h = absurd (h refl)
    of false false h = refl

pub moves_on : MovesOn
unfolding MovesOn
moves_on b at n h = let e = accepted b at n h in rw e at (moved b at (seen_at b at) (view b at) (rw e h))

stayed : (b : List ℕ) (at : ℕ) (a : Answer) → At b at a → a.kind ≡ 0 → a.next.offset ≡ at
unfolding found_at
stayed b at a (the_end e q) h = ap (λ (x : Answer). x.next.offset) q
stayed b at a (bad n q) h = ap (λ (x : Answer). x.next.offset) q
stayed b at a (good s q) h = absurd (omega (arith, (known_is (kind_at b at) s.is_known).0, sym (ap (λ (x : Answer). x.kind) q) ∙ h))

pub stays : Stays
unfolding Stays read_at
stays b at n = of (eqb (commands_of (seen_at b at).kind) 0) (ltb n lent_words)
  where
    of : (t s : Bool) → (cond t (seen_at b at) (cond s (nothing 24 at) (seen_at b at))).kind ≡ 0 → (cond t (seen_at b at) (cond s (nothing 24 at) (seen_at b at))).next.offset ≡ at
    of true s h = stayed b at (seen_at b at) (view b at) h
    of false true h = refl
    of false false h = stayed b at (seen_at b at) (view b at) h

pub ends : Ends
unfolding Ends MovesOn read_from
ends b lent at zero h = absurd (omega arith)
ends b lent at (suc n) h =
    of (eqb (read_at b at (length lent)).kind 0) refl (λ k. ends b (lent_after b at lent) (read_at b at (length lent)).next.offset n k)
  where
    of : (t : Bool) → eqb (read_at b at (length lent)).kind 0 ≡ t
        → (length b - (read_at b at (length lent)).next.offset < n
        → read_from (suc n) b (read_at b at (length lent)).next.offset (lent_after b at lent) ≡ read_from n b (read_at b at (length lent)).next.offset (lent_after b at lent))
        → cond t (ended (read_at b at (length lent)).number (read_at b at (length lent)).next.offset)
        (before (record_of (read_at b at (length lent)) (lent_after b at lent)) (read_from (suc n) b (read_at b at (length lent)).next.offset (lent_after b at lent)))
        ≡ cond t (ended (read_at b at (length lent)).number (read_at b at (length lent)).next.offset)
        (before (record_of (read_at b at (length lent)) (lent_after b at lent)) (read_from n b (read_at b at (length lent)).next.offset (lent_after b at lent)))
    of true e rest = refl
    of false e rest =
        let m = moves_on b at (length lent) (eqb-false (read_at b at (length lent)).kind 0 e) in
        ap (λ x. before (record_of (read_at b at (length lent)) (lent_after b at lent)) x) (rest (omega arith))

-- ---- writing what was read

length_part : (b : List ℕ) (at n : ℕ) → at + n ≤ length b → length (part b at n) ≡ n
length_part b at n h = length-take-le n (drop at b) (rw length-drop (omega arith))

-- the record that was found
abbrev record_at : List ℕ → ℕ → Record
record_at b at =
    made (kind_at b at) (channel_at b at) (cond (eqb (kind_at b at) arrival) (word_at b (body_at at)) 0) (cond (eqb (kind_at b at) arrival) (word_at b (body_at at + whole)) 0)
    (commands_at b at (kind_at b at))

module _ (b : List ℕ) (at : ℕ) (f : Below 256 b) (s : Sound b at) where
  -- the bytes behind the channel
  abbrev many : Bool → ℕ
  many t = cond t (whole + whole) (whole * commands_of (kind_at b at))

  values_back : (t : Bool) → body_at at + many t ≤ length b
      → cond t (four (cond t (word_at b (body_at at)) 0) ++ four (cond t (word_at b (body_at at + whole)) 0)) (fours (commands_at b at (kind_at b at))) ≡ part b (body_at at) (many t)
  values_back true h =
      ap₂ ◌++◌ (four_back b (body_at at) f (omega arith)) (four_back b (body_at at + whole) f (omega arith)) ∙ sym (part_add b (body_at at) whole whole)
  values_back false h = fours_back b (body_at at) (commands_of (kind_at b at)) f h

  kind_and_body : two (kind_at b at) ++ body_of (record_at b at) ≡ part b (at + half) (length_of (kind_at b at))
  unfolding body_of length_of
  kind_and_body =
      let r = s.room in
      let l = s.long in
      let e : half + half + many (eqb (kind_at b at) arrival) ≡ half + (half + many (eqb (kind_at b at) arrival)) = omega arith in
      rw (e, part_add b (at + half) half (half + many (eqb (kind_at b at) arrival)), part_add b (at + half + half) half (many (eqb (kind_at b at) arrival)))
      (ap₂ ◌++◌ (two_back b (at + half) f (omega arith))
      (ap₂ ◌++◌ (two_back b (at + half + half) f (omega arith)) (values_back (eqb (kind_at b at) arrival) (omega arith))))

  bytes_back : bytes_of (record_at b at) ≡ part b at (half + length_at b at)
  unfolding bytes_of
  bytes_back =
      let r = s.room in
      let l = s.long in
      let n = length_part b (at + half) (length_of (kind_at b at)) (omega arith) in
      rw (kind_and_body, n, ← s.long, part_add b at half (length_at b at)) (ap (λ x. x ++ part b (at + half) (length_at b at)) (two_back b at f (omega arith)))

-- what the rest of a reading is, by the answer
abbrev after : ℕ → List ℕ → List ℕ → Answer → Reading
after n b lent a = cond (eqb a.kind 0) (ended a.number a.next.offset) (before (record_of a lent) (read_from n b a.next.offset lent))

lent_is : (b : List ℕ) (at : ℕ) (lent : List ℕ) → lent_words ≤ length lent → read_at b at (length lent) ≡ found_at b at
    → take (commands_of (kind_at b at)) (lent_after b at lent) ≡ commands_at b at (kind_at b at)
unfolding lent_after found_at
lent_is b at lent m e =
    rw e (commands-taken lent (commands_at b at (kind_at b at)) (kind_at b at) (length-words b (body_at at) (commands_of (kind_at b at))) m)

good_back : (n : ℕ) (b : List ℕ) (at : ℕ) (lent : List ℕ) → Below 256 b → lent_words ≤ length lent → length b - at < suc n → Sound b at
    → read_at b at (length lent) ≡ found_at b at
    → ((x : ℕ) → length b - x < n → (read_from n b x (lent_after b at lent)).number ≡ 0 → capture_of (read_from n b x (lent_after b at lent)).records ≡ drop x b)
    → (after n b (lent_after b at lent) (found_at b at)).number ≡ 0 → capture_of (after n b (lent_after b at lent) (found_at b at)).records ≡ drop at b
unfolding found_at capture_of
good_back n b at lent f m l s e rest z =
    let k : kind_at b at ≡ 0 → ⊥ = λ q. omega (arith, (known_is (kind_at b at) s.is_known).0) in
    let t = ne_eqb (kind_at b at) 0 k in
    let r = s.room in
    rw (t, lent_is b at lent m e, bytes_back b at f s)
    (ap (λ x. part b at (half + length_at b at) ++ x) (rest (at + half + length_at b at) (omega arith) (rw t at z) ∙ ap (λ i. drop i b) (join at half (length_at b at))
    ∙ sym (drop-drop (half + length_at b at) at b))
    ∙ take-append-drop (half + length_at b at) (drop at b))
  where
    join : (x y z : ℕ) → x + y + z ≡ x + (y + z)
    join x y z = omega arith

write_back : (n : ℕ) (b : List ℕ) (at : ℕ) (lent : List ℕ) → Below 256 b → lent_words ≤ length lent → length b - at < n
    → (read_from n b at lent).number ≡ 0 → capture_of (read_from n b at lent).records ≡ drop at b
unfolding read_from capture_of
write_back zero b at lent f m l z = absurd (omega arith)
write_back (suc n) b at lent f m l z =
    of (read_at b at (length lent)) (rw (← readable b at (length lent) m) at (view b at)) refl
    (λ x l'. write_back n b x (lent_after b at lent) f (rw (same-lent b at lent) m) l') z
  where
    of : (a : Answer) → At b at a → a ≡ read_at b at (length lent)
        → ((x : ℕ) → length b - x < n → (read_from n b x (lent_after b at lent)).number ≡ 0 → capture_of (read_from n b x (lent_after b at lent)).records ≡ drop x b)
        → (after n b (lent_after b at lent) a).number ≡ 0 → capture_of (after n b (lent_after b at lent) a).records ≡ drop at b
    of a (the_end e q) is rest z = rw (q, e, drop-length b) refl
    of a (bad r q) is rest z = absurd (r (rw q at z))
    of a (good s q) is rest z = rw q (good_back n b at lent f m l s (sym is ∙ q) rest (rw q at z))

-- ---- every record that was read can be written

-- four bytes make a number of 32 bits
word_below : (b : List ℕ) (at : ℕ) → Below 256 b → word_at b at < 2 ^ 32
unfolding word_at
word_below b at f = omega (arith, below_at b at f, below_at b (at + 1) f, below_at b (at + 2) f, below_at b (at + 3) f)

words_below : (b : List ℕ) (at n : ℕ) → Below 256 b → Below (2 ^ 32) (words_at b at n)
words_below b at zero f = tt
words_below b at (suc n) f = (word_below b at f, words_below b (at + whole) n f)

valid_at : (b : List ℕ) (at : ℕ) → Below 256 b → Sound b at → Valid (record_at b at)
valid_at b at f s =
    record {
      is_known = s.is_known;
      counted = length-words b (body_at at) (commands_of (kind_at b at));
      low = s.low;
      high = s.high;
      word_fits = either (eqb (kind_at b at) arrival) (word_below b (body_at at) f);
      stamp_fits = either (eqb (kind_at b at) arrival) (word_below b (body_at at + whole) f);
      commands_fit = words_below b (body_at at) (commands_of (kind_at b at)) f;
      image_plain = λ n. rw (ne_eqb (kind_at b at) arrival n) (refl, refl);
    }
  where
    either : (t : Bool) {x : ℕ} → x < 2 ^ 32 → cond t x 0 < 2 ^ 32
    either true h = h
    either false h = omega arith

good_valid : (n : ℕ) (b : List ℕ) (at : ℕ) (lent : List ℕ) → Below 256 b → lent_words ≤ length lent → Sound b at → read_at b at (length lent) ≡ found_at b at
    → ((x : ℕ) → AllValid (read_from n b x (lent_after b at lent)).records) → AllValid (after n b (lent_after b at lent) (found_at b at)).records
unfolding found_at
good_valid n b at lent f m s e rest =
    let k : kind_at b at ≡ 0 → ⊥ = λ q. omega (arith, (known_is (kind_at b at) s.is_known).0) in
    rw (ne_eqb (kind_at b at) 0 k, lent_is b at lent m e) (valid_at b at f s, rest (at + half + length_at b at))

all_valid : (n : ℕ) (b : List ℕ) (at : ℕ) (lent : List ℕ) → Below 256 b → lent_words ≤ length lent → AllValid (read_from n b at lent).records
unfolding read_from
all_valid zero b at lent f m = tt
all_valid (suc n) b at lent f m =
    of (read_at b at (length lent)) (rw (← readable b at (length lent) m) at (view b at)) refl
    (λ x. all_valid n b x (lent_after b at lent) f (rw (same-lent b at lent) m))
  where
    of : (a : Answer) → At b at a → a ≡ read_at b at (length lent) → ((x : ℕ) → AllValid (read_from n b x (lent_after b at lent)).records)
        → AllValid (after n b (lent_after b at lent) a).records
    of a (the_end e q) is rest = rw q tt
    of a (bad r q) is rest = rw q tt
    of a (good s q) is rest = rw q (good_valid n b at lent f m s (sym is ∙ q) rest)

-- ---- writing one record after another

writable : (long at : ℕ) (r : Record) → Valid r → at + half + length_of r.kind ≤ long → refusal_of long at r ≡ 0
unfolding write_refusal count_refusal channel_refusal room_refusal
writable long at r v h =
    let e : half + length_of r.kind ≤ long - at = omega arith in
    rw (
      v.is_known,
      v.counted,
      eq-eqb (commands_of r.kind) (commands_of r.kind) refl,
      le-ltb r.channel 1 v.low,
      le-ltb 12 r.channel v.high,
      le-ltb (long - at) (half + length_of r.kind) e,
    ) refl

written_is : (long at : ℕ) (r : Record) → refusal_of long at r ≡ 0 → written long at r ≡ record { number = 0; next = record { offset = at + half + length_of r.kind } }
unfolding written
written_is long at r e = rw (eq-eqb (refusal_of long at r) 0 e) refl

bytes_are : (b : List ℕ) (at : ℕ) (r : Record) → refusal_of (length b) at r ≡ 0 → bytes_after b at r ≡ sets b at (bytes_of r)
unfolding bytes_after
bytes_are b at r e = rw (eq-eqb (refusal_of (length b) at r) 0 e) refl

pub writes_one_after_another : WritesOneAfterAnother
unfolding WritesOneAfterAnother write_from capture_of
writes_one_after_another b at [] v h = let e : at + 0 ≡ at = omega arith in rw e refl
writes_one_after_another b at (r ∷ rs) v h =
    let lb = length-bytes r v.0 in
    let la = length-append (bytes_of r) (capture_of rs) in
    let w = writable (length b) at r v.0 (omega arith) in
    let s = length-sets b at (bytes_of r) in
    let o : at + half + length_of r.kind + length (capture_of rs) ≡ at + length (bytes_of r ++ capture_of rs) = omega arith in
    let p : at + half + length_of r.kind ≡ at + length (bytes_of r) = omega arith in
    rw (
      written_is (length b) at r w,
      bytes_are b at r w,
      writes_one_after_another (sets b at (bytes_of r)) (at + half + length_of r.kind) rs v.1 (omega arith),
      o,
      sets-append b at (bytes_of r) (capture_of rs),
      p,
    ) refl

pub writes_what_was_read : WritesWhatWasRead
unfolding WritesWhatWasRead WritesOneAfterAnother
writes_what_was_read b lent out f m long z =
    let rs : List Record = (read_all b lent).records in
    let is : capture_of rs ≡ b = write_back (suc (length b)) b 0 lent f m (omega arith) z in
    let l : length (capture_of rs) ≡ length b = ap length is in
    let w = writes_one_after_another out 0 rs (all_valid (suc (length b)) b 0 lent f m) (omega arith) in
    let o : 0 + length (capture_of rs) ≡ length b = omega arith in
    (is, w ∙ rw (o, is, all_set) refl)
  where
    -- as many bytes as there were, all of them stored
    all_set : sets out 0 b ≡ b
    all_set =
        let n : 0 + length b ≡ length out = omega (arith, long) in
        sets-eq b out 0 (omega (arith, long)) ∙ ap (λ (k : ℕ). b ++ drop k out) n ∙ ap (λ (r : List ℕ). b ++ r) (drop-length out) ∙ append-nil b

-- ---- the paper's example

pub example : Example
unfolding Example bytes_of body_of two four read_at seen_at refusal_at cut_of kind_refusal channel_refusal found_at half_at word_at known length_of commands_of
example = (refl, refl, refl, refl, refl)
