-- What a question that is not refused says of its numbers.
-- Assumes nothing.
use Prim.Native.Nat.{ℕ, ◌-◌, ◌%◌, ◌≤◌}
use mathlib.Core.Path.{◌≡◌, refl, sym}
use mathlib.Core.Bool.{Bool, true, false, cond, true≢false}
use mathlib.Core.List.{List}
use native.Mathlib.Omega.{arith}
use borrow.Author.Tests.{le-ltb, ltb-false, eqb-true, eqb-false}
use lib.Dec.{eqb, ltb}
use lib.ListN.{length}
use Rattle.little_endian.specs.LittleEndian.{word_at}
use Rattle.block.specs.Refusals.{first}
use Rattle.frame.specs.Layout.{most, need}
use Rattle.power.specs.Power.{power_refusal}
use Rattle.sessions.specs.Sessions.{item_bytes}
use Rattle.following.proofs.Lookup.{both}
use Rattle.reasons.specs.Question.{most_items, arrive, item_count, whole_count, index_at, calls_to, are_calls, is_arrival, list_refusal, question_refusal, Asked}

-- of two refusals joined, neither
first_none : (a b : ℕ) → first a b ≡ 0 → (a ≡ 0) × (b ≡ 0)
first_none a b e = go (eqb a 0) refl e
  where
    go : (t : Bool) → eqb a 0 ≡ t → cond t b a ≡ 0 → (a ≡ 0) × (b ≡ 0)
    go true z e = (eqb-true a 0 z, e)
    go false z e = absurd (eqb-false a 0 z e)

-- the count and the words
pub record Powers (count words : ℕ) : Type 0 where
  pub some : 1 ≤ count
  pub most : count ≤ most
  pub room : need count ≤ words

pub powers : (count words : ℕ) → power_refusal count words ≡ 0 → Powers count words
unfolding power_refusal
powers count words = go (ltb count 1) refl (ltb most count) refl (ltb words (need count)) refl
  where
    go : (a : Bool) → ltb count 1 ≡ a → (b : Bool) → ltb most count ≡ b → (c : Bool) → ltb words (need count) ≡ c
        → ◌≡◌ {A = ℕ} (cond a 4 (cond b 4 (cond c 1 0))) 0 → Powers count words
    go true p b q c r e = absurd (omega (arith, e))
    go false p true q c r e = absurd (omega (arith, e))
    go false p false q true r e = absurd (omega (arith, e))
    go false p false q false r e = record { some = ltb-false _ _ p; most = ltb-false _ _ q; room = ltb-false _ _ r }

pub accepted : (count : ℕ) → 1 ≤ count → count ≤ most → (words : ℕ) → words ≡ need count → power_refusal count words ≡ 0
unfolding power_refusal
accepted count low high words e = rw (e, le-ltb count 1 low, le-ltb most count high, le-ltb (need count) (need count) (omega arith)) refl

whole_calls : (bytes : List ℕ) → are_calls bytes ≡ true → (calls_to (whole_count bytes) bytes ≡ true) × (length bytes % item_bytes ≡ 0)
unfolding are_calls
whole_calls bytes e =
    let b = both (calls_to (whole_count bytes) bytes) (eqb (length bytes % item_bytes) 0) e in
    (b.0, eqb-true (length bytes % item_bytes) 0 b.1)

record Arrives (bytes : List ℕ) (place : ℕ) : Type 0 where
  low : 1 ≤ place
  high : place ≤ whole_count bytes
  is : word_at bytes (index_at bytes place) ≡ arrive

arrival : (bytes : List ℕ) (place : ℕ) → is_arrival bytes place ≡ true → Arrives bytes place
unfolding is_arrival
arrival bytes place = go (ltb place 1) refl (ltb (whole_count bytes) place) refl
  where
    go : (a : Bool) → ltb place 1 ≡ a → (b : Bool) → ltb (whole_count bytes) place ≡ b
        → cond a false (cond b false (eqb (word_at bytes (index_at bytes place)) arrive)) ≡ true → Arrives bytes place
    go true p b q e = absurd (true≢false (sym e))
    go false p true q e = absurd (true≢false (sym e))
    go false p false q e = record { low = ltb-false _ _ p; high = ltb-false _ _ q; is = eqb-true _ _ e }

pub asked : (count : ℕ) (bytes : List ℕ) (place words : ℕ) → question_refusal count bytes place words ≡ 0 → (need count ≤ words) × Asked count bytes place
unfolding question_refusal list_refusal
asked count bytes place words e =
    let f = first_none (power_refusal count words) (list_refusal bytes place) e in
    let p = powers count words f.0 in
    (p.room, go p (ltb most_items (item_count bytes)) refl (are_calls bytes) refl (is_arrival bytes place) refl f.1)
  where
    go : Powers count words → (a : Bool) → ltb most_items (item_count bytes) ≡ a → (b : Bool) → are_calls bytes ≡ b → (c : Bool) → is_arrival bytes place ≡ c
        → ◌≡◌ {A = ℕ} (cond a 41 (cond b (cond c 0 40) 42)) 0 → Asked count bytes place
    go p true h b i c j e = absurd (omega (arith, e))
    go p false h false i c j e = absurd (omega (arith, e))
    go p false h true i false j e = absurd (omega (arith, e))
    go p false h true i true j e =
        let k = ltb-false most_items (item_count bytes) h in
        let w = whole_calls bytes i in
        let v = arrival bytes place j in
        record {
          some = p.some;
          most = p.most;
          few = omega (arith, k);
          whole = w.1;
          calls = w.0;
          low = v.low;
          high = v.high;
          arrives = v.is;
        }
