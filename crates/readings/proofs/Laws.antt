-- What readings and encodings mean together (paper 02, (iv)).
-- Assumes nothing.
use mathlib.Core.Path.{◌≡◌, refl, sym, ap, ◌∙◌}
use mathlib.Core.Bool.{Bool, true, false, cond}
use mathlib.Core.List.{List}
use Prim.Native.Nat.{ℕ, zero, suc, ◌*◌, ◌/◌, ◌%◌, ◌^◌, ◌≤◌, ◌<◌}
use native.Mathlib.Omega.{arith}
use lib.Dec.{T, eqb, ltb}
use lib.IntN.{ℤ, pos, negsuc, neg_ℤ, nat_abs}
use lib.Signed.{mag}
use lib.Ieee.{Float, binary64, mul, of_int, in_signed}
use lib.Ieee.Exact.{HasValue}
use borrow.Author.Tests.{lt-ltb, le-ltb, eqb-true, ltb-true, ltb-false}
use Rattle.word.specs.Word.{label}
use Rattle.std.specs.Prelude.{Option, Some, None, Result, Ok, Err, ok_or}
use Rattle.label_list.specs.declared.entries.Entry.{Entry}
use Rattle.readings.specs.declared.refusals.Refusal.{Refusal}
use Rattle.readings.specs.declared.refusals.Refusal.TheVariants.{ListRefused, NoEntry, NoSign, DigitAboveNine, OutsideRange}
use Rattle.reading_fields.specs.Signs.{minus}
use Rattle.reading_fields.specs.Bits.{field, sign, plus, minus_sign, half, full, with_field, with_sign, twos_complement, twos_field}
use Rattle.reading_fields.specs.Digits.{lower, greatest_decimal, digit_above9, of_digits, to_digits}
use Rattle.readings.specs.declared.reading.Reading.TheVariants.{Binary, Decimal, Bits}
use Rattle.label_list.specs.Entries.{binary, decimal, bit_field, is_divisor, list_wrong, entry_for}
use Rattle.readings.specs.Refusals.{passed_on}
use Rattle.readings.specs.Listed.{listed, kind_in, divisor_in}
use Rattle.readings.specs.Reading.{decimal_whole, whole_by, whole, in_units, shown, reading_by, reading}
use Rattle.readings.specs.Units.{ths, scaled, count_of}
use Rattle.readings.specs.Encoding.{binary_encoded, decimal_encoded, encoded_by, encoded}
use Rattle.reading_fields.proofs.Places.{field_is, field_rest, field-same, field_below_full, above-field, sign_is, sign-field, sign_rest, below_sign, sign_same, twos_told, twos_again, twos_below}
use Rattle.reading_fields.proofs.Decimal.{field_below, number_below, of_to, to_right, to_of}
use Rattle.label_list.proofs.Divisors.{divisor_power, divisor_of}
use Rattle.readings.proofs.Exact.{units_exact, units_back}
use Rattle.readings.proofs.Counts.{count_is, count_size as type_size, count-minus as sign_of}

-- ---- what was read, encoded into the same word, gives the word back

binary_again : (w : ℕ) → binary_encoded w (twos_complement (field w)) ≡ Ok w
unfolding binary_encoded
binary_again w =
    let f = field w in
    let t = twos_again f (field_below_full w) in
    rw (lt-ltb (mag (twos_complement f)) half t.0, t.1) (ap Ok (field-same w))

-- the digits and a sign written over themselves
digits_again : (w : ℕ) → digit_above9 lower (field w) ≡ false
    → with_sign (with_field w (to_digits lower (of_digits lower (field w)))) (sign w) ≡ w
digits_again w d = rw (to_of lower (field w) d, field-same w) (sign_same w)

-- "minus zero excepted": bits 30 and 31 minus, and no digit
pub MinusZero : ℕ → ℕ → Type 0
MinusZero kind w = (kind ≡ decimal) × (sign w ≡ minus_sign) × (field w ≡ 0)

-- a sign and digits that are those of the word
decimal_back : (w : ℕ) (v : ℤ) → digit_above9 lower (field w) ≡ false → nat_abs v ≡ of_digits lower (field w) → cond (minus v) minus_sign plus ≡ sign w
    → decimal_encoded w v ≡ Ok w
unfolding decimal_encoded
decimal_back w v d n s =
    let h : of_digits lower (field w) < 80000 = number_below lower (field w) d (field_below_full w) in
    rw (n, s, le-ltb greatest_decimal (of_digits lower (field w)) (omega arith)) (ap Ok (digits_again w d))

decimal_again : (w : ℕ) (v : ℤ) → decimal_whole w ≡ Ok v → (sign w ≡ minus_sign → field w ≡ 0 → ⊥) → decimal_encoded w v ≡ Ok w
unfolding decimal_whole to_digits
decimal_again w v e z = go (eqb (sign w) plus) (eqb (sign w) minus_sign) (digit_above9 lower (field w)) refl refl refl e
  where
    below : (m : ℕ) → m ≡ of_digits lower (field w) → digit_above9 lower (field w) ≡ false → sign w ≡ minus_sign → decimal_encoded w (neg_ℤ (pos m)) ≡ Ok w
    below zero n d s = absurd (z s (sym (to_of lower (field w) d) ∙ ap (to_digits lower) (sym n)))
    below (suc m) n d s = decimal_back w (negsuc m) d n (sym s)

    given : Bool → Bool → Bool → Result ℤ Refusal
    given p q d =
        cond p (cond d (Err DigitAboveNine) (Ok (pos (of_digits lower (field w)))))
        (cond q (cond d (Err DigitAboveNine) (Ok (neg_ℤ (pos (of_digits lower (field w)))))) (Err NoSign))

    go : (p q d : Bool) → eqb (sign w) plus ≡ p → eqb (sign w) minus_sign ≡ q → digit_above9 lower (field w) ≡ d → given p q d ≡ Ok v
        → decimal_encoded w v ≡ Ok w
    go true q true P Q D e = cc
    go true q false P Q D e =
        let same : pos (of_digits lower (field w)) ≡ v = cc in
        rw (← same) (decimal_back w (pos (of_digits lower (field w))) D refl (sym (eqb-true (sign w) plus P)))
    go false true true P Q D e = cc
    go false true false P Q D e =
        let same : neg_ℤ (pos (of_digits lower (field w))) ≡ v = cc in
        rw (← same) (below (of_digits lower (field w)) refl D (eqb-true (sign w) minus_sign Q))
    go false false d P Q D e = cc

again_by : (kind w : ℕ) (v : ℤ) → whole_by kind w ≡ Ok v → (kind ≡ bit_field → ⊥) → (MinusZero kind w → ⊥) → encoded_by kind w v ≡ Ok w
unfolding whole_by encoded_by MinusZero
again_by kind w v e k z = go (eqb kind binary) (eqb kind decimal) (eqb kind bit_field) refl refl e
  where
    go : (a b c : Bool) → eqb kind decimal ≡ b → eqb kind bit_field ≡ c
        → cond a (Ok (twos_complement (field w))) (cond b (decimal_whole w) (cond c (Ok (pos (field w))) (Err NoEntry))) ≡ Ok v
        → cond a (binary_encoded w v) (cond b (decimal_encoded w v) (Err NoEntry)) ≡ Ok w
    go true b c B C e = let same : twos_complement (field w) ≡ v = cc in rw (← same) (binary_again w)
    go false true c B C e = decimal_again w v e (λ s f. z (eqb-true kind decimal B, s, f))
    go false false true B C e = absurd (k (eqb-true kind bit_field C))
    go false false false B C e = cc

-- "Encoding the whole number read from an accepted word into that word gives it back, minus zero excepted."
pub read_encoded : (list : List ℕ) (w : ℕ) (v : ℤ) → whole list w ≡ Ok v → (kind_in (entry_for (label w) list) ≡ bit_field → ⊥)
    → (MinusZero (kind_in (entry_for (label w) list)) w → ⊥) → encoded list w v ≡ Ok w
unfolding whole encoded listed
read_encoded list w v e k z = go (list_wrong list) (entry_for (label w) list) e k z
  where
    go : (t : Bool) (o : Option Entry)
        → passed_on (cond t (Err ListRefused) (ok_or o NoEntry)) (λ (entry : Entry). whole_by entry.kind w) ≡ Ok v
        → (kind_in o ≡ bit_field → ⊥) → (MinusZero (kind_in o) w → ⊥)
        → passed_on (cond t (Err ListRefused) (ok_or o NoEntry)) (λ (entry : Entry). encoded_by entry.kind w v) ≡ Ok w
    go true o e k z = cc
    go false None e k z = cc
    go false (Some entry) e k z = again_by entry.kind w v e k z

-- ---- what was encoded reads as the number

-- how an encoded word is made
data Made (kind w u : ℕ) (v : ℤ) : Type 0 where
  in_binary : kind ≡ binary → mag v < half → with_field w (twos_field (minus v) (mag v)) ≡ u → Made kind w u v
  in_decimal : kind ≡ decimal → nat_abs v ≤ greatest_decimal → with_sign (with_field w (to_digits lower (nat_abs v))) (cond (minus v) minus_sign plus) ≡ u
      → Made kind w u v

made_by : (kind w u : ℕ) (v : ℤ) → encoded_by kind w v ≡ Ok u → Made kind w u v
unfolding encoded_by binary_encoded decimal_encoded
made_by kind w u v e = go (eqb kind binary) (eqb kind decimal) (ltb (mag v) half) (ltb greatest_decimal (nat_abs v)) refl refl refl refl e
  where
    f : ℕ
    f = with_field w (twos_field (minus v) (mag v))

    g : ℕ
    g = with_sign (with_field w (to_digits lower (nat_abs v))) (cond (minus v) minus_sign plus)

    go : (a b s t : Bool) → eqb kind binary ≡ a → eqb kind decimal ≡ b → ltb (mag v) half ≡ s → ltb greatest_decimal (nat_abs v) ≡ t
        → cond a (cond s (Ok f) (Err OutsideRange)) (cond b (cond t (Err OutsideRange) (Ok g)) (Err NoEntry)) ≡ Ok u → Made kind w u v
    go true b true t A B S T e = let same : f ≡ u = cc in in_binary (eqb-true kind binary A) (ltb-true (mag v) half S) same
    go true b false t A B S T e = let z : ◌≡◌ {A = ℕ} 0 1 = cc in absurd (omega arith)
    go false true s true A B S T e = let z : ◌≡◌ {A = ℕ} 0 1 = cc in absurd (omega arith)
    go false true s false A B S T e =
        let same : g ≡ u = cc in in_decimal (eqb-true kind decimal B) (ltb-false greatest_decimal (nat_abs v) T) same
    go false false s t A B S T e = let z : ◌≡◌ {A = ℕ} 0 1 = cc in absurd (omega arith)

whole-plus : (u m : ℕ) → sign u ≡ plus → field u ≡ to_digits lower m → decimal_whole u ≡ Ok (pos m)
unfolding decimal_whole
whole-plus u m s f = rw (s, f, to_right lower m, of_to lower m)

whole-minus : (u m : ℕ) → sign u ≡ minus_sign → field u ≡ to_digits lower m → decimal_whole u ≡ Ok (neg_ℤ (pos m))
unfolding decimal_whole
whole-minus u m s f = rw (s, f, to_right lower m, of_to lower m)

decimal_told : (w : ℕ) (v : ℤ) → nat_abs v ≤ greatest_decimal
    → decimal_whole (with_sign (with_field w (to_digits lower (nat_abs v))) (cond (minus v) minus_sign plus)) ≡ Ok v
decimal_told w v h = go v (field_below lower (nat_abs v) (omega arith))
  where
    digits : (s m : ℕ) → to_digits lower m < full → field (with_sign (with_field w (to_digits lower m)) s) ≡ to_digits lower m
    digits s m l = sign-field (with_field w (to_digits lower m)) s ∙ field_is w (to_digits lower m) l

    go : (v : ℤ) → to_digits lower (nat_abs v) < full
        → decimal_whole (with_sign (with_field w (to_digits lower (nat_abs v))) (cond (minus v) minus_sign plus)) ≡ Ok v
    go (pos n) l =
        whole-plus (with_sign (with_field w (to_digits lower n)) plus) n (sign_is (with_field w (to_digits lower n)) plus (omega arith)) (digits plus n l)
    go (negsuc n) l =
        whole-minus (with_sign (with_field w (to_digits lower (suc n))) minus_sign) (suc n)
        (sign_is (with_field w (to_digits lower (suc n))) minus_sign (omega arith)) (digits minus_sign (suc n) l)

told_by_lem : (kind w u : ℕ) (v : ℤ) → Made kind w u v → whole_by kind u ≡ Ok v
unfolding whole_by
told_by_lem kind w u v (in_binary k h e) = rw (k, ← e, field_is w (twos_field (minus v) (mag v)) (twos_below v h), twos_told v h)
told_by_lem kind w u v (in_decimal k h e) = rw (k, ← e) (decimal_told w v h)

-- "whose other bits stay": all but the field and, in a decimal, the sign
pub record Kept (kind w u : ℕ) : Type 0 where
  pub low : u % 2 ^ 10 ≡ w % 2 ^ 10
  pub top : u / 2 ^ 31 ≡ w / 2 ^ 31
  pub sign_of_binary : kind ≡ binary → sign u ≡ sign w

kept_by : (kind w u : ℕ) (v : ℤ) → Made kind w u v → Kept kind w u
kept_by kind w u v (in_binary k h e) =
    let r = field_rest w (twos_field (minus v) (mag v)) (twos_below v h) in
    let a = above-field u w (rw (← e) r.1) in
    record { low = rw (← e) r.0; top = a.0; sign_of_binary = λ b. a.1 }
kept_by kind w u v (in_decimal k h e) =
    let x = with_field w (to_digits lower (nat_abs v)) in
    let r = field_rest w (to_digits lower (nat_abs v)) (field_below lower (nat_abs v) (omega arith)) in
    let q = sign_rest x (cond (minus v) minus_sign plus) (sign_below (minus v)) in
    record {
      low = below_sign u x (rw (← e) q.0) ∙ r.0;
      top = rw (← e) q.1 ∙ (above-field x w r.1).0;
      sign_of_binary = λ b. absurd (omega arith);
    }
  where
    sign_below : (m : Bool) → cond m minus_sign plus < 4
    sign_below true = omega arith
    sign_below false = omega arith

-- an encoded word has an entry that is not wrong, and was made by its kind
made_from : (list : List ℕ) (w u : ℕ) (v : ℤ) → encoded list w v ≡ Ok u
    → (list_wrong list ≡ false) × Made (kind_in (entry_for (label w) list)) w u v
unfolding encoded listed
made_from list w u v e = go (list_wrong list) (entry_for (label w) list) refl e
  where
    go : (t : Bool) (o : Option Entry) → list_wrong list ≡ t
        → passed_on (cond t (Err ListRefused) (ok_or o NoEntry)) (λ (entry : Entry). encoded_by entry.kind w v) ≡ Ok u
        → (list_wrong list ≡ false) × Made (kind_in o) w u v
    go true o l e = let z : ◌≡◌ {A = ℕ} 0 1 = cc in absurd (omega arith)
    go false None l e = let z : ◌≡◌ {A = ℕ} 0 1 = cc in absurd (omega arith)
    go false (Some entry) l e = (l, made_by entry.kind w u v e)

-- "a whole number .. is put into a given word, whose other bits stay"
pub encoded_keeps : (list : List ℕ) (w u : ℕ) (v : ℤ) → encoded list w v ≡ Ok u → Kept (kind_in (entry_for (label w) list)) w u
encoded_keeps list w u v e = kept_by (kind_in (entry_for (label w) list)) w u v (made_from list w u v e).1

-- by its kind, where a word has an entry
whole_listed : (list : List ℕ) (w u : ℕ) (v : ℤ) → list_wrong list ≡ false → label u ≡ label w
    → Made (kind_in (entry_for (label w) list)) w u v → whole list u ≡ Ok v
unfolding whole listed
whole_listed list w u v l b m = rw (l, b) (go (entry_for (label w) list) m)
  where
    go : (o : Option Entry) → Made (kind_in o) w u v → passed_on (ok_or o NoEntry) (λ (entry : Entry). whole_by entry.kind u) ≡ Ok v
    go None (in_binary k h e) = absurd (omega arith)
    go None (in_decimal k h e) = absurd (omega arith)
    go (Some entry) m = told_by_lem entry.kind w u v m

-- reading what was encoded gives the number
pub encoded_read : (list : List ℕ) (w u : ℕ) (v : ℤ) → encoded list w v ≡ Ok u → whole list u ≡ Ok v
encoded_read list w u v e =
    let m = made_from list w u v e in
    let k = kept_by (kind_in (entry_for (label w) list)) w u v m.1 in
    let b : u % 256 ≡ w % 256 = omega (arith, k.low) in
    whole_listed list w u v m.0 (rw b refl) m.1

-- ---- a reading in units is exact

-- no instructor reads a rounded value: the f64 is the whole number over the divisor, and times the divisor it is the whole number
pub record Exact (x : Float) (v : ℤ) (d : ℕ) : Type 0 where
  pub quotient : HasValue x (minus v) (nat_abs v) d
  pub back : mul binary64 x (of_int binary64 (pos d)) ≡ of_int binary64 v
  -- the machine's count of 262,144ths is one, and over 262,144 it is the whole number over the divisor, with its sign
  pub counts : T (in_signed binary64 63 (scaled x))
  pub count_size : nat_abs (count_of x) * d ≡ nat_abs v * ths
  pub count-minus : minus (count_of x) ≡ minus v

exact_units : (f d : ℕ) → f < full → is_divisor d ≡ true → Exact (in_units (twos_complement f) d) (twos_complement f) d
exact_units f d h e =
    let v = twos_complement f in
    let p = divisor_power d e in
    let k = p.exponent in
    let l : nat_abs v ≤ 2 ^ 18 = small v (twos_again f h).0 in
    let m : k ≤ 18 = p.most in
    rw p.is
    (record {
      quotient = units_exact v k (omega arith) (omega arith);
      back = units_back v k (omega arith) (omega arith);
      counts = (count_is v k l m).0;
      count_size = type_size v k l m;
      count-minus = sign_of v k l m;
    })
  where
    small : (v : ℤ) → mag v < half → nat_abs v ≤ 2 ^ 18
    small (pos n) h = omega arith
    small (negsuc n) h = omega arith

binary_whole : (kind w : ℕ) (v : ℤ) → kind ≡ binary → whole_by kind w ≡ Ok v → twos_complement (field w) ≡ v
unfolding whole_by
binary_whole kind w v k e = let f : ◌≡◌ {A = Result ℤ Refusal} (Ok (twos_complement (field w))) (Ok v) = rw k at e in cc

-- of a word with an entry
exact_by : (list : List ℕ) (w : ℕ) (x : Float) (v : ℤ) (entry : Entry) → list_wrong list ≡ false → entry_for (label w) list ≡ Some entry
    → whole_by entry.kind w ≡ Ok v → shown entry w v ≡ Binary x → Exact x v entry.divisor
unfolding shown
exact_by list w x v entry l o e s = go (eqb entry.kind binary) (eqb entry.kind decimal) refl s
  where
    go : (b c : Bool) → eqb entry.kind binary ≡ b → cond b (Binary (in_units v entry.divisor)) (cond c (Decimal v) (Bits (field w))) ≡ Binary x
        → Exact x v entry.divisor
    go true c B s =
        let q : in_units v entry.divisor ≡ x = cc in
        let k : entry.kind ≡ binary = eqb-true entry.kind binary B in
        rw (← q, ← binary_whole entry.kind w v k e)
        (exact_units (field w) entry.divisor (field_below_full w) (divisor_of (label w) list entry l o k))
    go false true B s = let z : ◌≡◌ {A = ℕ} 0 1 = cc in absurd (omega arith)
    go false false B s = let z : ◌≡◌ {A = ℕ} 0 1 = cc in absurd (omega arith)

-- "divided once, in f64": of a word that reads as a number in units
pub reading_exact : (list : List ℕ) (w : ℕ) (x : Float) → reading list w ≡ Ok (Binary x)
    → (v : ℤ) × (whole list w ≡ Ok v) × Exact x v (divisor_in (entry_for (label w) list))
unfolding reading reading_by whole listed
reading_exact list w x e = go (list_wrong list) (entry_for (label w) list) refl refl e
  where
    by_value : (entry : Entry) (r : Result ℤ Refusal) → list_wrong list ≡ false → entry_for (label w) list ≡ Some entry → whole_by entry.kind w ≡ r
        → passed_on r (λ (value : ℤ). Ok (shown entry w value)) ≡ Ok (Binary x) → (v : ℤ) × (r ≡ Ok v) × Exact x v entry.divisor
    by_value entry (Ok v) l o r e = let s : shown entry w v ≡ Binary x = cc in (v, refl, exact_by list w x v entry l o r s)
    by_value entry (Err refusal) l o r e = let z : ◌≡◌ {A = ℕ} 0 1 = cc in absurd (omega arith)

    go : (t : Bool) (o : Option Entry) → list_wrong list ≡ t → entry_for (label w) list ≡ o
        → passed_on (cond t (Err ListRefused) (ok_or o NoEntry))
        (λ (entry : Entry). passed_on (whole_by entry.kind w) (λ (value : ℤ). Ok (shown entry w value)))
        ≡ Ok (Binary x)
        → (v : ℤ) × (passed_on (cond t (Err ListRefused) (ok_or o NoEntry)) (λ (entry : Entry). whole_by entry.kind w) ≡ Ok v) × Exact x v (divisor_in o)
    go true o l p e = let z : ◌≡◌ {A = ℕ} 0 1 = cc in absurd (omega arith)
    go false None l p e = let z : ◌≡◌ {A = ℕ} 0 1 = cc in absurd (omega arith)
    go false (Some entry) l p e = by_value entry (whole_by entry.kind w) l p refl e
