-- The divisors of a list are the powers of two from 1 to 262,144.
-- Assumes nothing.
use mathlib.Core.Path.{◌≡◌, refl, sym, ap, ◌∙◌}
use mathlib.Core.Bool.{Bool, true, false, not, cond, true≢false}
use mathlib.Core.Logic.{◌⊎◌, inl, inr}
use mathlib.Core.List.{List, [], ◌∷◌}
use Prim.Native.Nat.{ℕ, zero, suc, ◌/◌, ◌%◌, ◌^◌, ◌≤◌, ◌<◌}
use native.Mathlib.Nat.{pow-suc, eq-zero-or-pos}
use native.Mathlib.Decide.{dec_le}
use native.Mathlib.Omega.{arith}
use Rattle.std.specs.Prelude.{Some}
use lib.Count.{ones_in}
use lib.Dec.{eqb, ltb}
use lib.Pow.{pow_mono}
use borrow.Author.Tests.{eqb-true, ltb-false, eq-eqb}
use Rattle.word.specs.Word.{ones}
use Rattle.word.proofs.Computed.{passes}
use Rattle.label_list.specs.declared.entries.Entry.{Entry}
use Rattle.label_list.specs.Entries.{is_divisor, entry_wrong, list_wrong, entry_for, binary}

-- a power of two from 1 to 2 ^ n
pub record Power (n d : ℕ) : Type 0 where
  pub exponent : ℕ
  pub most : exponent ≤ n
  pub is : d ≡ 2 ^ exponent

-- a number with no ones is 0
no_ones : (n d : ℕ) → d < 2 ^ n → ones_in n d ≡ 0 → d ≡ 0
unfolding ones_in
no_ones zero d h e = omega arith
no_ones (suc n) d h e = let z : d / 2 ≡ 0 = no_ones n (d / 2) (omega (arith, rw pow-suc at h)) (omega arith) in omega arith

-- a number with one one is a power of two
one_one : (n d : ℕ) → d < 2 ^ suc n → ones_in (suc n) d ≡ 1 → Power n d
unfolding ones_in
one_one zero d h e = record { exponent = 0; most = omega arith; is = omega arith }
one_one (suc n) d h e = go (one_one n (d / 2) (omega (arith, rw pow-suc at h))) (eq-zero-or-pos (d % 2))
  where
    twice : Power n (d / 2) → d % 2 ≡ 0 → Power (suc n) d
    twice p z = record {
      exponent = suc p.exponent;
      most = omega (arith, p.most);
      is = let q : d / 2 ≡ 2 ^ p.exponent = p.is in rw (pow-suc 2 p.exponent) (omega arith);
    }

    go : (ones_in (suc n) (d / 2) ≡ 1 → Power n (d / 2)) → (d % 2 ≡ 0) ⊎ (0 < d % 2) → Power (suc n) d
    go rest (inl z) = twice (rest (omega arith)) z
    go rest (inr o) =
        let z : d / 2 ≡ 0 = no_ones (suc n) (d / 2) (omega (arith, rw pow-suc at h)) (omega arith) in
        record { exponent = 0; most = omega arith; is = omega arith }

-- "a power of two from 1 to 262,144": each divisor is one
pub divisor_power : (d : ℕ) → is_divisor d ≡ true → Power 18 d
unfolding is_divisor ones
divisor_power d e = go (ltb (2 ^ 18) d) refl e
  where
    within : Power 31 d → d ≤ 2 ^ 18 → Power 18 d
    within p l = record { exponent = p.exponent; most = at_most (dec_le p.exponent 18); is = p.is }
      where
        at_most : Dec (p.exponent ≤ 18) → p.exponent ≤ 18
        at_most (yes m) = m
        at_most (no m) = let q : 2 ^ 19 ≤ 2 ^ p.exponent = pow_mono {i = 19} {j = p.exponent} (omega arith) in absurd (omega (arith, p.is))

    go : (t : Bool) → ltb (2 ^ 18) d ≡ t → cond t false (eqb (ones_in 32 d) 1) ≡ true → Power 18 d
    go true w e = absurd (true≢false (sym e))
    go false w e =
        let l : d ≤ 2 ^ 18 = ltb-false (2 ^ 18) d w in within (one_one 31 d (omega arith) (eqb-true (ones_in 32 d) 1 e)) l

-- and each of them is a divisor
pub power_divisor : (k : ℕ) → k < 19 → is_divisor (2 ^ k) ≡ true
unfolding is_divisor ones ones_in
power_divisor k h = passes (λ j. is_divisor (2 ^ j)) 19 tt k h

not_false : (t : Bool) → not t ≡ false → t ≡ true
not_false true e = refl
not_false false e = absurd (true≢false e)

-- a binary entry that is not wrong has a divisor
right_binary : (label kind divisor : ℕ) → entry_wrong label kind divisor ≡ false → kind ≡ binary → is_divisor divisor ≡ true
unfolding entry_wrong
right_binary label kind divisor e k = go (ltb 255 label) (rw (eq-eqb kind binary k) at e)
  where
    go : (t : Bool) → cond t true (not (is_divisor divisor)) ≡ false → is_divisor divisor ≡ true
    go true e = absurd (true≢false e)
    go false e = not_false (is_divisor divisor) e

-- what counts for a label in a list that is not wrong: a binary entry has a divisor
pub divisor_of : (wanted : ℕ) (list : List ℕ) (entry : Entry) → list_wrong list ≡ false → entry_for wanted list ≡ Some entry → entry.kind ≡ binary
    → is_divisor entry.divisor ≡ true
unfolding list_wrong entry_for
divisor_of wanted [] entry r s k = absurd (cc)
divisor_of wanted (l ∷ []) entry r s k = absurd (cc)
divisor_of wanted (l ∷ n ∷ []) entry r s k = absurd (cc)
divisor_of wanted (l ∷ n ∷ d ∷ rest) entry r s k = go (eqb l wanted) (entry_wrong l n d) refl (divisor_of wanted rest entry) r s
  where
    go : (t u : Bool) → entry_wrong l n d ≡ u
        → (list_wrong rest ≡ false → entry_for wanted rest ≡ Some entry → entry.kind ≡ binary → is_divisor entry.divisor ≡ true)
        → cond u true (list_wrong rest) ≡ false → cond t (Some (record { kind = n; divisor = d })) (entry_for wanted rest) ≡ Some entry
        → is_divisor entry.divisor ≡ true
    go t true e behind r s = absurd (true≢false r)
    go true false e behind r s =
        let q : ◌≡◌ {A = Entry} (record { kind = n; divisor = d }) entry = cc in
        rw (← q) (right_binary l n d e (ap (λ (x : Entry). x.kind) q ∙ k))
    go false false e behind r s = behind r s k
