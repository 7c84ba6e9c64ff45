-- The label list, three numbers after three.
-- Assumes nothing.
use Rattle.std.proofs.Common.{◌≡◌, refl, ℕ, zero, suc, ◌*◌, ◌/◌, ◌%◌, ◌<◌, Bool, true, false, cond, ◌||◌, List, [], ◌∷◌, length, get_or, Some, eqb, arith}
use Rattle.std.specs.List.{list_any, find}
use Rattle.std.specs.Option.{option_map}
use Rattle.std.specs.Simd.{first_chunks}
use Rattle.label_list.specs.declared.entries.Entry.{Entry}
use Rattle.label_list.specs.Entries.{entry_wrong, list_wrong, entry_for}

-- whether three numbers are an entry that is refused
abbrev pub wrong : List ℕ → Bool
wrong e = entry_wrong (get_or e 0 0) (get_or e 1 0) (get_or e 2 0)

-- whether they are an entry for a label
abbrev pub is_for : ℕ → List ℕ → Bool
is_for wanted e = eqb (get_or e 0 0) wanted

-- what they say of it
abbrev pub entry_of : List ℕ → Entry
entry_of e = record { kind = get_or e 1 0; divisor = get_or e 2 0 }

-- an entry that is cut short
pub cut_short : (l : List ℕ) → 0 < length l % 3 → list_wrong l ≡ true
unfolding list_wrong
cut_short [] h = absurd (omega arith)
cut_short (a ∷ []) h = refl
cut_short (a ∷ b ∷ []) h = refl
cut_short (a ∷ b ∷ c ∷ l) h = go (entry_wrong a b c) (cut_short l (omega arith))
  where
    go : (t : Bool) → list_wrong l ≡ true → cond t true (list_wrong l) ≡ true
    go true e = refl
    go false e = e

-- a list of whole entries
pub any_wrong : (k : ℕ) (l : List ℕ) → length l ≡ 3 * k → list_any wrong (first_chunks 3 k l) ≡ list_wrong l
unfolding list_wrong
any_wrong zero [] h = refl
any_wrong zero (a ∷ l) h = absurd (omega arith)
any_wrong (suc k) [] h = absurd (omega arith)
any_wrong (suc k) (a ∷ []) h = absurd (omega arith)
any_wrong (suc k) (a ∷ b ∷ []) h = absurd (omega arith)
any_wrong (suc k) (a ∷ b ∷ c ∷ l) h = go (entry_wrong a b c) (any_wrong k l (omega arith))
  where
    go : (t : Bool) → list_any wrong (first_chunks 3 k l) ≡ list_wrong l → (t || list_any wrong (first_chunks 3 k l)) ≡ cond t true (list_wrong l)
    go true e = refl
    go false e = e

-- the first entry for a label
pub first_for : (wanted k : ℕ) (l : List ℕ) → length l / 3 ≡ k
    → option_map entry_of (find (is_for wanted) (first_chunks 3 k l)) ≡ entry_for wanted l
unfolding entry_for
first_for wanted zero [] h = refl
first_for wanted zero (a ∷ []) h = refl
first_for wanted zero (a ∷ b ∷ []) h = refl
first_for wanted zero (a ∷ b ∷ c ∷ l) h = absurd (omega arith)
first_for wanted (suc k) [] h = absurd (omega arith)
first_for wanted (suc k) (a ∷ []) h = absurd (omega arith)
first_for wanted (suc k) (a ∷ b ∷ []) h = absurd (omega arith)
first_for wanted (suc k) (a ∷ b ∷ c ∷ l) h = go (eqb a wanted) (first_for wanted k l (omega arith))
  where
    go : (t : Bool) → option_map entry_of (find (is_for wanted) (first_chunks 3 k l)) ≡ entry_for wanted l
        → option_map entry_of (cond t (Some (a ∷ b ∷ c ∷ [])) (find (is_for wanted) (first_chunks 3 k l)))
        ≡ cond t (Some (record { kind = b; divisor = c })) (entry_for wanted l)
    go true e = refl
    go false e = e
