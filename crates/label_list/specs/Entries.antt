-- "by a label list the site supplies, each entry three 32-bit numbers: label, kind (1 binary, 2 decimal, 3 bit field), divisor (read for
-- binary only)" (paper 02, (iv)).
use Rattle.std.specs.Prelude.{ℕ, ◌^◌, Bool, true, false, not, cond, List, [], ◌∷◌, eqb, ltb, Option, Some, None}
use Rattle.word.specs.Word.{ones}
use Rattle.label_list.specs.declared.entries.Entry.{Entry}

abbrev pub binary : ℕ
binary = 1

abbrev pub decimal : ℕ
decimal = 2

abbrev pub bit_field : ℕ
bit_field = 3

-- "a power of two from 1 to 262,144": a power of two has one bit that is one
unfoldable pub is_divisor : ℕ → Bool
is_divisor d = cond (ltb (2 ^ 18) d) false (eqb (ones d) 1)

-- "a label above 255, an unknown kind or (binary) another divisor"
unfoldable pub entry_wrong : ℕ → ℕ → ℕ → Bool
entry_wrong label kind divisor =
    cond (ltb 255 label) true
    (cond (eqb kind binary) (not (is_divisor divisor)) (cond (eqb kind decimal) false (cond (eqb kind bit_field) false true)))

-- "60 any entry that is cut short or has" one of these
unfoldable pub list_wrong : List ℕ → Bool
unfolding entry_wrong
list_wrong [] = false
list_wrong (label ∷ []) = true
list_wrong (label ∷ kind ∷ []) = true
list_wrong (label ∷ kind ∷ divisor ∷ rest) = cond (entry_wrong label kind divisor) true (list_wrong rest)

-- "The first entry for a label counts."
unfoldable pub entry_for : ℕ → List ℕ → Option Entry
entry_for wanted [] = None
entry_for wanted (label ∷ []) = None
entry_for wanted (label ∷ kind ∷ []) = None
entry_for wanted (label ∷ kind ∷ divisor ∷ rest) =
    cond (eqb label wanted) (Some (record { kind = kind; divisor = divisor })) (entry_for wanted rest)
