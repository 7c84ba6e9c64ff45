-- The tests of a list of items: which are calls, and how many there are.
-- Assumes nothing.
use Prim.Native.Nat.{ℕ, zero, suc, ◌+◌, ◌*◌, ◌-◌, ◌/◌, ◌%◌, ◌<◌, ◌≤◌}
use mathlib.Core.Path.{◌≡◌, refl, sym, ap, ◌∙◌}
use mathlib.Core.Bool.{Bool, true, false, ◌&&◌, and-false}
use mathlib.Core.List.{List}
use native.Mathlib.Omega.{arith}
use native.Mathlib.Numerals.{add-one}
use borrow.Author.Tests.{lt-ltb, le-ltb, eqb-true, eqb-false}
use lib.Dec.{eqb, ltb}
use lib.ListN.{length}
use Rattle.sessions.specs.Sessions.{item_bytes, item_at}
use Rattle.reasons.specs.Question.{most_items, item_count, is_call, calls_to, are_calls}

-- one item more is a call
pub one_more : (n : ℕ) (bytes : List ℕ) → calls_to n bytes ≡ true → is_call (item_at bytes (item_bytes * n)) ≡ true → calls_to (n + 1) bytes ≡ true
one_more n bytes h e = rw (add-one, h) e

-- an item that is no call
none_to : (n k : ℕ) (bytes : List ℕ) → k < n → is_call (item_at bytes (item_bytes * k)) ≡ false → calls_to n bytes ≡ false
none_to zero k bytes h e = absurd (omega arith)
none_to (suc n) k bytes h e = go (eqb k n) refl (λ l. none_to n k bytes l e)
  where
    go : (t : Bool) → eqb k n ≡ t → (k < n → calls_to n bytes ≡ false) → (calls_to n bytes && is_call (item_at bytes (item_bytes * n))) ≡ false
    go true q r =
        let is : k ≡ n = eqb-true k n q in
        rw (ap (λ (i : ℕ). is_call (item_at bytes (item_bytes * i))) (sym is) ∙ e) (and-false (calls_to n bytes))
    go false q r =
        let d : k ≡ n → ⊥ = eqb-false k n q in
        rw (r (omega (arith, h, d))) refl

pub no_call : (n : ℕ) (bytes : List ℕ) → n < length bytes / item_bytes → is_call (item_at bytes (item_bytes * n)) ≡ false → are_calls bytes ≡ false
unfolding are_calls
no_call n bytes h e = rw (none_to (length bytes / item_bytes) n bytes h e) refl

-- all whole items are calls: then by whether the last is cut
pub all_calls : (bytes : List ℕ) → calls_to (length bytes / item_bytes) bytes ≡ true → eqb (length bytes % item_bytes) 0 ≡ are_calls bytes
unfolding are_calls
all_calls bytes h = rw h refl

-- "a list above 4,096 calls"
pub too_many : (bytes : List ℕ) → item_bytes * most_items < length bytes → ltb most_items (item_count bytes) ≡ true
too_many bytes h = lt-ltb most_items (item_count bytes) (omega (arith, h))

pub few_enough : (bytes : List ℕ) → length bytes ≤ item_bytes * most_items → ltb most_items (item_count bytes) ≡ false
few_enough bytes h = le-ltb most_items (item_count bytes) (omega (arith, h))

pub ruleset sizes = (too_many, few_enough)
