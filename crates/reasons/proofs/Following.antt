-- One item more: the memory, and the arrival followed. At most as many entries are held before the arrival as items were performed.
-- Assumes nothing.
use Prim.Native.Nat.{ℕ, zero, suc, ◌+◌, ◌*◌, ◌≤◌}
use mathlib.Core.Path.{◌≡◌}
use mathlib.Core.List.{List}
use native.Mathlib.Omega.{arith}
use native.Mathlib.Numerals.{add-one}
use Rattle.registers.specs.Access.{access_answer}
use Rattle.calls.specs.Performed.{item_after}
use Rattle.std.proofs.Common.{Option, None, Some}
use Rattle.registers.specs.declared.accesses.Access.{Access}
use Rattle.sessions.specs.Sessions.{item_bytes, item_at, performed}
use Rattle.following.specs.Course.{held_before}
use Rattle.following.specs.declared.course.Watch.{Watch}
use Rattle.following.proofs.Held.{held_next}
use Rattle.reasons.specs.Followed.{followed, followed_to}

item_held : (i : Option Access) (ch place at : ℕ) (m : List ℕ) (w : Watch) → held_before (followed i ch place at m w).course ≤ suc (held_before w.course)
item_held None ch place at m w = omega arith
item_held (Some x) ch place at m w = held_next ch place at x (access_answer x m) w

pub held_to : (n : ℕ) (bytes : List ℕ) (ch place : ℕ) (m : List ℕ) → held_before (followed_to n bytes ch place m).course ≤ n
held_to zero bytes ch place m = omega arith
held_to (suc n) bytes ch place m =
    let h = held_to n bytes ch place m in
    let k = item_held (item_at bytes (item_bytes * n)) ch place (n + 1) (performed n bytes m) (followed_to n bytes ch place m) in
    omega (arith, h, k)

module _ (bytes : List ℕ) (ch place : ℕ) (m₀ : List ℕ) where
  -- what is held so far, and what one item more makes of it
  pub one_more : (n : ℕ) (m m' : List ℕ) (w w' : Watch) → w ≡ followed_to n bytes ch place m₀ → m ≡ performed n bytes m₀
      → w' ≡ followed (item_at bytes (item_bytes * n)) ch place (n + 1) m w → m' ≡ item_after (item_at bytes (item_bytes * n)) m
      → (w' ≡ followed_to (n + 1) bytes ch place m₀) × (m' ≡ performed (n + 1) bytes m₀)
  one_more n m m' w w' p q r s = rw (add-one, ← p, ← q) (r, s)
