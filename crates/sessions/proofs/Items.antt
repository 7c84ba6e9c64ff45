-- The answer and the memory of an item whose four words are read one by one; the memory after one item more, and after the last whole item.
-- Assumes nothing.
use Prim.Native.Nat.{ℕ, suc, ◌+◌, ◌*◌, ◌/◌, ◌-◌, ◌<◌, ◌≤◌}
use mathlib.Core.Path.{◌≡◌, refl}
use mathlib.Core.List.{List}
use native.Mathlib.Omega.{arith}
use lib.ListN.{length}
use Rattle.little_endian.specs.LittleEndian.{word_at}
use Rattle.items.specs.Items.{decoded}
use Rattle.calls.specs.Performed.{item_after}
use Rattle.sessions.specs.Sessions.{item_bytes, item_at, performed}

pub made_of : (bytes : List ℕ) (at op ch a b : ℕ) → op ≡ word_at bytes at → ch ≡ word_at bytes (at + 4) → a ≡ word_at bytes (at + 8) → b ≡ word_at bytes (at + 12)
    → decoded op ch a b ≡ item_at bytes at
unfolding item_at
made_of bytes at op ch a b p q r s = rw (p, q, r, s) refl

pub one_more : (at : ℕ) (bytes m₀ m n : List ℕ) → at ≡ item_bytes * (at / item_bytes) → m ≡ performed (at / item_bytes) bytes m₀ → n ≡ item_after (item_at bytes at) m
    → n ≡ performed ((at + item_bytes) / item_bytes) bytes m₀
one_more at bytes m₀ m n q h e =
    let s : (at + item_bytes) / item_bytes ≡ suc (at / item_bytes) = omega arith in
    rw (s, ← q, ← h) e

pub whole : (at : ℕ) (bytes m₀ m : List ℕ) → at ≤ length bytes → length bytes - at < item_bytes → at ≡ item_bytes * (at / item_bytes)
    → m ≡ performed (at / item_bytes) bytes m₀ → m ≡ performed (length bytes / item_bytes) bytes m₀
whole at bytes m₀ m l k q h =
    let s : length bytes / item_bytes ≡ at / item_bytes = omega (arith, l, k, q) in
    rw s h
