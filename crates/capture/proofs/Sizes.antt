-- What is known of every kind.
-- Assumes nothing.
use Prim.Native.Nat.{ℕ, ◌+◌, ◌*◌, ◌<◌, ◌≤◌}
use mathlib.Core.Path.{◌≡◌, refl}
use mathlib.Core.Bool.{Bool, true, false, cond}
use native.Mathlib.Omega.{arith}
use borrow.Author.Tests.{eqb-true, eq-eqb, ne_eqb}
use lib.Dec.{eqb}
use Rattle.capture.specs.Format.{arrival, old_image, old_image_commands, image, image_commands, commands_of, lent_words, lent_of, length_of, half, whole}

-- no kind has more commands than there are lent words, and none fills more
pub few : (kind : ℕ) → commands_of kind ≤ lent_words
unfolding commands_of
few kind = of (eqb kind old_image) (eqb kind image)
  where
    of : (t s : Bool) → cond t old_image_commands (cond s image_commands 0) ≤ lent_words
    of true s = omega arith
    of false true = omega arith
    of false false = omega arith

pub few_lent : (kind : ℕ) → lent_of kind ≤ lent_words
unfolding lent_of
few_lent kind = of (eqb (commands_of kind) 0)
  where
    of : (t : Bool) → cond t 0 lent_words ≤ lent_words
    of true = omega arith
    of false = omega arith

-- what a kind with commands fills, and one without
pub lent_all : (kind : ℕ) → (commands_of kind ≡ 0 → ⊥) → lent_of kind ≡ lent_words
unfolding lent_of
lent_all kind h = rw (ne_eqb (commands_of kind) 0 h) refl

pub lent_none : (kind : ℕ) → commands_of kind ≡ 0 → lent_of kind ≡ 0
unfolding lent_of
lent_none kind h = rw (eq-eqb (commands_of kind) 0 h) refl

-- a length covers kind and channel
pub covers : (kind : ℕ) → half + half ≤ length_of kind
unfolding length_of
covers kind = omega arith

-- an arrival has no commands
pub no_commands : (kind : ℕ) → kind ≡ arrival → commands_of kind ≡ 0
unfolding commands_of
no_commands kind e = rw e refl

-- the length of an arrival, and of a kind that has commands
pub arrival_long : (kind : ℕ) → kind ≡ arrival → length_of kind ≡ half + half + (whole + whole)
unfolding length_of
arrival_long kind e = rw e refl

pub image_long : (kind : ℕ) → (commands_of kind ≡ 0 → ⊥) → length_of kind ≡ half + half + whole * commands_of kind
unfolding length_of
image_long kind h = of (eqb kind arrival) refl
  where
    of : (t : Bool) → eqb kind arrival ≡ t → half + half + cond t (whole + whole) (whole * commands_of kind) ≡ half + half + whole * commands_of kind
    of true e = absurd (h (no_commands kind (eqb-true kind arrival e)))
    of false e = refl

-- every length fits its two bytes
pub not_long : (kind : ℕ) → length_of kind < 65536
unfolding length_of
not_long kind = of (eqb kind arrival)
  where
    of : (t : Bool) → half + half + cond t (whole + whole) (whole * commands_of kind) < 65536
    of true = omega arith
    of false = omega (arith, few kind)

-- the length of a kind that is no arrival
pub image_is : (kind : ℕ) → eqb kind arrival ≡ false → length_of kind ≡ half + half + whole * commands_of kind
unfolding length_of
image_is kind e = rw e refl
