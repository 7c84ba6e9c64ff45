-- A record, an output after the other.
-- Assumes nothing.
use mathlib.Core.Path.{◌≡◌, refl, sym, ap}
use mathlib.Core.Bool.{Bool, true, false, cond, ◌&&◌, true≢false}
use mathlib.Core.List.{List, [], ◌∷◌, ◌++◌}
use Prim.Native.Nat.{ℕ, ◌+◌, ◌*◌, ◌≤◌, ◌<◌, min}
use native.Mathlib.Omega.{arith}
use borrow.Author.Tests.{eqb-true, eq-eqb}
use lib.Dec.{eqb}
use lib.ListN.{length}
use Rattle.std.specs.Cmp.Lexicographic.{pointwise}
use Rattle.schedule.specs.declared.Output.{Output}
use Rattle.schedule.specs.declared.Output.TheVariants.{Quiet, FifoWord, Message, Null, Async, Reserved, NullMessage}
use Rattle.schedule.specs.Output.{values}
use Rattle.bench_card.specs.Record.{numbers, recorded, same}

-- an output due has four numbers
pub values_length : (o : Output) → length (values o) ≡ numbers
unfolding values
values_length Quiet = refl
values_length (FifoWord word gap) = refl
values_length (Message word) = refl
values_length (Null time) = refl
values_length (Async word rest) = refl
values_length (Reserved address) = refl
values_length (NullMessage word) = refl

-- the first output of a record: four numbers, or those that are left
pub recorded_chunk : (x rest : List ℕ) → length x ≡ min numbers (length (x ++ rest)) → 0 < length (x ++ rest)
    → recorded (x ++ rest) ≡ x ∷ recorded rest
unfolding recorded
recorded_chunk [] rest h k = absurd (omega arith)
recorded_chunk (a ∷ []) [] h k = refl
recorded_chunk (a ∷ []) (e ∷ rest) h k = absurd (omega arith)
recorded_chunk (a ∷ b ∷ []) [] h k = refl
recorded_chunk (a ∷ b ∷ []) (e ∷ rest) h k = absurd (omega arith)
recorded_chunk (a ∷ b ∷ c ∷ []) [] h k = refl
recorded_chunk (a ∷ b ∷ c ∷ []) (e ∷ rest) h k = absurd (omega arith)
recorded_chunk (a ∷ b ∷ c ∷ d ∷ []) rest h k = refl
recorded_chunk (a ∷ b ∷ c ∷ d ∷ e ∷ x) rest h k = absurd (omega arith)

pub recorded_none : (l : List ℕ) → length l ≡ 0 → recorded l ≡ []
unfolding recorded
recorded_none [] h = refl
recorded_none (a ∷ l) h = absurd (omega arith)

-- how many outputs there are
pub recorded-most : (l : List ℕ) → length l ≤ numbers * length (recorded l)
unfolding recorded
recorded-most [] = omega arith
recorded-most (a ∷ []) = omega arith
recorded-most (a ∷ b ∷ []) = omega arith
recorded-most (a ∷ b ∷ c ∷ []) = omega arith
recorded-most (a ∷ b ∷ c ∷ d ∷ l) = omega (arith, recorded-most l)

pub recorded-least : (l : List ℕ) → numbers * length (recorded l) ≤ length l + 3
unfolding recorded
recorded-least [] = omega arith
recorded-least (a ∷ []) = omega arith
recorded-least (a ∷ b ∷ []) = omega arith
recorded-least (a ∷ b ∷ c ∷ []) = omega arith
recorded-least (a ∷ b ∷ c ∷ d ∷ l) = omega (arith, recorded-least l)

-- what `==` says of two lists of numbers
pub same_is : (l m : List ℕ) → pointwise eqb l m ≡ same l m
unfolding same
same_is [] [] = refl
same_is [] (b ∷ m) = refl
same_is (a ∷ l) [] = refl
same_is (a ∷ l) (b ∷ m) = go (eqb a b) (same_is l m)
  where
    go : (t : Bool) → pointwise eqb l m ≡ same l m → (t && pointwise eqb l m) ≡ cond t (same l m) false
    go true rest = rest
    go false rest = refl

-- lists that are the same numbers
pub alike : (l m : List ℕ) → same l m ≡ true → l ≡ m
unfolding same
alike [] [] e = refl
alike [] (b ∷ m) e = absurd (true≢false (sym e))
alike (a ∷ l) [] e = absurd (true≢false (sym e))
alike (a ∷ l) (b ∷ m) e = go (eqb a b) refl (alike l m) e
  where
    go : (t : Bool) → eqb a b ≡ t → (same l m ≡ true → l ≡ m) → cond t (same l m) false ≡ true → a ∷ l ≡ b ∷ m
    go true w rest e = let h : a ≡ b = eqb-true a b w in let k : l ≡ m = rest e in cc
    go false w rest e = absurd (true≢false (sym e))

pub same_self : (l : List ℕ) → same l l ≡ true
unfolding same
same_self [] = refl
same_self (a ∷ l) = rw (eq-eqb a a refl) (same_self l)

-- an output that is cut short is in no form
pub cut : (l v : List ℕ) → length l < numbers → length v ≡ numbers → same l v ≡ false
cut l v h n = go (same l v) refl
  where
    go : (t : Bool) → same l v ≡ t → t ≡ false
    go true w = absurd (omega (arith, ap length (alike l v w)))
    go false w = refl
