-- What is known of each kind and of each refusal, and of a number that no kind has.
-- Assumes nothing.
use Rattle.std.proofs.Common.{◌≡◌, ℕ, Bool, true, false, cond, eqb, ltb, ◌⊎◌, inl, inr, Result, Ok, Err, is_ok, refl, sym, ap, ◌∙◌, arith, ne_eqb}
use borrow.Author.Tests.{ltb-false}
use Rattle.capture.specs.Format.{arrival, old_image, image, commands_of, known}
use Rattle.capture.specs.Numbers.{kind_number, refusal_number, Names}
use Rattle.capture.specs.declared.kinds.Kind.{Kind}
use Rattle.capture.specs.declared.kinds.Kind.TheVariants.{Arrival, OldImage, Image}
use Rattle.capture.specs.declared.refusal.Refusal.{Refusal}
use Rattle.capture.specs.declared.refusal.Refusal.TheVariants.{Cut, WrongLength, UnknownKind, WrongChannel, NoRoom}

-- the number of every kind is known
pub is_known : (kind : Kind) → known (kind_number kind) ≡ true
unfolding known commands_of
is_known Arrival = refl
is_known OldImage = refl
is_known Image = refl

-- and no other is
pub not_known : (number : ℕ) → (number ≡ arrival → ⊥) → (number ≡ old_image → ⊥) → (number ≡ image → ⊥) → known number ≡ false
unfolding known commands_of
not_known number a o i = rw (ne_eqb number arrival a, ne_eqb number old_image o, ne_eqb number image i) refl

-- the kind of a number was found if the number is known
pub found : (number : ℕ) (r : Result Kind Refusal) → Names number r → is_ok r ≡ known number
found number (Ok kind) e = sym (is_known kind) ∙ ap known e
found number (Err refusal) e = sym e.1

-- an image of either size is no arrival
pub pictured : (kind : Kind) → (kind ≡ OldImage) ⊎ (kind ≡ Image) → kind_number kind ≡ arrival → ⊥
pictured kind (inl e) z = absurd (omega (arith, sym z ∙ ap kind_number e))
pictured kind (inr e) z = absurd (omega (arith, sym z ∙ ap kind_number e))

-- a number that no kind has has no commands
pub no_kind : (number : ℕ) → known number ≡ false → (eqb number arrival ≡ false) × (commands_of number ≡ 0)
unfolding known
no_kind number = of (eqb number arrival) (commands_of number)
  where
    of : (t : Bool) (n : ℕ) → cond t true (ltb 0 n) ≡ false → (t ≡ false) × (n ≡ 0)
    of true n h = absurd (cc)
    of false n h = let k = ltb-false 0 n h in (refl, omega arith)

-- no refusal has the number 0
pub some : (refusal : Refusal) → eqb (refusal_number refusal) 0 ≡ false
some Cut = refl
some WrongLength = refl
some UnknownKind = refl
some WrongChannel = refl
some NoRoom = refl

pub not_zero : (refusal : Refusal) → refusal_number refusal ≡ 0 → ⊥
not_zero Cut h = absurd (omega (arith, h))
not_zero WrongLength h = absurd (omega (arith, h))
not_zero UnknownKind h = absurd (omega (arith, h))
not_zero WrongChannel h = absurd (omega (arith, h))
not_zero NoRoom h = absurd (omega (arith, h))

-- the number 0, of no record, has no commands
pub no_record : 0 ≡ commands_of 0
unfolding commands_of
no_record = refl

-- and no kind
pub some_kind : (kind : Kind) → kind_number kind ≡ 0 → ⊥
some_kind Arrival h = absurd (omega (arith, h))
some_kind OldImage h = absurd (omega (arith, h))
some_kind Image h = absurd (omega (arith, h))
