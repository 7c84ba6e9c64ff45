-- A word written in eight hexadecimal digits, as programs here write it, is read as that word.
-- Assumes nothing.
use mathlib.Core.Path.{◌≡◌, refl}
use mathlib.Core.Bool.{Bool, true, false, cond, not}
use Prim.Native.Nat.{ℕ, ◌+◌, ◌*◌, ◌/◌, ◌%◌, ◌^◌, ◌<◌}
use native.Mathlib.Omega.{arith}
use lib.Dec.{T, eqb, eqb→eq}
use borrow.Author.Tests.{ne_eqb}
use Rattle.word.proofs.Computed.{at}
use Rattle.text.specs.Bytes.{is_blank, digit_of}
use Rattle.word_text.specs.Text.{digits, hex_value, prefix, word_of, hex_word}
use Rattle.word_text.specs.Written.{byte_of, written}
use Rattle.word_text.specs.declared.Line.TheVariants.{Word}

-- ---- the byte of a digit is read as that digit, and is no blank and no x

fails : (t : Bool) → T (not t) → t ≡ false
fails true h = absurd h
fails false h = refl

read_digit : (q : ℕ) → digit_of (byte_of (q % 16)) ≡ q % 16
unfolding digit_of byte_of
read_digit q = eqb→eq (digit_of (byte_of (q % 16))) (q % 16) (at (λ d. eqb (digit_of (byte_of d)) d) 16 tt (q % 16) (omega arith))

is_digit : (q : ℕ) → eqb (q % 16) 16 ≡ false
is_digit q = ne_eqb (q % 16) 16 (omega arith)

no_blank : (q : ℕ) → is_blank (byte_of (q % 16)) ≡ false
unfolding is_blank byte_of
no_blank q = fails (is_blank (byte_of (q % 16))) (at (λ d. not (is_blank (byte_of d))) 16 tt (q % 16) (omega arith))

no_x : (q : ℕ) → eqb (byte_of (q % 16)) 120 ≡ false
unfolding byte_of
no_x q = fails (eqb (byte_of (q % 16)) 120) (at (λ d. not (eqb (byte_of d) 120)) 16 tt (q % 16) (omega arith))

no_X : (q : ℕ) → eqb (byte_of (q % 16)) 88 ≡ false
unfolding byte_of
no_X q = fails (eqb (byte_of (q % 16)) 88) (at (λ d. not (eqb (byte_of d) 88)) 16 tt (q % 16) (omega arith))

no_prefix : (w : ℕ) → prefix (written w) ≡ 0
unfolding prefix
no_prefix w = rw (no_x (w / 16 / 16 / 16 / 16 / 16 / 16), no_X (w / 16 / 16 / 16 / 16 / 16 / 16)) (go (eqb (byte_of (w / 16 / 16 / 16 / 16 / 16 / 16 / 16 % 16)) 48))
  where
    go : (t : Bool) → cond {A = ℕ} t 0 0 ≡ 0
    go true = refl
    go false = refl

-- ---- the digits make the word again

joined : (q : ℕ) → q / 16 * 16 + q % 16 ≡ q
joined q = omega arith

first : (w : ℕ) → w < 2 ^ 32 → 0 * 16 + w / 16 / 16 / 16 / 16 / 16 / 16 / 16 % 16 ≡ w / 16 / 16 / 16 / 16 / 16 / 16 / 16
first w h =
    let a : w / 16 < 2 ^ 28 = omega arith in
    let b : w / 16 / 16 < 2 ^ 24 = omega (arith, a) in
    let c : w / 16 / 16 / 16 < 2 ^ 20 = omega (arith, b) in
    let d : w / 16 / 16 / 16 / 16 < 2 ^ 16 = omega (arith, c) in
    let e : w / 16 / 16 / 16 / 16 / 16 < 2 ^ 12 = omega (arith, d) in
    let f : w / 16 / 16 / 16 / 16 / 16 / 16 < 2 ^ 8 = omega (arith, e) in
    omega (arith, f)

eight : (w : ℕ) → digits 0 (written w) ≡ 8
eight w = simp (read_digit, is_digit) refl

value : (w : ℕ) → w < 2 ^ 32 → hex_value 0 0 (written w) ≡ w
value w h =
    simp (read_digit, is_digit)
    (rw (
      first w h,
      joined (w / 16 / 16 / 16 / 16 / 16 / 16),
      joined (w / 16 / 16 / 16 / 16 / 16),
      joined (w / 16 / 16 / 16 / 16),
      joined (w / 16 / 16 / 16),
      joined (w / 16 / 16),
      joined (w / 16),
      joined w,
    ) refl)

pub read_back : (w : ℕ) → w < 2 ^ 32 → hex_word (written w) ≡ Word w
unfolding hex_word word_of
read_back w h = rw (no_blank (w / 16 / 16 / 16 / 16 / 16 / 16 / 16), no_prefix w, eight w, value w h) refl
