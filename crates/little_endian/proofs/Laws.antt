-- A number is that of its bytes, and bytes are those of their number.
-- Assumes nothing.
use Rattle.std.proofs.Common.{◌≡◌, ℕ, ◌+◌, ◌*◌, ◌/◌, ◌%◌, ◌<◌, ◌^◌, zero, suc, List, [], ◌∷◌, ◌++◌, length, get_or, refl, arith, get_or-append-add}
use lib.Seq.{get_or-append_seam}
use Rattle.std.proofs.lemmas.Nat.{from_le_bytes-to_le_bytes_2, from_le_bytes-to_le_bytes_4, le_bytes_2, le_bytes_4}
use Rattle.little_endian.specs.LittleEndian.{half_at, word_at, two, four}

half_of : (x : ℕ) → x < 2 ^ 16 → x % 256 + 256 * (x / 256 % 256) ≡ x
half_of x h = omega (arith, from_le_bytes-to_le_bytes_2 x h)

word_of : (x : ℕ) → x < 2 ^ 32 → x % 256 + 256 * (x / 256 % 256) + 65536 * (x / 65536 % 256) + 16777216 * (x / 16777216 % 256) ≡ x
word_of x h = omega (arith, from_le_bytes-to_le_bytes_4 x h)

-- the number that stands behind a front part
pub half_behind : (p q : List ℕ) (x : ℕ) → x < 2 ^ 16 → half_at (p ++ (two x ++ q)) (length p) ≡ x
unfolding half_at two
half_behind p q x h =
    rw (get_or-append_seam p (x % 256) (x / 256 % 256 ∷ q) 0, get_or-append-add p (x % 256 ∷ x / 256 % 256 ∷ q) 1 0) (half_of x h)

pub word_behind : (p q : List ℕ) (x : ℕ) → x < 2 ^ 32 → word_at (p ++ (four x ++ q)) (length p) ≡ x
unfolding word_at four
word_behind p q x h =
    let l : List ℕ = x % 256 ∷ x / 256 % 256 ∷ x / 65536 % 256 ∷ x / 16777216 % 256 ∷ q in
    rw (
      get_or-append_seam p (x % 256) (x / 256 % 256 ∷ x / 65536 % 256 ∷ x / 16777216 % 256 ∷ q) 0,
      get_or-append-add p l 1 0,
      get_or-append-add p l 2 0,
      get_or-append-add p l 3 0,
    ) (word_of x h)

pub two_of : (a b : ℕ) → a < 256 → b < 256 → two (a + 256 * b) ≡ a ∷ b ∷ []
unfolding two
two_of a b h k = le_bytes_2 (a ∷ b ∷ []) (a + 256 * b) refl small (omega arith)
  where
    small : (i : ℕ) → get_or (a ∷ b ∷ []) i 0 < 256
    small zero = h
    small (suc zero) = k
    small (suc (suc i)) = omega arith

pub four_of : (a b c d : ℕ) → a < 256 → b < 256 → c < 256 → d < 256 → four (a + 256 * b + 65536 * c + 16777216 * d) ≡ a ∷ b ∷ c ∷ d ∷ []
unfolding four
four_of a b c d h k l m = le_bytes_4 (a ∷ b ∷ c ∷ d ∷ []) (a + 256 * b + 65536 * c + 16777216 * d) refl small (omega arith)
  where
    small : (i : ℕ) → get_or (a ∷ b ∷ c ∷ d ∷ []) i 0 < 256
    small zero = h
    small (suc zero) = k
    small (suc (suc zero)) = l
    small (suc (suc (suc zero))) = m
    small (suc (suc (suc (suc i)))) = omega arith
