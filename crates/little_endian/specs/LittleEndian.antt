-- Numbers in bytes, the lowest byte first.
use Rattle.std.specs.Prelude.{ℕ, ◌+◌, ◌*◌, ◌/◌, ◌%◌, List, [], ◌∷◌, get_or}

-- the 16-bit number at an index
unfoldable pub half_at : List ℕ → ℕ → ℕ
half_at bytes at = get_or bytes at 0 + 256 * get_or bytes (at + 1) 0

-- the 32-bit word at an index
unfoldable pub word_at : List ℕ → ℕ → ℕ
word_at bytes at = get_or bytes at 0 + 256 * get_or bytes (at + 1) 0 + 65536 * get_or bytes (at + 2) 0 + 16777216 * get_or bytes (at + 3) 0

-- the bytes of a 16-bit number
unfoldable pub two : ℕ → List ℕ
two n = n % 256 ∷ n / 256 % 256 ∷ []

-- the bytes of a 32-bit word
unfoldable pub four : ℕ → List ℕ
four n = n % 256 ∷ n / 256 % 256 ∷ n / 65536 % 256 ∷ n / 16777216 % 256 ∷ []
