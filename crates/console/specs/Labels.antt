-- The label list as a text: `LABEL KIND DIVISOR` in turn, the label in octal, the others decimal.
use Rattle.std.specs.Prelude.{ℕ, ◌%◌, cond, List, [], ◌∷◌, eqb, length}
use Rattle.text.specs.declared.list.Listed.{Listed}
use Rattle.text.specs.Listed.{listed_byte, list_after}

-- the base of the number at a place
unfoldable pub base_at : ℕ → ℕ
base_at count = cond (eqb (count % 3) 0) 8 10

-- where the list stands behind the bytes of a text
unfoldable pub listed : List ℕ → Listed → List ℕ → Listed
listed list at [] = at
listed list at (b ∷ rest) = listed (list_after list at b) (listed_byte (length list) (base_at at.count) at b) rest

-- the numbers that it then holds
unfoldable pub held : List ℕ → Listed → List ℕ → List ℕ
held list at [] = list
held list at (b ∷ rest) = held (list_after list at b) (listed_byte (length list) (base_at at.count) at b) rest
