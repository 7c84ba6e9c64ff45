-- Numbers of a text put into a lent list, one after the other: blanks and line ends part them.
use Rattle.std.specs.Prelude.{ℕ, ◌+◌, Bool, true, false, cond, List, eqb, ltb, length, set}
use Rattle.text.specs.declared.token.Token.{Token}
use Rattle.text.specs.declared.list.Listed.{Listed}
use Rattle.text.specs.Bytes.{is_blank}
use Rattle.text.specs.Token.{none, token_byte, token_number}

-- the open token, the numbers stored, and whether one found no room
abbrev pub listed_of : Token → ℕ → Bool → Listed
listed_of token count full = record { token = token; count = count; full = full }

abbrev pub begun_list : Listed
begun_list = listed_of none 0 false

-- a token ends: its number is stored behind the others where there is room
unfoldable pub stored : ℕ → Listed → Listed
stored room at =
    cond at.token.begun (cond (ltb at.count room) (listed_of none (at.count + 1) at.full) (listed_of none at.count true)) at

unfoldable pub stored_in : List ℕ → Listed → List ℕ
stored_in list at =
    cond at.token.begun (cond (ltb at.count (length list)) (set list at.count (token_number at.token)) list) list

-- "numbers separated by blanks and line ends"
unfoldable pub parts : ℕ → Bool
parts b = cond (eqb b 10) true (is_blank b)

-- one more byte, of a number in the base
unfoldable pub listed_byte : ℕ → ℕ → Listed → ℕ → Listed
listed_byte room base at b = cond (parts b) (stored room at) (listed_of (token_byte base at.token b) at.count at.full)

unfoldable pub list_after : List ℕ → Listed → ℕ → List ℕ
list_after list at b = cond (parts b) (stored_in list at) list
