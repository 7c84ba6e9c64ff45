-- An argument read as a decimal number, a byte after the other.
use Rattle.std.specs.Prelude.{ℕ, List, [], ◌∷◌}
use Rattle.text.specs.Token.{none, token_byte}
use Rattle.text.specs.declared.token.Token.{Token}

abbrev pub read_on : Token → List ℕ → Token
read_on t [] = t
read_on t (b ∷ bs) = read_on (token_byte 10 t b) bs

abbrev pub number_in : List ℕ → Token
number_in bytes = read_on none bytes
