-- A number of the label list, a byte after the other. "A token of the list that is no 32-bit number counts as 4,294,967,295", as does a greater one.
use Rattle.std.specs.Prelude.{ℕ, ◌+◌, ◌*◌, true, false, cond, ltb}
use Rattle.text.specs.declared.token.Token.{Token}
use Rattle.text.specs.Bytes.{digit_of}

abbrev pub greatest : ℕ
greatest = 4294967295

abbrev pub none : Token
none = record { begun = false; wrong = false; number = 0 }

abbrev pub spoiled : Token
spoiled = record { begun = true; wrong = true; number = 0 }

-- a number with one more digit, at most the greatest
abbrev pub capped : ℕ → ℕ
capped n = cond (ltb n greatest) n greatest

-- one more byte, in a base up to 16
abbrev pub token_byte : ℕ → Token → ℕ → Token
token_byte base t b =
    cond t.wrong spoiled
    (cond (ltb (digit_of b) base) (record { begun = true; wrong = false; number = capped (t.number * base + digit_of b) }) spoiled)

abbrev pub token_number : Token → ℕ
token_number t = cond t.wrong greatest t.number
