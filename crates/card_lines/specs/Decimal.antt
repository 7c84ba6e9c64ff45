-- A decimal number of 32 bits, a byte after the other: what is greater, and any other byte, makes it no number.
use Rattle.std.specs.Prelude.{ℕ, ◌+◌, ◌*◌, true, false, cond, ltb, Option, None, Some}
use Rattle.text.specs.Bytes.{digit_of}
use Rattle.card_lines.specs.declared.decimal.Decimal.{Decimal}

abbrev pub greatest : ℕ
greatest = 4294967295

-- no digit yet
abbrev pub none : Decimal
none = record { wrong = false; value = 0 }

-- no number, for good
abbrev pub spoiled : Decimal
spoiled = record { wrong = true; value = 0 }

-- a number with one more digit, if the byte is one and 32 bits hold it
abbrev pub grown : ℕ → ℕ → Option ℕ
grown n b =
    cond (ltb 9 (digit_of b)) None (cond (ltb greatest (n * 10 + digit_of b)) None (Some (n * 10 + digit_of b)))

abbrev pub decimal_of : Option ℕ → Decimal
decimal_of None = spoiled
decimal_of (Some n) = record { wrong = false; value = n }

abbrev pub decimal_byte : Decimal → ℕ → Decimal
decimal_byte n b = cond n.wrong spoiled (decimal_of (grown n.value b))
