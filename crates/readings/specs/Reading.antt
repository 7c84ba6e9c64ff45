-- "A reading is a binary number in units, a decimal number, or a bare bit field" (paper 02, (iv)).
use Rattle.std.specs.Prelude.{ℕ, true, false, cond, List, eqb, ℤ, pos, Float, Result, Ok, Err}
use Rattle.std.specs.Float.Ieee as Ieee
use Rattle.std.specs.Float.{binary64}
use Rattle.label_list.specs.declared.entries.Entry.{Entry}
use Rattle.readings.specs.declared.reading.Reading.{Reading}
use Rattle.readings.specs.declared.reading.Reading.TheVariants.{Binary, Decimal, Bits}
use Rattle.readings.specs.declared.refusals.Refusal.{Refusal}
use Rattle.readings.specs.declared.refusals.Refusal.TheVariants.{NoEntry, NoSign, DigitAboveNine}
use Rattle.reading_fields.specs.Signs.{signed}
use Rattle.reading_fields.specs.Bits.{field, sign, plus, minus_sign, twos_complement}
use Rattle.reading_fields.specs.Digits.{lower, digit_above9, of_digits}
use Rattle.label_list.specs.Entries.{binary, decimal, bit_field}
use Rattle.readings.specs.Refusals.{number, passed_on}
use Rattle.readings.specs.Listed.{listed}

-- "Decimal: five digits, .., sign from bits 30 and 31 (00 plus, 11 minus)"; "on reading only 62 another sign, 63 a digit above 9"
unfoldable pub decimal_whole : ℕ → Result ℤ Refusal
decimal_whole w =
    cond (eqb (sign w) plus)
    (cond (digit_above9 lower (field w)) (Err DigitAboveNine) (Ok (signed false (of_digits lower (field w)))))
    (cond (eqb (sign w) minus_sign)
    (cond (digit_above9 lower (field w)) (Err DigitAboveNine) (Ok (signed true (of_digits lower (field w)))))
    (Err NoSign))

-- the whole number in a word by the kind of its entry: binary undivided, a bit field as it stands; "61 label not listed"
unfoldable pub whole_by : ℕ → ℕ → Result ℤ Refusal
whole_by kind w =
    cond (eqb kind binary) (Ok (twos_complement (field w)))
    (cond (eqb kind decimal) (decimal_whole w) (cond (eqb kind bit_field) (Ok (pos (field w))) (Err NoEntry)))

-- by the entry that counts
abbrev pub whole : List ℕ → ℕ → Result ℤ Refusal
whole list w = passed_on (listed list w) (λ entry. whole_by entry.kind w)

-- "divided once, in f64, by a power of two from 1 to 262,144 from the list"
unfoldable pub in_units : ℤ → ℕ → Float
in_units value divisor = Ieee.div binary64 (Ieee.of_int binary64 value) (Ieee.of_int binary64 (pos divisor))

-- the reading of an accepted word: its whole number by the kind, "a binary number in units, a decimal number, or a bare bit field"
unfoldable pub shown : Entry → ℕ → ℤ → Reading
shown entry w value =
    cond (eqb entry.kind binary) (Binary (in_units value entry.divisor))
    (cond (eqb entry.kind decimal) (Decimal value) (Bits (field w)))

abbrev pub reading_by : Entry → ℕ → Result Reading Refusal
reading_by entry w = passed_on (whole_by entry.kind w) (λ value. Ok (shown entry w value))

abbrev pub reading : List ℕ → ℕ → Result Reading Refusal
reading list w = passed_on (listed list w) (λ entry. reading_by entry w)

-- the number, the kind and the value as an f64 of each case of a reading; zeros beside a refusal
abbrev pub number_by : {A E : Type 0} → (E → ℕ) → Result A E → ℕ
number_by number (Ok value) = 0
number_by number (Err refusal) = number refusal

abbrev pub number_of : {A : Type 0} → Result A Refusal → ℕ
number_of answer = number_by number answer

abbrev pub kind_of : {E : Type 0} → Result Reading E → ℕ
kind_of (Ok (Binary units)) = binary
kind_of (Ok (Decimal value)) = decimal
kind_of (Ok (Bits bits)) = bit_field
kind_of (Err refusal) = 0

abbrev pub units_of : {E : Type 0} → Result Reading E → Float
units_of (Ok (Binary units)) = units
units_of (Ok (Decimal value)) = Ieee.of_int binary64 value
units_of (Ok (Bits bits)) = Ieee.of_int binary64 (pos bits)
units_of (Err refusal) = Ieee.of_int binary64 (pos 0)
