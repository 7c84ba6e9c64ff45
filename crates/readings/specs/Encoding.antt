-- "Encoding is wanted for the first two: a whole number (binary undivided, decimal -79,999 to 79,999) is put into a given word, whose other
-- bits stay" (paper 02, (iv)).
use Rattle.std.specs.Prelude.{ℕ, cond, List, eqb, ltb, ℤ, nat_abs, Result, Ok, Err}
use Rattle.std.specs.Int.Signed.{mag}
use Rattle.reading_fields.specs.Signs.{minus}
use Rattle.reading_fields.specs.Bits.{with_field, with_sign, plus, minus_sign, half, twos_field}
use Rattle.reading_fields.specs.Digits.{lower, greatest_decimal, to_digits}
use Rattle.label_list.specs.Entries.{binary, decimal}
use Rattle.readings.specs.declared.refusals.Refusal.{Refusal}
use Rattle.readings.specs.declared.refusals.Refusal.TheVariants.{NoEntry, OutsideRange}
use Rattle.readings.specs.Refusals.{passed_on}
use Rattle.readings.specs.Listed.{listed}

-- "Binary: two's complement, -262,144 to 262,143"; "64 a value to encode outside its range". Bits 30 to 32 stay.
unfoldable pub binary_encoded : ℕ → ℤ → Result ℕ Refusal
binary_encoded w value = cond (ltb (mag value) half) (Ok (with_field w (twos_field (minus value) (mag value)))) (Err OutsideRange)

-- "decimal -79,999 to 79,999": the digits and the sign; bit 32 stays. "zero always encodes as plus": zero is not below zero
unfoldable pub decimal_encoded : ℕ → ℤ → Result ℕ Refusal
decimal_encoded w value =
    cond (ltb greatest_decimal (nat_abs value)) (Err OutsideRange)
    (Ok (with_sign (with_field w (to_digits lower (nat_abs value))) (cond (minus value) minus_sign plus)))

-- by the kind of the entry that counts: "61 label not listed, or a bit field to encode"
unfoldable pub encoded_by : ℕ → ℕ → ℤ → Result ℕ Refusal
encoded_by kind w value = cond (eqb kind binary) (binary_encoded w value) (cond (eqb kind decimal) (decimal_encoded w value) (Err NoEntry))

abbrev pub encoded : List ℕ → ℕ → ℤ → Result ℕ Refusal
encoded list w value = passed_on (listed list w) (λ entry. encoded_by entry.kind w value)
