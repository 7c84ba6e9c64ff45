-- A line `WORD` or `WORD VALUE`, a byte after the other: a word of 1 to 8 hexadecimal digits, `0x` before it or not, and a whole decimal number,
-- `-` before it or not.
use Rattle.std.specs.Prelude.{ℕ, ◌+◌, ◌*◌, ◌%◌, ◌^◌, Bool, true, false, cond, eqb, ltb, Option, None, Some}
use Rattle.text.specs.declared.line.Line.{Line}
use Rattle.text.specs.declared.line.Asked.{Asked}
use Rattle.text.specs.declared.line.Asked.TheVariants.{Read, Encode}
use Rattle.text.specs.Bytes.{is_blank, digit_of}

-- where a line stands: before the word, in it, behind it, in the value, behind it, or wrong for good
abbrev pub before_word : ℕ
before_word = 0

abbrev pub in_word : ℕ
in_word = 1

abbrev pub behind_word : ℕ
behind_word = 2

abbrev pub in_value : ℕ
in_value = 3

abbrev pub behind_value : ℕ
behind_value = 4

abbrev pub wrong_place : ℕ
wrong_place = 5

-- place, whether `0x` or `-` was read, the digits of the word or whether the value has one, the word, the size of the value
abbrev pub line_of : ℕ → Bool → ℕ → ℕ → ℕ → Line
line_of place mark digits word size = record { place = place; mark = mark; digits = digits; word = word; size = size }

abbrev pub begun : Line
begun = line_of before_word false 0 0 0

abbrev pub wrong : Line
wrong = line_of wrong_place false 0 0 0

-- a field ends: it has a digit
abbrev pub ended : Line → ℕ → Line
ended l place = cond (eqb l.digits 0) wrong (line_of place l.mark l.digits l.word l.size)

-- a blank ends the field that is read
abbrev pub blanked : Line → Line
blanked l = cond (eqb l.place in_word) (ended l behind_word) (cond (eqb l.place in_value) (ended l behind_value) l)

-- `0x` before the first digit that counts
abbrev pub prefixed : Line → ℕ → Line
prefixed l b =
    cond l.mark wrong
    (cond (eqb l.digits 1)
    (cond (eqb l.word 0) (cond (eqb b 120) (line_of in_word true 0 0 0) (cond (eqb b 88) (line_of in_word true 0 0 0) wrong)) wrong) wrong)

-- a byte of the word: one more of up to 8 digits, or the prefix
abbrev pub word_byte : Line → ℕ → Line
word_byte l b =
    cond (ltb (digit_of b) 16)
    (cond (ltb l.digits 8) (line_of in_word l.mark (l.digits + 1) (l.word % 2 ^ 28 * 16 + digit_of b) 0) wrong)
    (prefixed l b)

-- a number with one more digit; what nears 2 ^ 31 is outside every range, and stays there
abbrev pub grown : ℕ → ℕ → ℕ
grown size digit = cond (ltb size 214748364) (size * 10 + digit) 2147483647

-- the sign before the digits of the value
abbrev pub signed : Line → ℕ → Line
signed l b = cond l.mark wrong (cond (eqb l.digits 0) (cond (eqb b 45) (line_of in_value true 0 l.word 0) wrong) wrong)

-- a byte of the value: one more digit, or the sign
abbrev pub value_byte : Line → ℕ → Line
value_byte l b = cond (ltb (digit_of b) 10) (line_of in_value l.mark 1 l.word (grown l.size (digit_of b))) (signed l b)

-- the value begins with no sign and no digit
abbrev pub opened : Line → Line
opened l = cond (eqb l.place behind_word) (line_of in_value false 0 l.word 0) l

abbrev pub filled : Line → ℕ → Line
filled l b = cond (ltb l.place behind_word) (word_byte l b) (cond (ltb l.place behind_value) (value_byte (opened l) b) wrong)

-- the line with one byte more
unfoldable pub taken : Line → ℕ → Line
taken l b = cond (is_blank b) (blanked l) (filled l b)

-- what a line asks for at its end: to read a word, to encode a value into it, or nothing that is there
abbrev pub outcome : Line → Option Asked
outcome l =
    cond (eqb l.place behind_word) (Some (Read l.word))
    (cond (eqb l.place behind_value) (Some (Encode l.word l.mark (l.size % 2 ^ 31))) None)

unfoldable pub asked_by : Line → Option Asked
asked_by l = outcome (blanked l)
