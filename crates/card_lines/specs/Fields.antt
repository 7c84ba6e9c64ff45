-- The fields of a line: a word, `async STEP WORD` or `out FORM X Y Z`, with blanks around and between them. A word has 1 to 8 hexadecimal digits, `0x`
-- before them or not; the other numbers are decimal.
use Rattle.std.specs.Prelude.{ℕ, ◌+◌, ◌*◌, ◌^◌, Bool, true, false, not, cond, List, [], ◌∷◌, Option, None, Some, eqb, ltb}
use Rattle.text.specs.Bytes.{is_blank}
use Rattle.text.specs.Line as line
use Rattle.text.specs.declared.line.Line.{Line}
use Rattle.text.specs.declared.line.Asked.{Asked}
use Rattle.text.specs.declared.line.Asked.TheVariants.{Read, Encode}
use Rattle.card_lines.specs.Decimal as decimal
use Rattle.card_lines.specs.Decimal.{decimal_byte}
use Rattle.card_lines.specs.declared.decimal.Decimal.{Decimal}
use Rattle.card_lines.specs.declared.fields.Ended.{Ended}
use Rattle.card_lines.specs.declared.fields.Reading.{Reading}
use Rattle.card_lines.specs.declared.fields.Fields.{Fields}
use Rattle.card_lines.specs.declared.fields.Entry.{Entry}
use Rattle.card_lines.specs.declared.fields.Entry.TheVariants.{Blank, Word, Async, Out, NoEntry}

-- a name as a number: 1 and then its bytes, of which a name that counts has five at most
abbrev pub no_name : ℕ
no_name = 1

abbrev pub named : ℕ → ℕ → ℕ
named name b = cond (ltb name (2 ^ 40)) (name * 256 + b) (2 ^ 41)

abbrev pub spelled : ℕ → List ℕ → ℕ
spelled name [] = name
spelled name (b ∷ rest) = spelled (name * 256 + b) rest

-- the names `async` and `out`
abbrev pub async_name : ℕ
async_name = spelled no_name (97 ∷ 115 ∷ 121 ∷ 110 ∷ 99 ∷ [])

abbrev pub out_name : ℕ
out_name = spelled no_name (111 ∷ 117 ∷ 116 ∷ [])

abbrev pub too_many : ℕ
too_many = 6

abbrev pub ended_of : ℕ → ℕ → Bool → ℕ → ℕ → ℕ → ℕ → Ended
ended_of count name wrong a b c d = record { count = count; name = name; wrong = wrong; a = a; b = b; c = c; d = d }

abbrev pub reading_of : Bool → Line → Decimal → Reading
reading_of inside word number = record { inside = inside; word = word; number = number }

-- between two fields
abbrev pub no_field : Reading
no_field = reading_of false line.begun decimal.none

abbrev pub begun : Fields
begun = record { ended = ended_of 0 no_name false 0 0 0 0; reading = no_field }

-- a byte of the first field is one of the name
abbrev pub name_byte : Ended → ℕ → Ended
name_byte f b = cond (eqb f.count 0) (ended_of 0 (named f.name b) f.wrong f.a f.b f.c f.d) f

-- a field is read both ways; the byte begins it, or is one more of it
abbrev pub reading_byte : Reading → ℕ → Reading
reading_byte o b = reading_of true (line.taken o.word b) (decimal_byte o.number b)

-- "WORD hexadecimal, the others decimal": a line's first field, and an async word behind its step
abbrev pub takes_word : Ended → Bool
takes_word f = cond (eqb f.count 0) true (cond (eqb f.count 2) (eqb f.name async_name) false)

abbrev pub read_as : Option Asked → Option ℕ
read_as None = None
read_as (Some (Read w)) = Some w
read_as (Some (Encode w minus size)) = None

abbrev pub as_word : Line → Option ℕ
as_word l = read_as (line.asked_by l)

abbrev pub as_number : Decimal → Option ℕ
as_number n = cond n.wrong None (Some n.value)

-- the number that a field says, if it says one
abbrev pub value_of : Ended → Reading → Option ℕ
value_of f o = cond (takes_word f) (as_word o.word) (as_number o.number)

abbrev pub more : ℕ → ℕ
more count = cond (ltb count too_many) (count + 1) too_many

abbrev pub is_name : ℕ → Bool
is_name name = cond (eqb name async_name) true (eqb name out_name)

-- a number behind the others
abbrev pub valued : Ended → ℕ → Ended
valued f v = ended_of (more f.count) f.name f.wrong f.b f.c f.d v

-- a field that is no number: wrong, unless it is a name and stands first
abbrev pub unvalued : Ended → Ended
unvalued f =
    cond (eqb f.count 0) (ended_of 1 f.name (not (is_name f.name)) 0 0 0 0) (ended_of (more f.count) f.name true 0 0 0 0)

abbrev pub added : Ended → Option ℕ → Ended
added f (Some v) = valued f v
added f None = unvalued f

abbrev pub field_ended : Ended → Reading → Ended
field_ended f o = added f (value_of f o)

-- the fields at a blank or at the end of the line
unfoldable pub closed : Fields → Ended
closed l = cond l.reading.inside (field_ended l.ended l.reading) l.ended

-- the line with one byte more
unfoldable pub taken : Fields → ℕ → Fields
taken l b =
    cond (is_blank b) (record { ended = closed l; reading = no_field }) (record { ended = name_byte l.ended b; reading = reading_byte l.reading b })

-- what the fields say
unfoldable pub entry_of : Ended → Entry
entry_of f =
    cond (eqb f.count 0) Blank
    (cond f.wrong NoEntry
    (cond (eqb f.name async_name) (cond (eqb f.count 3) (Async f.c f.d) NoEntry)
    (cond (eqb f.name out_name) (cond (eqb f.count 5) (Out f.a f.b f.c f.d) NoEntry)
    (cond (eqb f.count 1) (Word f.d) NoEntry))))

-- what a line says, at its end
abbrev pub said : Fields → Entry
said l = entry_of (closed l)
