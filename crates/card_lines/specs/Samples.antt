-- Lines, and what they say. A line is the list of its bytes.
use Rattle.std.specs.Prelude.{ℕ, ◌≡◌, List, [], ◌∷◌}
use Rattle.card_lines.specs.Fields.{begun, taken, said}
use Rattle.card_lines.specs.declared.fields.Fields.{Fields}
use Rattle.card_lines.specs.declared.fields.Entry.{Entry}
use Rattle.card_lines.specs.declared.fields.Entry.TheVariants.{Blank, Word, Async, Out, NoEntry}

-- the line with all these bytes more
abbrev pub taken_all : Fields → List ℕ → Fields
taken_all l [] = l
taken_all l (b ∷ rest) = taken_all (taken l b) rest

pub record Sample : Type 0 where
  pub line : List ℕ
  pub says : Entry

abbrev sample : List ℕ → Entry → Sample
sample line says = record { line = line; says = says }

abbrev pub samples : List Sample
samples =
    -- nothing, and blanks alone
    sample [] Blank
    ∷ sample (32 ∷ 9 ∷ 13 ∷ []) Blank
    -- `1`, `0x1A`, ` 00001000` and a carriage return
    ∷ sample (49 ∷ []) (Word 1)
    ∷ sample (48 ∷ 120 ∷ 49 ∷ 65 ∷ []) (Word 26)
    ∷ sample (32 ∷ 48 ∷ 48 ∷ 48 ∷ 48 ∷ 49 ∷ 48 ∷ 48 ∷ 48 ∷ 13 ∷ []) (Word 4096)
    -- `123456789`, `+5`, `1 2`
    ∷ sample (49 ∷ 50 ∷ 51 ∷ 52 ∷ 53 ∷ 54 ∷ 55 ∷ 56 ∷ 57 ∷ []) NoEntry
    ∷ sample (43 ∷ 53 ∷ []) NoEntry
    ∷ sample (49 ∷ 32 ∷ 50 ∷ []) NoEntry
    -- `async 10 a1`: the step is decimal, the word hexadecimal
    ∷ sample (97 ∷ 115 ∷ 121 ∷ 110 ∷ 99 ∷ 32 ∷ 49 ∷ 48 ∷ 32 ∷ 97 ∷ 49 ∷ []) (Async 10 161)
    -- `async a 1`, `async 1`
    ∷ sample (97 ∷ 115 ∷ 121 ∷ 110 ∷ 99 ∷ 32 ∷ 97 ∷ 32 ∷ 49 ∷ []) NoEntry
    ∷ sample (97 ∷ 115 ∷ 121 ∷ 110 ∷ 99 ∷ 32 ∷ 49 ∷ []) NoEntry
    -- `out 2 10 0 0`, `out 2 1 0`, `out 3 4294967296 0 0`
    ∷ sample (111 ∷ 117 ∷ 116 ∷ 32 ∷ 50 ∷ 32 ∷ 49 ∷ 48 ∷ 32 ∷ 48 ∷ 32 ∷ 48 ∷ []) (Out 2 10 0 0)
    ∷ sample (111 ∷ 117 ∷ 116 ∷ 32 ∷ 50 ∷ 32 ∷ 49 ∷ 32 ∷ 48 ∷ []) NoEntry
    ∷ sample
    (111 ∷ 117 ∷ 116 ∷ 32 ∷ 51 ∷ 32 ∷ 52 ∷ 50 ∷ 57 ∷ 52 ∷ 57 ∷ 54 ∷ 55 ∷ 50 ∷ 57 ∷ 54 ∷ 32 ∷ 48 ∷ 32 ∷ 48 ∷ [])
    NoEntry
    -- `outs 2 1 0 0`
    ∷ sample (111 ∷ 117 ∷ 116 ∷ 115 ∷ 32 ∷ 50 ∷ 32 ∷ 49 ∷ 32 ∷ 48 ∷ 32 ∷ 48 ∷ []) NoEntry
    ∷ []

-- each sample is so
abbrev pub SaidOf : List Sample → Type 0
SaidOf [] = Unit
SaidOf (s ∷ rest) = (said (taken_all begun s.line) ≡ s.says) × SaidOf rest
