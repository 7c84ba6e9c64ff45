-- "kind (1 binary, 2 decimal, 3 bit field)" (paper 02, (iv)).
use Rattle.std.specs.Prelude.{ℕ, ◌≡◌, Result, MatchResult}
use Rattle.label_list.specs.Entries.{binary, decimal, bit_field}
use Rattle.label_list.specs.declared.kinds.Kind.{Kind}
use Rattle.label_list.specs.declared.kinds.Kind.TheVariants.{Binary, Decimal, BitField}
use Rattle.label_list.specs.declared.kinds.UnknownKind.{UnknownKind}

-- the number of a kind
abbrev pub kind_number : Kind → ℕ
kind_number Binary = binary
kind_number Decimal = decimal
kind_number BitField = bit_field

-- what a number names: its kind, or none
abbrev pub Names : ℕ → Result Kind UnknownKind → Type 0
Names n r = MatchResult r (λ kind. n ≡ kind_number kind) (λ _. (kind : Kind) → n ≡ kind_number kind → ⊥)
