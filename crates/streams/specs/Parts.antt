-- What a program does with an input that it reads a full buffer at a time.
use Rattle.std.specs.Prelude.{◌≡◌, ℕ, ◌<◌, List, [], ◌++◌, length, MatchOption, ⊤}
use Rattle.std.specs.List.{All, FoldsTo, cons_option, concat}
use Rattle.std.specs.Io.KnownBytes.{Consumes}
use Rattle.std.specs.declared.option.Option.{Option}

module _ {F : Type 0} (called : F → List ℕ → ⊤ → F → Type 0) where
  -- the input lost its parts, in order, and f was called with each: full ones, and then a shorter one, or none after as many full ones as are read at most
  pub record TakesParts (room most : ℕ) (old new : Option (List ℕ)) (f : F) : Type 0 where
    pub full : List (List ℕ)
    pub short : Option (List ℕ)
    pub last : F
    pub calls : FoldsTo (λ g part h. called g part tt h) f (full ++ cons_option short []) last
    pub lost : Consumes old new (concat (full ++ cons_option short []))
    pub filled : All (λ part. length part ≡ room) full
    pub ends : MatchOption short (length full ≡ most) (λ part. length part < room)
