-- The words of an `Entry`, in their order in the block (paper 01, "Receive": "an entry of status .., word and stamp").
use Rattle.std.specs.Prelude.{ℕ, List, [], ◌∷◌}
use Rattle.ring.specs.declared.Entry.{Entry}

abbrev pub fields : Entry → List ℕ
fields e = e.status ∷ e.word ∷ e.stamp ∷ []
