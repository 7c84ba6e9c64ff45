-- An item performed on a module's memory: the numbers that it lists and what it leaves.
use Rattle.std.specs.Prelude.{ℕ, List, [], ◌∷◌, Option, None, Some}
use Rattle.registers.specs.Access.{access_answer, access_after, access_numbers}
use Rattle.registers.specs.declared.accesses.Access.{Access}

-- 42 for an item that is no call
abbrev pub item_numbers : Option Access → List ℕ → List ℕ
item_numbers None m = 42 ∷ []
item_numbers (Some x) m = access_numbers x (access_answer x m)

-- an item that is no call changes nothing
abbrev pub item_after : Option Access → List ℕ → List ℕ
item_after None m = m
item_after (Some x) m = access_after x m
