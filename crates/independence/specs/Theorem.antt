-- "two calls on different channels of one memory, neither module-wide, give the same answers and the same memory in either order, refusals
-- included" (paper 02 (xii)).
use Rattle.std.specs.Prelude.{ℕ, ◌≡◌, List}
use Rattle.registers.specs.Access.{access_answer, access_after}
use Rattle.registers.specs.declared.accesses.Access.{Access}
use Rattle.independence.specs.Names.{Names}

pub record InEitherOrder (x y : Access) (m : List ℕ) : Type 0 where
  -- x answers behind y what it answers before it, and y behind x
  pub first-answer : access_answer x (access_after y m) ≡ access_answer x m
  pub second_answer : access_answer y (access_after x m) ≡ access_answer y m
  -- every word of the memory
  pub memory : access_after x (access_after y m) ≡ access_after y (access_after x m)

-- "Memory need not come from power-up.": any memory, and any channel numbers
abbrev pub ChannelsApart : Type 0
ChannelsApart = (m : List ℕ) (x y : Access) (ch ch' : ℕ) → Names x ch → Names y ch' → (ch ≡ ch' → ⊥) → InEitherOrder x y m
