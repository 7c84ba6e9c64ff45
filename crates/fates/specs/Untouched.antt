-- What an access leaves alone, on any memory (paper 01, "Memory and answer numbers").
use Rattle.std.specs.Prelude.{ℕ, ◌≡◌, true, List, length, drop}
use Rattle.block.specs.Layout.{word}
use Rattle.frame.specs.Layout.{count, need}
use Rattle.channel_calls.specs.Answers.{is_refused}
use Rattle.module_laws.specs.Need.{needed}
use Rattle.registers.specs.Access.{access_answer, access_after}
use Rattle.registers.specs.declared.accesses.Access.{Access}
use Rattle.registers.specs.declared.accesses.Access.TheVariants.{Direct, ReadRegister, WriteRegister}

-- the words that an access needs
abbrev pub needed_by : Access → List ℕ → ℕ
needed_by (Direct c) m = needed c m
needed_by (ReadRegister a) m = need (word m count)
needed_by (WriteRegister a v) m = need (word m count)

pub record LeavesAlone (x : Access) (m : List ℕ) : Type 0 where
  -- "A refusal changes no word"
  pub refused : is_refused (access_answer x m) ≡ true → access_after x m ≡ m
  -- "Words beyond the need are never touched"
  pub beyond : drop (needed_by x m) (access_after x m) ≡ drop (needed_by x m) m
  -- as many words as were lent
  pub as_long : length (access_after x m) ≡ length m
