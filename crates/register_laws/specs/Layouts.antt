-- Memory of another layout, through registers (paper 02 (vii): "any other value there is unsound; old memory isn't converted").
use Rattle.std.specs.Prelude.{ℕ, ◌≡◌, true, List}
use Rattle.block.specs.Layout.{word}
use Rattle.frame.specs.Layout.{layout, layout_number}
use Rattle.channel_calls.specs.Answers.{is_refused}
use Rattle.registers.specs.Access.{access_answer, access_after}
use Rattle.registers.specs.declared.accesses.Access.{Access}
use Rattle.registers.specs.declared.accesses.Access.TheVariants.{ReadRegister, WriteRegister}

-- the access is refused, and the memory stays
abbrev pub Refuses : Access → List ℕ → Type 0
Refuses x m = (is_refused (access_answer x m) ≡ true) × (access_after x m ≡ m)

-- every register read and write, masked writes among them
abbrev pub OtherLayoutRefusedByRegisters : Type 0
OtherLayoutRefusedByRegisters = (m : List ℕ) → (word m layout ≡ layout_number → ⊥) → (a v : ℕ) → Refuses (ReadRegister a) m × Refuses (WriteRegister a v) m
