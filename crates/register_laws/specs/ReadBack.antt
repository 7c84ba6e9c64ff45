-- What is written to a register is read from it again.
use Rattle.std.specs.Prelude.{ℕ, ◌≡◌, List}
use Rattle.channel_calls.specs.Answer.{Value}
use Rattle.register_map.specs.Turned.{read_of, write_of}
use Rattle.registers.specs.Access.{turned_answer, turned_after}
use Rattle.register_map.specs.Registers.{Register}

-- a write that is done, and what a read of the register shows behind it: these bits of the value
abbrev pub ReadsBack : Register → (ℕ → ℕ) → Type 0
ReadsBack r bits =
    (v : ℕ) (m : List ℕ) → turned_answer (write_of r v) m ≡ Value 0 → turned_answer (read_of r) (turned_after (write_of r v) m) ≡ Value (bits v)
