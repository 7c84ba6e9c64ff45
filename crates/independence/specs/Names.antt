-- The channel that an access names (paper 02 (xii)).
use Rattle.std.specs.Prelude.{ℕ, ◌≡◌}
use Rattle.module.specs.declared.calls.Call.{Call}
use Rattle.module.specs.declared.calls.Call.TheVariants.{PowerUp, Reset, Wide, On}
use Rattle.register_map.specs.Turned.{read_turned, write_turned}
use Rattle.registers.specs.declared.accesses.Access.{Access}
use Rattle.registers.specs.declared.accesses.Access.TheVariants.{Direct, ReadRegister, WriteRegister}
use Rattle.register_map.specs.Turns.{Turned, NotTurned, OneCall, EachNamed}

-- "Document 01's module-wide calls .. are excepted by name": power-up, module reset, the stamp's calls, resolution and threshold name no channel
abbrev pub CallNames : Call → ℕ → Type 0
CallNames (PowerUp n) ch = ⊥
CallNames Reset ch = ⊥
CallNames (Wide k) ch = ⊥
CallNames (On ch' k) ch = ch' ≡ ch

-- "masked writes of (vi)" are excepted too; an access that 30 to 32 refuse reaches no channel, and may stand for any
abbrev pub TurnedNames : Turned → ℕ → Type 0
TurnedNames (NotTurned r) ch = Unit
TurnedNames (OneCall ch' k bits) ch = ch' ≡ ch
TurnedNames (EachNamed c mask) ch = ⊥

abbrev pub Names : Access → ℕ → Type 0
Names (Direct c) ch = CallNames c ch
Names (ReadRegister a) ch = TurnedNames (read_turned a) ch
Names (WriteRegister a v) ch = TurnedNames (write_turned a v) ch
