-- Every access to a module's memory: what it answers and what it leaves (paper 02 (vi)).
use Rattle.std.specs.Prelude.{ℕ, List}
use Rattle.channel_calls.specs.Answers.{numbers_of}
use Rattle.channel_calls.specs.Answer.{Answer, Refused}
use Rattle.module.specs.OnChannel.{on_answer, on_after}
use Rattle.module.specs.Perform.{answer, after, values}
use Rattle.register_map.specs.Shown.{shown}
use Rattle.register_map.specs.Turned.{read_turned, write_turned}
use Rattle.registers.specs.Masked.{masked_answer, masked_after}
use Rattle.registers.specs.declared.accesses.Access.{Access}
use Rattle.registers.specs.declared.accesses.Access.TheVariants.{Direct, ReadRegister, WriteRegister}
use Rattle.register_map.specs.Turns.{Turned, NotTurned, OneCall, EachNamed}

-- refused before document 01's numbers; that call on that channel; or each named channel
abbrev pub turned_answer : Turned → List ℕ → Answer
turned_answer (NotTurned r) m = Refused r
turned_answer (OneCall ch k bits) m = shown bits (on_answer ch k m)
turned_answer (EachNamed c mask) m = masked_answer c mask m

abbrev pub turned_after : Turned → List ℕ → List ℕ
turned_after (NotTurned r) m = m
turned_after (OneCall ch k bits) m = on_after ch k m
turned_after (EachNamed c mask) m = masked_after c mask m

-- the answer of an access on a memory
abbrev pub access_answer : Access → List ℕ → Answer
access_answer (Direct c) m = answer c m
access_answer (ReadRegister a) m = turned_answer (read_turned a) m
access_answer (WriteRegister a v) m = turned_answer (write_turned a v) m

-- the memory after an access
abbrev pub access_after : Access → List ℕ → List ℕ
access_after (Direct c) m = after c m
access_after (ReadRegister a) m = turned_after (read_turned a) m
access_after (WriteRegister a v) m = turned_after (write_turned a v) m

-- how many values an access answers beside the number: a register read its value, a register write the mask, 0 where its register takes none
abbrev pub access_values : Access → ℕ
access_values (Direct c) = values c
access_values (ReadRegister a) = 1
access_values (WriteRegister a v) = 1

abbrev pub access_numbers : Access → Answer → List ℕ
access_numbers x a = numbers_of (access_values x) a
