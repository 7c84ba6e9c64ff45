-- An access's answer is listed as a number and as many values as the access has, refused or not, on any memory.
-- Assumes nothing.
use Prim.Native.Nat.{ℕ, suc}
use mathlib.Core.Path.{◌≡◌, refl}
use mathlib.Core.Bool.{Bool, true, false, cond}
use mathlib.Core.List.{List}
use lib.Dec.{eqb}
use lib.ListN.{length}
use Rattle.channel_calls.specs.Answers.{numbers_of}
use Rattle.channel_calls.specs.Answer.{Answer, Done, Refused, Value, Waiting, Fates, Arrived, Entry, Stepped}
use Rattle.frame.specs.Layout.{most}
use Rattle.frame.specs.Refusals.{part_refusal}
use Rattle.module.specs.OnChannel.{on_answer}
use Rattle.module.proofs.Values.{listed}
use Rattle.register_map.specs.Shown.{shown}
use Rattle.register_map.specs.Turned.{read_turned, write_turned}
use Rattle.registers.specs.Masked.{refused_to}
use Rattle.registers.specs.Access.{turned_answer, access_answer, access_values, access_numbers}
use Rattle.registers.specs.declared.accesses.Access.{Access}
use Rattle.registers.specs.declared.accesses.Access.TheVariants.{Direct, ReadRegister, WriteRegister}
use Rattle.register_map.specs.declared.shown.Bits.{Bits}
use Rattle.register_map.specs.Turns.{Turned, NotTurned, OneCall, EachNamed}

shown-listed : (bits : Bits) (a : Answer) → length (numbers_of 1 (shown bits a)) ≡ 2
shown-listed bits Done = refl
shown-listed bits (Refused r) = refl
shown-listed bits (Value x) = refl
shown-listed bits (Waiting m w) = refl
shown-listed bits (Fates a r c o t s d) = refl
shown-listed bits (Arrived a) = refl
shown-listed bits (Entry s w t) = refl
shown-listed bits (Stepped o) = refl

turned_listed : (t : Turned) (m : List ℕ) → length (numbers_of 1 (turned_answer t m)) ≡ 2
turned_listed (NotTurned r) m = refl
turned_listed (OneCall ch k bits) m = shown-listed bits (on_answer ch k m)
turned_listed (EachNamed c mask) m = go (eqb (part_refusal m) 0)
  where
    go : (t : Bool) → length (numbers_of 1 (cond t (Value (refused_to c mask most m)) (Refused (part_refusal m)))) ≡ 2
    go true = refl
    go false = refl

pub access_listed : (x : Access) (m : List ℕ) → length (access_numbers x (access_answer x m)) ≡ suc (access_values x)
access_listed (Direct c) m = listed c m
access_listed (ReadRegister a) m = turned_listed (read_turned a) m
access_listed (WriteRegister a v) m = turned_listed (write_turned a v) m
