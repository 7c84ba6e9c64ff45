-- Memory of another layout is refused through registers too.
-- Assumes nothing.
use Prim.Native.Nat.{ℕ}
use mathlib.Core.Path.{◌≡◌, refl, ap}
use mathlib.Core.Bool.{Bool, true, false, true≢false}
use mathlib.Core.List.{List}
use native.Mathlib.Omega.{arith}
use borrow.Author.Tests.{ne_eqb}
use Rattle.block.specs.Layout.{word}
use Rattle.frame.specs.Layout.{layout, layout_number}
use Rattle.frame.specs.Refusals.{part_refusal}
use Rattle.frame.proofs.Refused.{other_layout}
use Rattle.channel_calls.specs.Answers.{is_refused}
use Rattle.channel_calls.specs.Answer.{Answer}
use Rattle.channel_calls.specs.declared.calls.ChannelCall.{ChannelCall}
use Rattle.module.specs.declared.calls.Call.{Call}
use Rattle.module.specs.declared.calls.Call.TheVariants.{PowerUp, Reset, Wide, On}
use Rattle.module_laws.specs.Layouts.{OtherLayoutRefused}
use Rattle.module_laws.proofs.Layouts.{other_layout_refused}
use Rattle.register_map.specs.Shown.{shown}
use Rattle.registers.specs.Access.{turned_answer, turned_after}
use Rattle.register_map.specs.Turned.{read_turned, write_turned}
use Rattle.register_map.specs.Turns.{Turned, NotTurned, OneCall, EachNamed}
use Rattle.register_laws.specs.Layouts.{OtherLayoutRefusedByRegisters}

-- a call on a channel is no power-up
abbrev is_on : Call → Bool
is_on (PowerUp k) = false
is_on Reset = false
is_on (Wide k) = false
is_on (On ch k) = true

no_power_up : (ch : ℕ) (k : ChannelCall) (j : ℕ) → On ch k ≡ PowerUp j → ⊥
no_power_up ch k j e = true≢false (ap is_on e)

module _ (m : List ℕ) (n : word m layout ≡ layout_number → ⊥) where
  some : part_refusal m ≡ 0 → ⊥
  some z = omega (arith, other_layout m n)

  turned_refused : (t : Turned) → (is_refused (turned_answer t m) ≡ true) × (turned_after t m ≡ m)
  unfolding OtherLayoutRefused
  turned_refused (NotTurned r) = (refl, refl)
  turned_refused (OneCall ch k bits) =
      let e = other_layout_refused (On ch k) m (no_power_up ch k) n in
      (ap (λ (a : Answer). is_refused (shown bits a)) e.2, e.3)
  turned_refused (EachNamed c mask) = rw (ne_eqb (part_refusal m) 0 some) (refl, refl)

pub other_layout_refused_by_registers : OtherLayoutRefusedByRegisters
other_layout_refused_by_registers m n a v = (turned_refused m n (read_turned a), turned_refused m n (write_turned a v))
