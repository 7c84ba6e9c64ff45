-- Memory of another layout (paper 02 (vii): "any other value there is unsound; old memory isn't converted").
use Rattle.std.specs.Prelude.{ℕ, ◌≤◌, ◌≡◌, List}
use Rattle.block.specs.Layout.{word}
use Rattle.frame.specs.Layout.{layout, layout_number}
use Rattle.frame.specs.Refusals.{part_refusal}
use Rattle.channel_calls.specs.Answer.{Refused}
use Rattle.module.specs.Perform.{answer, after}
use Rattle.module.specs.declared.calls.Call.{Call}
use Rattle.module.specs.declared.calls.Call.TheVariants.{PowerUp}

-- every call but power-up is refused with 1 or 2, and leaves the memory as it was
unfoldable pub OtherLayoutRefused : Type 0
OtherLayoutRefused = (c : Call) (m : List ℕ) → ((k : ℕ) → c ≡ PowerUp k → ⊥) → (word m layout ≡ layout_number → ⊥)
    → (1 ≤ part_refusal m) × (part_refusal m ≤ 2) × (answer c m ≡ Refused (part_refusal m)) × (after c m ≡ m)
