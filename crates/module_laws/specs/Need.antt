-- The words of a module's memory that a call needs (paper 01, "Memory and answer numbers").
use Rattle.std.specs.Prelude.{ℕ, List}
use Rattle.block.specs.Layout.{word}
use Rattle.frame.specs.Layout.{count, need}
use Rattle.module.specs.declared.calls.Call.{Call}
use Rattle.module.specs.declared.calls.Call.TheVariants.{PowerUp, Reset, Wide, On}

-- "the need of its stored channel count"; "at power-up .. the need of the asked count"
abbrev pub needed : Call → List ℕ → ℕ
needed (PowerUp k) m = need k
needed Reset m = need (word m count)
needed (Wide k) m = need (word m count)
needed (On ch k) m = need (word m count)
