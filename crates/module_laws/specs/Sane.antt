-- A module's memory that is neither short nor unsound (paper 01, "Memory and answer numbers", rows 1 and 2).
use Rattle.std.specs.Prelude.{ℕ, ◌≤◌, ◌≡◌, true, List, length}
use Rattle.block.specs.Layout.{word}
use Rattle.block.specs.Ranges.{Usable}
use Rattle.frame.specs.Layout.{count, Framed, block}
use Rattle.frame.specs.Refusals.{part_sound}

pub record Sane (m : List ℕ) : Type 0 where
  pub frame : Framed (length m) (word m count)
  pub part : part_sound m ≡ true
  pub usable : (ch : ℕ) → 1 ≤ ch → ch ≤ word m count → Usable (block m ch)
