-- A module's memory that agrees with a history (paper 01, "Fates").
use Rattle.std.specs.Prelude.{ℕ, ◌≤◌, ◌≡◌, List}
use Rattle.block.specs.Layout.{word}
use Rattle.settings.specs.Kept.{kept_of}
use Rattle.frame.specs.Layout.{count, block}
use Rattle.wide.specs.Part.{part_of}
use Rattle.module_laws.specs.Sane.{Sane}
use Rattle.module_laws.specs.Reduced.{reduced}
use Rattle.fates.specs.History.{History}

-- stamp, settings and held entries are the history's; "Each is a 32-bit count that rolls over"
pub record Agrees (h : History) (m : List ℕ) : Type 0 where
  pub sane : Sane m
  pub count : word m count ≡ h.count
  pub part : part_of m ≡ h.part
  pub kept : (ch : ℕ) → 1 ≤ ch → ch ≤ h.count → kept_of (block m ch) ≡ reduced (h.kept ch)
