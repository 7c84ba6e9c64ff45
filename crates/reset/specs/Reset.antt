-- Module reset: the memory that it leaves (paper 01, "Faults and status"; it is refused as every module-wide call is, with 1 and 2).
use Rattle.std.specs.Prelude.{ℕ, List, ◌++◌, drop}
use Rattle.block.specs.Layout.{word}
use Rattle.block.specs.Refusals.{leave_unless}
use Rattle.restart.specs.Tests.{block_reset}
use Rattle.frame.specs.Layout.{count, layout, module_words, block}
use Rattle.frame.specs.Each.{each_to}
use Rattle.frame.specs.Refusals.{wide_refusal}
use Rattle.power.specs.Power.{part_with}

-- "all FIFOs cleared, async words dropped, transmitters idle at command 0, settings to factory, .. latches and enables 0, all edge": a channel's block
abbrev pub reset_channel : List ℕ → ℕ → List ℕ
reset_channel m ch = block_reset (block m ch)

-- "rule not run. Match sets .., mailboxes, schedule, message RAM and the counts below stay.": channels 1 to n, and nothing but their reset
abbrev pub reset_to : ℕ → List ℕ → List ℕ
reset_to n m = each_to reset_channel n m

-- "settings to factory, stamp and counters 0": every channel of the stored count, and the module part but for that count and the layout number
unfoldable pub module_reset : List ℕ → List ℕ
module_reset m = part_with (word m count) (word m layout) ++ drop module_words (reset_to (word m count) m)

-- "A refusal (1 to 7) changes no lent word"
abbrev pub reset_after : List ℕ → List ℕ
reset_after m = leave_unless (wide_refusal m) (module_reset m) m
