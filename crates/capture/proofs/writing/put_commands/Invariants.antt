-- `capture::writing::put_commands` meets its contract: each turn writes one command more.
-- Assumes nothing.
use Rattle.std.proofs.Common.{◌≡◌, take}
use Rattle.std.proofs.lemmas.List.Edits.{sets}
use Rattle.capture.specs.Format.{fours}
use Rattle.capture.proofs.writing.put_commands.Given as goal

abbrev pub invariant-loop-i : goal.invariant-loop-i
invariant-loop-i l = l.bytes ≡ sets l.initial.bytes l.at (fours (take l.i l.commands))
