-- "ARINC 429 asks for at least four null bit times between words" (paper 02 (i)): over every list of accesses, as the answers tell it.
use Rattle.std.specs.Prelude.{ℕ, List}
use Rattle.schedule.specs.Spacing.{Spaced}
use Rattle.registers.specs.declared.accesses.Access.{Access}
use Rattle.fates.specs.Run.{told_by}
use Rattle.fates.specs.Theorem.{Started}
use Rattle.spacing.specs.Line.{line}

-- every list of accesses to one module's memory, of which the first is an accepted power-up; every channel
abbrev pub FourNullBetweenWords : Type 0
FourNullBetweenWords = (m : List ℕ) (accesses : List (ℕ × Access)) → Started m accesses → (ch : ℕ) → Spaced (line ch (told_by m accesses))
