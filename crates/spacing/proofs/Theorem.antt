-- Between two words of a channel's schedule stand at least 4 null bit times, over every list of accesses.
-- Assumes nothing.
use Rattle.schedule.proofs.Spacing.{spaced}
use Rattle.fates.specs.Run.{told_by}
use Rattle.fates.proofs.Along.{along}
use Rattle.spacing.specs.Line.{line}
use Rattle.spacing.specs.Theorem.{FourNullBetweenWords}
use Rattle.spacing.proofs.Steps.{spaces}

pub four_null_between_words : FourNullBetweenWords
four_null_between_words m accesses s ch = spaced (line ch (told_by m accesses)) (along (spaces ch) m accesses s).each
