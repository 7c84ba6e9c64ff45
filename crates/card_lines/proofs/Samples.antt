-- What the samples say, computed from the definitions.
-- Assumes nothing.
use mathlib.Core.Path.{refl}
use Rattle.text.specs.Bytes.{is_blank, digit_of}
use Rattle.text.specs.Line as line
use Rattle.text.specs.Line.{asked_by}
use Rattle.card_lines.specs.Fields.{closed, taken, entry_of}
use Rattle.card_lines.specs.Samples.{samples, SaidOf}

pub said_of : SaidOf samples
unfolding closed taken entry_of is_blank digit_of line.taken asked_by
said_of = (refl, (refl, (refl, (refl, (refl, (refl, (refl, (refl, (refl, (refl, (refl, (refl, (refl, (refl, (refl, tt)))))))))))))))
