-- `capture::reading::put_words` meets its contract: each turn puts one word more.
-- Assumes nothing.
use Rattle.std.proofs.Common.{◌≡◌}
use Rattle.std.proofs.lemmas.List.Edits.{sets}
use Rattle.capture.specs.Read.{words_at}
use Rattle.capture.proofs.reading.put_words.Given as goal

abbrev pub invariant-loop-i : goal.invariant-loop-i
invariant-loop-i l = l.lent ≡ sets l.initial.lent 0 (words_at l.bytes l.from l.i)
