-- `capture::reading::put_stops` meets its contract: stops from the index on.
-- Assumes nothing.
use Rattle.std.proofs.Common.{◌≡◌, ℕ, ◌-◌, length, take, drop, replicate, length-take, length-drop, arith}
use Rattle.std.proofs.lemmas.List.{length-replicate}
use Rattle.capture.specs.Format.{lent_words}
use Rattle.little_endian.proofs.Stores.{stored}
use Rattle.capture.proofs.reading.put_stops.Goals as goal

pub returns : goal.returns
returns c =
    let n : length (take (lent_words - c.args.from) (drop c.args.from c.args.lent.now)) ≡ lent_words - c.args.from = simp (length-take, length-drop) (omega arith) in
    let h = c.fill.ensures.after (λ (y : ℕ) (e : y ≡ 0). e) in
    stored c.args.lent.now _ (replicate (lent_words - c.args.from) 0) c.args.from lent_words (rw (length-replicate {A = ℕ} (lent_words - c.args.from) 0) (omega arith))
    c.requires.lent_words_in_bounds (rw n at h)
