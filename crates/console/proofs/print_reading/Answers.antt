-- `console::print_reading` is safe: what reads as a number in units has a count of 262,144ths.
use mathlib.Core.Path.{◌≡◌}
use Rattle.std.specs.Prelude.{Ok}
use Rattle.readings.specs.declared.reading.Reading.TheVariants.{Binary}
use Rattle.readings.specs.Reading.{reading}
use Rattle.readings.proofs.Laws.{reading_exact}
use Rattle.console.proofs.print_reading.Goals as goal

pub print_units-requires : goal.print_units-requires
print_units-requires g c =
    let e : reading c.args.list.now c.args.word ≡ Ok (Binary c.in-Ok-Binary.units) = cc in
    (reading_exact c.args.list.now c.args.word c.in-Ok-Binary.units e).2.counts
