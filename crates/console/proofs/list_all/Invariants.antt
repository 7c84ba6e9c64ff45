-- `console::list_all` meets its contract: the bytes from `byte` on give what the whole text gives.
use mathlib.Core.Path.{◌≡◌}
use lib.ListN.{length, drop}
use Rattle.console.specs.Labels.{listed, held}
use Rattle.console.proofs.list_all.Given as goal

abbrev pub invariant-loop-byte : goal.invariant-loop-byte
invariant-loop-byte l = (length l.list ≡ length l.initial.list) × (listed l.list l.at
    (drop l.byte-index l.text) ≡ listed l.initial.list l.initial.at l.text) × (held l.list l.at (drop l.byte-index l.text) ≡ held l.initial.list l.initial.at l.text)
