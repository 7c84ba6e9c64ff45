-- The parts so far are full, were taken in order, and are what the input lost.
use Rattle.std.proofs.Common.{◌≡◌, ℕ, List, length}
use Rattle.std.specs.Fn.{CalledAt}
use Rattle.std.specs.List.{All, FoldsTo, concat}
use Rattle.std.specs.Io.KnownBytes.{Consumes}
use Rattle.streams.proofs.each_part.Given as goal

abbrev pub invariant-loop : goal.invariant-loop
invariant-loop g l = goal.F-IsAlwaysCallable g l.take
    × ((full : List (List ℕ)) × (length full ≡ l.counter)
    × FoldsTo (λ f part h. CalledAt g.F.FnMut f part tt h) l.initial.take full l.take
    × Consumes (g.R.Read.remaining l.initial.input) (g.R.Read.remaining l.input) (concat full)
    × All (λ part. length part ≡ 4096) full)
