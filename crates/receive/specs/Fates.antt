-- What an arrival does to the receive FIFO (paper 01, "Fates").
use Rattle.std.specs.Prelude.{ℕ, List}
use Rattle.fifos.specs.Fifos.{Change, Stays, Adds, Overwrites}
use Rattle.arrival.specs.declared.Arrival.{Arrival}
use Rattle.arrival.specs.declared.Arrival.TheVariants.{Ignored, Filtered, Appended, Dropped, Overwriting, AlreadyListed}

-- "Arrival answered as appended: the entry of Receive .. is added; as overwriting: the oldest is overwritten first, then the same."
-- "Dropped, filtered and ignored arrivals are not accepted."; paper 02 (v): "an index not appended is not accepted"
abbrev pub arrival_change : Arrival → List ℕ → Change
arrival_change Ignored e = Stays
arrival_change Filtered e = Stays
arrival_change Appended e = Adds e
arrival_change Dropped e = Stays
arrival_change Overwriting e = Overwrites e
arrival_change AlreadyListed e = Stays
