-- The bounds of a usable block's numbers that the transmitter indexes by.
-- Assumes nothing.
use Rattle.std.proofs.Common.{ℕ, ◌<◌, ◌≤◌, List, arith}
use Rattle.ring.specs.Ring.{slots}
use Rattle.schedule.specs.Codes.{last}
use Rattle.block.specs.Layout.{word, transmit_position, address}
use Rattle.block.specs.Ranges.{greatests, Usable}
use Rattle.block.proofs.Sound.{at_most}

module _ {b : List ℕ} (u : Usable b) where
  pub position_fits : word b transmit_position < slots
  unfolding greatests
  position_fits = omega (arith, at_most u transmit_position (omega arith))

  pub address_fits : word b address ≤ last
  unfolding greatests
  address_fits = omega (arith, at_most u address (omega arith))
