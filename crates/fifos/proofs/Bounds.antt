-- The bounds of a usable block's FIFO words.
-- Assumes nothing.
use Rattle.std.proofs.Common.{◌≡◌, ℕ, ◌<◌, ◌≤◌, List, length, arith}
use Rattle.ring.specs.Ring.{slots}
use Rattle.block.specs.Layout.{word, receive_level, receive_position, receive_size, transmit_level, transmit_position, block_words}
use Rattle.block.specs.Ranges.{leasts, greatests, Usable}
use Rattle.block.proofs.Sound.{at_least, at_most, level_in_size}
use Rattle.fifos.specs.Fifos.{receive_offsets, transmit_offsets}
use Rattle.fifos.specs.Entries.{Fits}

-- level, size and position of the receive FIFO
pub record Bounds (b : List ℕ) : Type 0 where
  pub whole : length b ≡ block_words
  pub position : word b receive_position < slots
  pub level : word b receive_level ≤ word b receive_size
  pub some : 0 < word b receive_size
  pub size : word b receive_size ≤ slots

pub bounds : {b : List ℕ} → Usable b → Bounds b
unfolding leasts greatests
bounds u =
    record {
      whole = u.whole;
      position = omega (arith, at_most u receive_position (omega arith));
      level = level_in_size u;
      some = at_least u receive_size (omega arith);
      size = at_most u receive_size (omega arith);
    }

pub receive_fits : {b : List ℕ} → Usable b → Fits receive_offsets b
unfolding greatests
receive_fits u =
    record {
      ring = omega (arith, u.whole);
      position_at = omega (arith, u.whole);
      level_at = omega (arith, u.whole);
      accepted_at = omega (arith, u.whole);
      taken_at = omega (arith, u.whole);
      position = omega (arith, at_most u receive_position (omega arith));
      level = omega (arith, level_in_size u, at_most u receive_size (omega arith));
    }

pub transmit_fits : {b : List ℕ} → Usable b → Fits transmit_offsets b
unfolding greatests
transmit_fits u =
    record {
      ring = omega (arith, u.whole);
      position_at = omega (arith, u.whole);
      level_at = omega (arith, u.whole);
      accepted_at = omega (arith, u.whole);
      taken_at = omega (arith, u.whole);
      position = omega (arith, at_most u transmit_position (omega arith));
      level = omega (arith, at_most u transmit_level (omega arith));
    }
