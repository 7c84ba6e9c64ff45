-- A FIFO by where its words stand and the width of an entry.
use Rattle.std.specs.Prelude.{ℕ, List, ◌<◌, ◌≤◌, length}
use Rattle.ring.specs.Ring.{slots, end, of_width}
use Rattle.block.specs.Layout.{word}
use Rattle.fifos.specs.Fifos.{Offsets}
use Rattle.fifos.specs.declared.entries.FifoWords.{FifoWords}

-- the FIFO of entries of n words that stands there
abbrev pub offsets_of : ℕ → FifoWords → Offsets
offsets_of n s =
    record {
      ring = of_width n s.ring;
      position = s.position;
      level = s.level;
      accepted = s.accepted;
      taken = s.taken;
      cleared = s.cleared;
    }

-- its words stand in the block, and its position and level are in their ranges
pub record Fits (p : Offsets) (b : List ℕ) : Type 0 where
  pub ring : end p.ring ≤ length b
  pub position_at : p.position < length b
  pub level_at : p.level < length b
  pub accepted_at : p.accepted < length b
  pub taken_at : p.taken < length b
  pub position : word b p.position < slots
  pub level : word b p.level ≤ slots
