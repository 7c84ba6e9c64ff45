-- What a FIFO holds and what became of its entries (paper 01, "Fates": "Receive FIFO: accepted, read, cleared, overwritten.
-- Transmit FIFO: accepted, sent, cleared."). The two differ in where their words stand and in the width of an entry, so each rule is said once.
use Rattle.std.specs.Prelude.{ℕ, ◌+◌, ◌-◌, List, [], ◌∷◌, ◌++◌, length, drop, slice_set}
use Rattle.ring.specs.Ring.{Ring, held, appended, oldest, next}
use Rattle.block.specs.Layout.{word, receive_ring, receive_position, receive_level, receive_accepted, receive_read, receive_cleared, transmit_ring, transmit_position, transmit_level, transmit_accepted, transmit_sent, transmit_cleared}
use Rattle.fifos.specs.Counts.{counted}

-- ---- a FIFO's words

-- where a FIFO's words stand; `taken` counts the entries read or sent
pub record Offsets : Type 0 where
  pub ring : Ring
  pub position : ℕ
  pub level : ℕ
  pub accepted : ℕ
  pub taken : ℕ
  pub cleared : ℕ

abbrev pub receive_offsets : Offsets
receive_offsets =
    record {
      ring = receive_ring;
      position = receive_position;
      level = receive_level;
      accepted = receive_accepted;
      taken = receive_read;
      cleared = receive_cleared;
    }

abbrev pub transmit_offsets : Offsets
transmit_offsets =
    record {
      ring = transmit_ring;
      position = transmit_position;
      level = transmit_level;
      accepted = transmit_accepted;
      taken = transmit_sent;
      cleared = transmit_cleared;
    }

module _ (p : Offsets) (b : List ℕ) where
  -- the oldest entry
  abbrev pub oldest_entry : List ℕ
  oldest_entry = oldest p.ring b (word b p.position)

  -- the block with an entry accepted behind those held
  abbrev pub entry_appended : List ℕ → List ℕ
  entry_appended e =
      slice_set (slice_set (appended p.ring b (word b p.position) (word b p.level) e) p.level (word b p.level + 1))
      p.accepted (counted (word b p.accepted) 1)

  -- the block with an entry accepted over the oldest
  abbrev pub entry_overwriting : List ℕ → List ℕ
  entry_overwriting e =
      slice_set (slice_set (appended p.ring b (word b p.position) (word b p.level) e) p.position (next p.ring.slots (word b p.position)))
      p.accepted (counted (word b p.accepted) 1)

  -- the block with the oldest entry taken out
  abbrev pub entry_taken : List ℕ
  entry_taken =
      slice_set (slice_set (slice_set b p.level (word b p.level - 1)) p.position (next p.ring.slots (word b p.position)))
      p.taken (counted (word b p.taken) 1)

-- ---- what a FIFO holds

-- the held entries, oldest first, and the counts
pub record Fifo : Type 0 where
  pub held : List (List ℕ)
  pub accepted : ℕ
  pub taken : ℕ
  pub cleared : ℕ

abbrev pub fifo : Offsets → List ℕ → Fifo
fifo p b =
    record {
      held = held p.ring b (word b p.position) (word b p.level);
      accepted = word b p.accepted;
      taken = word b p.taken;
      cleared = word b p.cleared;
    }

-- what becomes of a FIFO, over the way in which a count grows: the stored counts roll over, a history's are whole numbers
module _ (plus : ℕ → ℕ → ℕ) (f : Fifo) where
  -- an entry is accepted
  abbrev pub accepts : List ℕ → Fifo
  accepts e = record { held = f.held ++ (e ∷ []); accepted = plus f.accepted 1; taken = f.taken; cleared = f.cleared }

  -- the oldest is taken out
  abbrev pub gives : Fifo
  gives = record { held = drop 1 f.held; accepted = f.accepted; taken = plus f.taken 1; cleared = f.cleared }

  -- "Clearing adds the level it found"
  abbrev pub clears : Fifo
  clears = record { held = []; accepted = f.accepted; taken = f.taken; cleared = plus f.cleared (length f.held) }

  -- "the oldest is overwritten first, then the same": the overwritten are counted beside it
  abbrev pub overwrites : List ℕ → Fifo
  overwrites e = record { held = drop 1 f.held ++ (e ∷ []); accepted = plus f.accepted 1; taken = f.taken; cleared = f.cleared }

-- what a call does to a FIFO
pub data Change : Type 0 where
  Stays : Change
  -- an entry is accepted
  Adds : List ℕ → Change
  -- the oldest is overwritten, and an entry is accepted
  Overwrites : List ℕ → Change
  -- the oldest is taken out, and is given out as this entry
  Takes : List ℕ → Change
  -- every entry is cleared
  Clears : Change
  -- power-up: "counts 0, none held"
  Begins : Change

abbrev pub no_entries : Fifo
no_entries = record { held = []; accepted = 0; taken = 0; cleared = 0 }

module _ (plus : ℕ → ℕ → ℕ) where
  -- the FIFO after it
  abbrev pub changed : Change → Fifo → Fifo
  changed Stays f = f
  changed (Adds e) f = accepts plus f e
  changed (Overwrites e) f = overwrites plus f e
  changed (Takes e) f = gives plus f
  changed Clears f = clears plus f
  changed Begins f = no_entries

  -- the count of the overwritten after it
  abbrev pub overwritten_after : Change → ℕ → ℕ
  overwritten_after Stays n = n
  overwritten_after (Adds e) n = n
  overwritten_after (Overwrites e) n = plus n 1
  overwritten_after (Takes e) n = n
  overwritten_after Clears n = n
  overwritten_after Begins n = 0
