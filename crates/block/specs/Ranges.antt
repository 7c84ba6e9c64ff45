-- The least and the greatest value of each stored number (paper 01, "Stored ranges, for 2", and the table of "Channel settings").
use Rattle.std.specs.Prelude.{ℕ, zero, suc, ◌≡◌, List, [], ◌∷◌, Bool, true, ◌&&◌, leb, get_or}
use Rattle.word.specs.Gap.{least, greatest}
use Rattle.ring.specs.Ring.{slots, last_slot}
use Rattle.schedule.specs.Codes.{last}
use Rattle.block.specs.Layout.{word, ranged, receive_level, receive_size, Whole}

-- "switches, two-way modes .. 0 or 1", "transmit mode .. 0 to 2", size, thresholds and rate;
-- levels and positions; state, address and async mark; latch, enable and level masks; the message mark ("0 or 1", paper 02 (i))
unfoldable pub leasts : List ℕ
leasts =
    0 ∷ 0 ∷ 0 ∷ 0 ∷ 0 ∷ 0 ∷ 0 ∷ 0 ∷ 1 ∷ 0 ∷ 0 ∷ least
    ∷ 0 ∷ 0 ∷ 0 ∷ 0
    ∷ 0 ∷ 0 ∷ 0
    ∷ 0 ∷ 0 ∷ 0 ∷ 0 ∷ []

-- "latch, enable and level masks 0 to 127": all seven conditions
abbrev pub all_conditions : ℕ
all_conditions = 127

unfoldable pub greatests : List ℕ
greatests =
    1 ∷ 1 ∷ 1 ∷ 1 ∷ 1 ∷ 1 ∷ 1 ∷ 2 ∷ slots ∷ slots ∷ slots ∷ greatest
    ∷ slots ∷ last_slot ∷ slots ∷ last_slot
    ∷ 2 ∷ last ∷ 1
    ∷ all_conditions ∷ all_conditions ∷ all_conditions ∷ 1 ∷ []

-- whether x is between the least and the greatest value that two tables have for word i
abbrev pub within : List ℕ → List ℕ → ℕ → ℕ → Bool
within lo hi i x = leb (get_or lo i 0) x && leb x (get_or hi i 0)

-- whether each of the first n words is
unfoldable pub all_within : List ℕ → List ℕ → List ℕ → ℕ → Bool
all_within lo hi b zero = true
all_within lo hi b (suc n) = all_within lo hi b n && within lo hi n (word b n)

-- whether x is in the range of a block's word i: "Arguments have the same ranges"
abbrev pub in_range : ℕ → ℕ → Bool
in_range i x = within leasts greatests i x

-- "a stored number .. of the addressed channel is outside its range": none is; and "receive level 0 to size"
unfoldable pub sound : List ℕ → Bool
sound b = all_within leasts greatests b ranged && leb (word b receive_level) (word b receive_size)

-- what the calls on a block may take for granted: its words are there, and it is sound
pub record Usable (b : List ℕ) : Type 0 where
  pub whole : Whole b
  pub sound : sound b ≡ true
