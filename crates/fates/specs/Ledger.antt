-- The ledger of a FIFO: the entries that it accepted since the last accepted power-up, by number, and their fates (demand 3).
use Rattle.std.specs.Prelude.{ℕ, suc, ◌+◌, ◌%◌, ◌^◌, ◌<◌, ◌≡◌, List, [], ◌∷◌, ◌++◌, map, Bool, true, false, cond, length, take, drop}
use Rattle.fifos.specs.Fifos.{Fifo, Change, Stays, Adds, Overwrites, Takes, Clears, Begins}
use Rattle.settings.specs.Kept.{Kept, Effect}
use Rattle.channel_groups.specs.Told.{oldest_of}
use Rattle.fates.specs.History.{Telling, effect_on, history}

-- ---- of which FIFO

pub data Side : Type 0 where
  Receiving : Side
  Transmitting : Side

-- what a history keeps of it, and the number of its overwritten entries; a transmit FIFO overwrites none
abbrev pub fifo_of : Side → Kept → Fifo
fifo_of Receiving h = h.receive
fifo_of Transmitting h = h.transmit

abbrev pub overwritten_of : Side → Kept → ℕ
overwritten_of Receiving h = h.overwritten
overwritten_of Transmitting h = 0

-- what an effect makes of it
abbrev pub change_of : Side → Effect → Change
change_of Receiving e = e.receive
change_of Transmitting e = e.transmit

-- "(on sending, its parity bit aside)"
abbrev pub aside : Side → List ℕ → List ℕ
aside Receiving e = e
aside Transmitting e = map (λ w. w % 2 ^ 31) e

-- ---- entries and fates

-- "taken out (read or sent)", with the entry that the answer gave out; "cleared, overwritten"
pub data Fate : Type 0 where
  TakenOut : List ℕ → Fate
  Cleared : Fate
  Overwritten : Fate

-- an entry as it was accepted, with the place in the list, from 1, of the access that had it accepted
pub record Accepted : Type 0 where
  pub entry : List ℕ
  pub place : ℕ

-- an entry with its fate, and the place of the access that gave it
pub record Departed : Type 0 where
  pub accepted : Accepted
  pub fate : Fate
  pub place : ℕ

-- in number order: first those with a fate, then those "still held"
pub record Ledger : Type 0 where
  pub departed : List Departed
  pub held : List Accepted

module _ (at : ℕ) (l : Ledger) where
  -- the access at a place has an entry accepted
  abbrev pub enters : List ℕ → Ledger
  enters e = record { departed = l.departed; held = l.held ++ (record { entry = e; place = at } ∷ []) }

  -- and gives the n oldest of those held a fate
  abbrev pub depart : ℕ → Fate → Ledger
  depart n f =
      record {
        departed = l.departed ++ map (λ x. record { accepted = x; fate = f; place = at }) (take n l.held);
        held = drop n l.held;
      }

-- the ledger after the access at a place, which makes this change of the FIFO
abbrev pub ledger_after : ℕ → Change → Ledger → Ledger
ledger_after at Stays l = l
ledger_after at (Adds e) l = enters at l e
ledger_after at (Overwrites e) l = enters at (depart at l 1 Overwritten) e
ledger_after at (Takes e) l = depart at l 1 (TakenOut e)
ledger_after at Clears l = depart at l (length l.held) Cleared
ledger_after at Begins l = record { departed = []; held = [] }

-- the entries accepted after it, ledger aside
abbrev pub accepted_after : ℕ → Change → List Accepted → List Accepted
accepted_after at Stays xs = xs
accepted_after at (Adds e) xs = xs ++ (record { entry = e; place = at } ∷ [])
accepted_after at (Overwrites e) xs = xs ++ (record { entry = e; place = at } ∷ [])
accepted_after at (Takes e) xs = xs
accepted_after at Clears xs = xs
accepted_after at Begins xs = []

-- "The oldest is never asked for with none held."; what is taken out is the oldest; a transmit FIFO overwrites none
abbrev pub Fits : Side → Change → Fifo → Type 0
Fits side Stays f = Unit
Fits side (Adds e) f = Unit
Fits Receiving (Overwrites e) f = 0 < length f.held
Fits Transmitting (Overwrites e) f = ⊥
Fits side (Takes e) f = (0 < length f.held) × (aside side e ≡ aside side (oldest_of f))
Fits side Clears f = Unit
Fits side Begins f = Unit

-- ---- of a list of accesses, by what they tell, the latest first

module _ (side : Side) (ch : ℕ) where
  -- what an access does to the FIFO of channel ch, behind a list of accesses
  abbrev pub change_behind : List Telling → Telling → Change
  change_behind before t = change_of side (effect_on ch t (history before))

  abbrev pub ledger : List Telling → Ledger
  ledger [] = record { departed = []; held = [] }
  ledger (t ∷ before) = ledger_after (suc (length before)) (change_behind before t) (ledger before)

  -- "number the entries that each FIFO accepted since the last accepted power-up": each with the place of the access that accepted it
  abbrev pub accepted_by : List Telling → List Accepted
  accepted_by [] = []
  accepted_by (t ∷ before) = accepted_after (suc (length before)) (change_behind before t) (accepted_by before)

-- ---- what a ledger says

-- every entry, in number order
abbrev pub numbered : Ledger → List Accepted
numbered l = map (λ d. d.accepted) l.departed ++ l.held

abbrev pub entries : List Accepted → List (List ℕ)
entries xs = map (λ x. x.entry) xs

-- a test of a fate: for those taken out, for those cleared, for those overwritten
abbrev pub by_fate : Bool → Bool → Bool → Fate → Bool
by_fate t c o (TakenOut e) = t
by_fate t c o Cleared = c
by_fate t c o Overwritten = o

-- how many entries have a fate that passes a test
abbrev pub number : (Fate → Bool) → List Departed → ℕ
number is [] = 0
number is (d ∷ ds) = cond (is d.fate) 1 0 + number is ds

module _ (l : Ledger) where
  abbrev pub taken_out : ℕ
  taken_out = number (by_fate true false false) l.departed

  abbrev pub cleared : ℕ
  cleared = number (by_fate false true false) l.departed

  abbrev pub overwritten : ℕ
  overwritten = number (by_fate false false true) l.departed
