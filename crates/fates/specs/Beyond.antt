-- What the proof of demand 3 gives beyond it: the stored words are the history's, and the places of a ledger are those of the accesses.
use Rattle.std.specs.Prelude.{ℕ, suc, ◌≤◌, ◌<◌, ◌≡◌, List, [], ◌∷◌, ◌++◌, map, length}
use Rattle.fifos.specs.Fifos.{Change, Stays, Adds, Overwrites, Takes, Clears, Begins}
use Rattle.registers.specs.declared.accesses.Access.{Access}
use Rattle.fates.specs.Run.{run, told_by}
use Rattle.fates.specs.History.{Telling, history}
use Rattle.fates.specs.Ledger.{Side, Fate, TakenOut, Cleared, Overwritten, Departed, change_behind, ledger, numbered}
use Rattle.fates.specs.Agrees.{Agrees}
use Rattle.fates.specs.Theorem.{Started, Every}

abbrev pub Ordered : (ℕ → ℕ → Type 0) → List ℕ → Type 0
Ordered R [] = Unit
Ordered R (x ∷ xs) = Every (R x) xs × Ordered R xs

abbrev pub GivesFate : Change → Fate → Type 0
GivesFate Stays f = ⊥
GivesFate (Adds e) f = ⊥
GivesFate (Overwrites e) f = f ≡ Overwritten
GivesFate (Takes e) f = f ≡ TakenOut e
GivesFate Clears f = f ≡ Cleared
GivesFate Begins f = ⊥

-- an entry's fate was given by the access at its place, a later one than the access that had the entry accepted
pub record GivenAt (side : Side) (ch : ℕ) (told : List Telling) (d : Departed) : Type 0 where
  pub after : List Telling
  pub telling : Telling
  pub before : List Telling
  pub is : told ≡ after ++ telling ∷ before
  pub place : d.place ≡ suc (length before)
  pub gives : GivesFate (change_behind side ch before telling) d.fate
  pub later : d.accepted.place < d.place

pub record Placed (side : Side) (ch : ℕ) (told : List Telling) : Type 0 where
  -- one access has at most one entry accepted, and a number is older than the next
  pub accepted : Ordered ◌<◌ (map (λ x. x.place) (numbered (ledger side ch told)))
  pub given : Every (GivenAt side ch told) (ledger side ch told).departed
  pub in_order : Ordered ◌≤◌ (map (λ d. d.place) (ledger side ch told).departed)

pub record Beyond (m : List ℕ) (accesses : List (ℕ × Access)) : Type 0 where
  -- the stored stamp, settings, held entries and counts are the history's
  pub stored : Agrees (history (told_by m accesses)) (run m accesses)
  pub places : (side : Side) (ch : ℕ) → Placed side ch (told_by m accesses)

abbrev pub BeyondDemand3 : Type 0
BeyondDemand3 = (m : List ℕ) (accesses : List (ℕ × Access)) → Started m accesses → Beyond m accesses
