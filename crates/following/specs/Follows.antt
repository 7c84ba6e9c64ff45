-- What a reason says of the list of accesses behind it: statements over what they tell, the latest first.
use Rattle.std.specs.Prelude.{ℕ, ◌≤◌, ◌≡◌, Bool, true, false, List, ◌∷◌, ◌++◌, length}
use Rattle.arrival.specs.declared.Arrival.{Arrival}
use Rattle.arrival.specs.declared.Arrival.TheVariants.{Ignored, Filtered, Appended, Dropped, Overwriting, AlreadyListed}
use Rattle.channel_calls.specs.Answer.{Answer, Done, Refused, Value, Waiting, Fates, Arrived, Entry, Stepped}
use Rattle.fates.specs.History.{Telling}
use Rattle.fates.specs.Ledger.{Receiving, Accepted, Ledger, change_behind, ledger}
use Rattle.receive_changes.specs.Changes.{happening}
use Rattle.receive_changes.specs.declared.Happening.{Happening}
use Rattle.receive_changes.specs.declared.Happening.TheVariants.{Nothing, Enters, EntersOverOldest, OldestRead, AllCleared, AllBegun}
use Rattle.following.specs.declared.course.Reason.{Reason}
use Rattle.following.specs.declared.course.Reason.TheVariants.{NoReason, RefusedBy, ReceiverOff, FilteredOut, DroppedOnFull, ListedAlready, StillHeld, ReadAt, ClearedAt, OverwrittenAt}

-- an arrival's answer: a refusal or an outcome
abbrev pub OfArrival : Answer → Type 0
OfArrival Done = ⊥
OfArrival (Refused r) = Unit
OfArrival (Value x) = ⊥
OfArrival (Waiting m w) = ⊥
OfArrival (Fates a r c o t s d) = ⊥
OfArrival (Arrived o) = Unit
OfArrival (Entry s w t) = ⊥
OfArrival (Stepped o) = ⊥

-- one that had an entry accepted
abbrev pub Accepts : Arrival → Type 0
Accepts Ignored = ⊥
Accepts Filtered = ⊥
Accepts Appended = Unit
Accepts Dropped = ⊥
Accepts Overwriting = Unit
Accepts AlreadyListed = ⊥

abbrev pub Entered : Answer → Type 0
Entered Done = ⊥
Entered (Refused r) = ⊥
Entered (Value x) = ⊥
Entered (Waiting m w) = ⊥
Entered (Fates a r c o t s d) = ⊥
Entered (Arrived o) = Accepts o
Entered (Entry s w t) = ⊥
Entered (Stepped o) = ⊥

-- the entry that the access at place at had accepted is held, with so many older ones ahead of it
pub record HeldBehind (at ahead : ℕ) (l : Ledger) : Type 0 where
  pub older : List Accepted
  pub entry : Accepted
  pub newer : List Accepted
  pub is : l.held ≡ older ++ entry ∷ newer
  pub many : length older ≡ ahead
  pub place : entry.place ≡ at

-- what ends an entry with so many ahead of it: it is the oldest and is read or overwritten, or all are cleared
abbrev pub ByRead : Happening → ℕ → Type 0
ByRead h ahead = (h ≡ OldestRead) × (ahead ≡ 0)

abbrev pub ByOverwriting : Happening → ℕ → Type 0
ByOverwriting h ahead = (h ≡ EntersOverOldest) × (ahead ≡ 0)

abbrev pub clears_all : Happening → Bool
clears_all Nothing = false
clears_all Enters = false
clears_all EntersOverOldest = false
clears_all OldestRead = false
clears_all AllCleared = true
clears_all AllBegun = true

abbrev pub ByClearing : Happening → ℕ → Type 0
ByClearing h ahead = clears_all h ≡ true

-- the access of a call's place, a later one than the arrival's, found the entry held and ended it so
pub record EndedBy (Ends : Happening → ℕ → Type 0) (ch at : ℕ) (told : List Telling) (place : ℕ) : Type 0 where
  pub later : List Telling
  pub telling : Telling
  pub before : List Telling
  pub is : told ≡ later ++ telling ∷ before
  -- the power-up is the first access of the list and no call of it
  pub placed : place ≡ length before
  pub behind : at ≤ length before
  pub ahead : ℕ
  pub held : HeldBehind at ahead (ledger Receiving ch before)
  pub ends : Ends (happening (change_behind Receiving ch before telling)) ahead

-- the entry is held at the end of the list
pub record StaysHeld (ch at : ℕ) (told : List Telling) : Type 0 where
  pub ahead : ℕ
  pub held : HeldBehind at ahead (ledger Receiving ch told)

-- what each reason says of the arrival at ledger place at, of its answer and of the list
module _ (given : Answer) (ch at : ℕ) (told : List Telling) where
  abbrev pub Explains : Reason → Type 0
  Explains NoReason = ⊥
  Explains (RefusedBy r) = given ≡ Refused r
  Explains ReceiverOff = given ≡ Arrived Ignored
  Explains FilteredOut = given ≡ Arrived Filtered
  Explains DroppedOnFull = given ≡ Arrived Dropped
  Explains ListedAlready = given ≡ Arrived AlreadyListed
  Explains StillHeld = Entered given × StaysHeld ch at told
  Explains (ReadAt p) = Entered given × EndedBy ByRead ch at told p
  Explains (ClearedAt p) = Entered given × EndedBy ByClearing ch at told p
  Explains (OverwrittenAt p) = Entered given × EndedBy ByOverwriting ch at told p
