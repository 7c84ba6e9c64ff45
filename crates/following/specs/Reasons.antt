-- "say one reason" (paper 02, (viii)): the reason of an arrival, by its answer and by the ledger of its channel's receive FIFO. Lists have the
-- latest access first, and their first access is the power-up, which is no call of the list: a call's place is its ledger place less one.
use Rattle.std.specs.Prelude.{ℕ, suc, ◌-◌, List, [], ◌∷◌, Bool, true, false, cond, ◌&&◌, eqb, ltb, length}
use Rattle.arrival.specs.declared.Arrival.{Arrival}
use Rattle.arrival.specs.declared.Arrival.TheVariants.{Ignored, Filtered, Appended, Dropped, Overwriting, AlreadyListed}
use Rattle.channel_calls.specs.Answer.{Answer, Done, Refused, Value, Waiting, Fates, Arrived, Entry, Stepped}
use Rattle.fifos.specs.Fifos.{Change, Stays, Adds, Overwrites, Takes, Clears, Begins}
use Rattle.fates.specs.History.{Telling}
use Rattle.fates.specs.Ledger.{Receiving, Fate, TakenOut, Cleared, Overwritten, Accepted, Departed, Ledger, change_behind, ledger}
use Rattle.following.specs.declared.course.Reason.{Reason}
use Rattle.following.specs.declared.course.Reason.TheVariants.{NoReason, RefusedBy, ReceiverOff, FilteredOut, DroppedOnFull, ListedAlready, StillHeld, ReadAt, ClearedAt, OverwrittenAt}

-- ---- the ledger that has the entry

-- the accesses that count for an entry, and the place of the power-up that ended them, 0 where none did
pub record Span : Type 0 where
  pub told : List Telling
  pub ended : ℕ

-- an accepted power-up
abbrev pub is_begun : Change → Bool
is_begun Stays = false
is_begun (Adds e) = false
is_begun (Overwrites e) = false
is_begun (Takes e) = false
is_begun Clears = false
is_begun Begins = true

-- one access more: none counts behind a power-up, which a ledger begins anew with
abbrev pub span_after : ℕ → Change → Telling → List Telling → Span → Span
span_after at c t before s =
    cond (eqb s.ended 0)
    (cond (is_begun c && ltb at (suc (length before))) (record { told = before; ended = suc (length before) }) (record { told = t ∷ before; ended = 0 }))
    s

module _ (ch at : ℕ) where
  -- the accesses up to the first accepted power-up behind place at
  abbrev pub span : List Telling → Span
  span [] = record { told = []; ended = 0 }
  span (t ∷ before) = span_after at (change_behind Receiving ch before t) t before (span before)

-- ---- what became of the entry that the access at a place had accepted

-- the call's place in the list: the power-up, the ledger's place 1, is no call of it
abbrev pub call_place : ℕ → ℕ
call_place at = at - 1

-- "read, cleared or overwritten, and for the last three the place of the call that did it"
abbrev pub fate_reason : Fate → ℕ → Reason
fate_reason (TakenOut e) at = ReadAt (call_place at)
fate_reason Cleared at = ClearedAt (call_place at)
fate_reason Overwritten at = OverwrittenAt (call_place at)

-- "held"; "A later accepted power-up clears."
abbrev pub held_reason : ℕ → Reason
held_reason ended = cond (eqb ended 0) StillHeld (ClearedAt (call_place ended))

-- of those held, the entry of a place has this reason
abbrev pub among_held : ℕ → List Accepted → Reason → Reason
among_held at [] r = NoReason
among_held at (x ∷ xs) r = cond (eqb x.place at) r (among_held at xs r)

-- of those with a fate, or else of those held
abbrev pub among_departed : ℕ → List Departed → Reason → Reason
among_departed at [] r = r
among_departed at (d ∷ ds) r = cond (eqb d.accepted.place at) (fate_reason d.fate d.place) (among_departed at ds r)

abbrev pub ledger_reason : ℕ → Ledger → ℕ → Reason
ledger_reason at l ended = among_departed at l.departed (among_held at l.held (held_reason ended))

module _ (ch at : ℕ) where
  abbrev pub entry_reason : List Telling → Reason
  entry_reason ts = ledger_reason at (ledger Receiving ch (span ch at ts).told) (span ch at ts).ended

  -- ---- the reason of the arrival at a place, by its answer

  -- "receiver off, filtered, dropped on full, already listed"; an entry that was accepted: by the ledger
  abbrev pub outcome_reason : Arrival → List Telling → Reason
  outcome_reason Ignored ts = ReceiverOff
  outcome_reason Filtered ts = FilteredOut
  outcome_reason Appended ts = entry_reason ts
  outcome_reason Dropped ts = DroppedOnFull
  outcome_reason Overwriting ts = entry_reason ts
  outcome_reason AlreadyListed ts = ListedAlready

  -- "refused and by which number"; an arrival has no other answer
  abbrev pub reason_of : Answer → List Telling → Reason
  reason_of Done ts = NoReason
  reason_of (Refused r) ts = RefusedBy r
  reason_of (Value x) ts = NoReason
  reason_of (Waiting m w) ts = NoReason
  reason_of (Fates a r c o t s d) ts = NoReason
  reason_of (Arrived o) ts = outcome_reason o ts
  reason_of (Entry s w t) ts = NoReason
  reason_of (Stepped o) ts = NoReason
