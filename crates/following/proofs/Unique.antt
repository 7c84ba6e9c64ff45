-- A list of accesses has one reason for an arrival: whatever a reason says was done leaves no other.
-- Assumes nothing.
use Prim.Native.Nat.{ℕ, suc, ◌≤◌, ◌<◌}
use mathlib.Core.Path.{◌≡◌, refl, sym, ap, ◌∙◌, subst}
use mathlib.Core.Bool.{Bool, true, false, cond, true≢false, ◌&&◌}
use mathlib.Core.List.{List, [], ◌∷◌, ◌++◌, map, append_assoc}
use native.Mathlib.Omega.{arith}
use borrow.Author.Tests.{ltb-true, eqb-true}
use lib.Dec.{eqb, ltb}
use lib.ListN.{length}
use Rattle.fifos.specs.Fifos.{Change, Stays, Adds, Overwrites, Takes, Clears, Begins}
use Rattle.channel_calls.specs.Answer.{Answer}
use Rattle.fates.specs.History.{Telling}
use Rattle.fates.specs.Ledger.{Receiving, Accepted, Departed, Ledger, ledger_after, accepted_after, change_behind, ledger, numbered}
use Rattle.fates.specs.Theorem.{Every}
use Rattle.fates.specs.Beyond.{Ordered}
use Rattle.fates.proofs.Ledger.{every_append, numbered-after}
use Rattle.fates.proofs.Places.{PlacesWithin, within, all_numbered, placed}
use Rattle.receive_changes.specs.Changes.{happening}
use Rattle.following.specs.Reasons.{is_begun, span, call_place, reason_of}
use Rattle.following.specs.Course.{waiting_after}
use Rattle.following.specs.Follows.{Entered, HeldBehind, ByRead, ByOverwriting, ByClearing, EndedBy, Explains}
use Rattle.receive_changes.specs.declared.Happening.{Happening}
use Rattle.receive_changes.specs.declared.Happening.TheVariants.{Nothing, Enters, EntersOverOldest, OldestRead, AllCleared, AllBegun}
use Rattle.following.specs.declared.course.Reason.{Reason}
use Rattle.following.specs.declared.course.Reason.TheVariants.{NoReason, RefusedBy, ReceiverOff, FilteredOut, DroppedOnFull, ListedAlready, StillHeld, ReadAt, ClearedAt, OverwrittenAt}
use Rattle.following.specs.declared.course.Course.TheVariants as course
use Rattle.following.proofs.Behind.{Behind}
use Rattle.following.proofs.Lookup.{both, OlderOnes, OlderGone, span_told}
use Rattle.following.proofs.Tracking.{Waits, Knows, Follows, waits_more, every_split, held_reason_lem}

-- ---- an entry that is held is behind older ones alone

every_at : (P : ℕ → Type 0) (xs : List Accepted) (x : Accepted) (ys : List Accepted) → Every P (map (λ (y : Accepted). y.place) (xs ++ x ∷ ys)) → P x.place
every_at P [] x ys h = h.0
every_at P (y ∷ xs) x ys h = every_at P xs x ys h.1

ordered_before : (xs : List Accepted) (x : Accepted) (ys : List Accepted) → Ordered ◌<◌ (map (λ (y : Accepted). y.place) (xs ++ x ∷ ys)) → OlderOnes x.place xs
ordered_before [] x ys h = tt
ordered_before (y ∷ xs) x ys h = (every_at (◌<◌ y.place) xs x ys h.0, ordered_before xs x ys h.1)

module _ (ch at : ℕ) (ts : List Telling) (n : ℕ) (h : HeldBehind at n (ledger Receiving ch ts)) where
  abbrev l : Ledger
  l = ledger Receiving ch ts

  abbrev gone : List Accepted
  gone = map (λ (d : Departed). d.accepted) (ledger Receiving ch ts).departed

  -- the entries in number order, with this one among them
  among : numbered l ≡ (gone ++ h.older) ++ h.entry ∷ h.newer
  among = ap (λ (s : List Accepted). gone ++ s) h.is ∙ sym (append_assoc gone h.older (h.entry ∷ h.newer))

  older : OlderOnes at (gone ++ h.older)
  older =
      subst (λ (p : ℕ). OlderOnes p (gone ++ h.older)) h.place
      (ordered_before (gone ++ h.older) h.entry h.newer
      (subst (λ (s : List Accepted). Ordered ◌<◌ (map (λ (x : Accepted). x.place) s)) among (placed Receiving ch ts).accepted))

  behind : Behind at n l
  behind =
      let s = every_split (λ x. x.place < at) gone h.older older in
      record { held = h; older = s.1; departed = go l.departed s.0 }
    where
      go : (ds : List Departed) → OlderOnes at (map (λ (d : Departed). d.accepted) ds) → OlderGone at ds
      go [] p = tt
      go (d ∷ ds) p = (p.0, go ds p.1)

  -- it was accepted by an access of the list
  here : at ≤ length ts
  here =
      let w : PlacesWithin (length ts) (numbered l) = subst (PlacesWithin (length ts)) (sym (all_numbered Receiving ch ts)) (within Receiving ch ts) in
      let e = (every_split (λ x. x.place ≤ length ts) (gone ++ h.older) (h.entry ∷ h.newer) (subst (PlacesWithin (length ts)) among w)).1.0 in
      subst (λ (p : ℕ). p ≤ length ts) h.place e

-- ---- behind a power-up every entry is newer

module _ (ch at : ℕ) where
  record Later (ts : List Telling) : Type 0 where
    late : at ≤ length ts
    newer : Every (λ x. at < x.place) (numbered (ledger Receiving ch ts))

  later_after : (p : ℕ) → at < p → (c : Change) (xs : List Accepted) → Every (λ x. at < x.place) xs → Every (λ x. at < x.place) (accepted_after p c xs)
  later_after p h Stays xs e = e
  later_after p h (Adds x) xs e = every_append (λ x. at < x.place) xs _ e (h, tt)
  later_after p h (Overwrites x) xs e = every_append (λ x. at < x.place) xs _ e (h, tt)
  later_after p h (Takes x) xs e = e
  later_after p h Clears xs e = e
  later_after p h Begins xs e = tt

  begun_after : (p : ℕ) (c : Change) (l : Ledger) → is_begun c ≡ true → Every (λ x. at < x.place) (numbered (ledger_after p c l))
  begun_after p Stays l e = absurd (true≢false (sym e))
  begun_after p (Adds x) l e = absurd (true≢false (sym e))
  begun_after p (Overwrites x) l e = absurd (true≢false (sym e))
  begun_after p (Takes x) l e = absurd (true≢false (sym e))
  begun_after p Clears l e = absurd (true≢false (sym e))
  begun_after p Begins l e = tt

  later : (ts : List Telling) → eqb (span ch at ts).ended 0 ≡ false → Later ts
  later [] h = absurd (true≢false h)
  later (t ∷ before) h =
      go (eqb (span ch at before).ended 0) refl (is_begun (change_behind Receiving ch before t) && ltb at (suc (length before))) refl h (λ e. later before e)
    where
      p : ℕ
      p = suc (length before)

      go : (b : Bool) → eqb (span ch at before).ended 0 ≡ b → (d : Bool) → (is_begun (change_behind Receiving ch before t) && ltb at (suc (length before))) ≡ d
          → eqb (cond b (cond d (record { told = before; ended = suc (length before) }) (record { told = t ∷ before; ended = 0 })) (span ch at before)).ended 0 ≡ false
          → (eqb (span ch at before).ended 0 ≡ false → Later before) → Later (t ∷ before)
      go true e true q h r =
          let a = both (is_begun (change_behind Receiving ch before t)) (ltb at (suc (length before))) q in
          let low : at < suc (length before) = ltb-true at (suc (length before)) a.1 in
          record { late = omega arith; newer = begun_after (suc (length before)) (change_behind Receiving ch before t) (ledger Receiving ch before) a.0 }
      go true e false q h r = absurd (true≢false h)
      go false e d q h r =
          let k = r e in
          let low : at < suc (length before) = omega (arith, k.late) in
          record {
            late = omega (arith, k.late);
            newer =
                subst (Every (λ x. at < x.place)) (sym (numbered-after (suc (length before)) (change_behind Receiving ch before t) (ledger Receiving ch before)))
                (later_after (suc (length before)) low (change_behind Receiving ch before t) (numbered (ledger Receiving ch before)) k.newer);
          }

  -- an entry that is held has no power-up behind it
  held_all : (ts : List Telling) (n : ℕ) → HeldBehind at n (ledger Receiving ch ts) → span ch at ts ≡ record { told = ts; ended = 0 }
  held_all ts n h = go (eqb (span ch at ts).ended 0) refl
    where
      go : (b : Bool) → eqb (span ch at ts).ended 0 ≡ b → span ch at ts ≡ record { told = ts; ended = 0 }
      go true e = let t = span_told ch at ts e in let z = eqb-true (span ch at ts).ended 0 e in λ i. record { told = t i; ended = z i }
      go false e =
          let k = (later ts e).newer in
          let gone : List Accepted = map (λ (d : Departed). d.accepted) (ledger Receiving ch ts).departed in
          let low =
          (every_split (λ x. at < x.place) (gone ++ h.older) (h.entry ∷ h.newer) (subst (Every (λ x. at < x.place)) (among ch at ts n h) k)).1.0 in
          absurd (omega (arith, low, h.place))

waits : (given : Answer) (ch at : ℕ) (ts : List Telling) (n : ℕ) → Entered given → HeldBehind at n (ledger Receiving ch ts) → Waits given ch at ts n
waits given ch at ts n e h = record { here = here ch at ts n h; entered = e; all = held_all ch at ts n h; behind = behind ch at ts n h }

-- ---- one reason

-- an access that ends the entry, for a reason
module _ (given : Answer) (ch at : ℕ) (told : List Telling) (entered : Entered given) where
  ended : (Ends : Happening → ℕ → Type 0) (p : ℕ) (reason : ℕ → Reason)
      → ((h : Happening) (n q : ℕ) → Ends h n → waiting_after n h q ≡ course.Known (reason q)) → EndedBy Ends ch at told p → reason p ≡ reason_of ch at given told
  ended Ends p reason is e =
      let w = waits given ch at e.before e.ahead entered e.held in
      let c = change_behind Receiving ch e.before e.telling in
      let f = waits_more given ch at e.telling e.before e.ahead w (change_behind Receiving ch e.before e.telling) refl in
      let q : call_place (suc (length e.before)) ≡ p = omega (arith, e.placed) in
      let k : Knows given ch at (e.telling ∷ e.before) (reason (call_place (suc (length e.before)))) =
      subst (Follows given ch at (e.telling ∷ e.before))
      (is (happening (change_behind Receiving ch e.before e.telling)) e.ahead (call_place (suc (length e.before))) e.ends) f in
      sym (ap (reason_of ch at given) e.is ∙ k.stays e.later ∙ ap reason q)

read_known : (h : Happening) (n q : ℕ) → ByRead h n → waiting_after n h q ≡ course.Known (ReadAt q)
read_known h n q e = rw (e.0, e.1) refl

overwriting_known : (h : Happening) (n q : ℕ) → ByOverwriting h n → waiting_after n h q ≡ course.Known (OverwrittenAt q)
overwriting_known h n q e = rw (e.0, e.1) refl

clearing_known : (h : Happening) (n q : ℕ) → ByClearing h n → waiting_after n h q ≡ course.Known (ClearedAt q)
clearing_known Nothing n q e = absurd (true≢false (sym e))
clearing_known Enters n q e = absurd (true≢false (sym e))
clearing_known EntersOverOldest n q e = absurd (true≢false (sym e))
clearing_known OldestRead n q e = absurd (true≢false (sym e))
clearing_known AllCleared n q e = refl
clearing_known AllBegun n q e = refl

pub unique : (given : Answer) (ch at : ℕ) (told : List Telling) (r : Reason) → Explains given ch at told r → r ≡ reason_of ch at given told
unique given ch at told NoReason e = absurd e
unique given ch at told (RefusedBy r) e = rw e refl
unique given ch at told ReceiverOff e = rw e refl
unique given ch at told FilteredOut e = rw e refl
unique given ch at told DroppedOnFull e = rw e refl
unique given ch at told ListedAlready e = rw e refl
unique given ch at told StillHeld e = sym (held_reason_lem given ch at told e.1.ahead (waits given ch at told e.1.ahead e.0 e.1.held))
unique given ch at told (ReadAt p) e = ended given ch at told e.0 ByRead p ReadAt read_known e.1
unique given ch at told (ClearedAt p) e = ended given ch at told e.0 ByClearing p ClearedAt clearing_known e.1
unique given ch at told (OverwrittenAt p) e = ended given ch at told e.0 ByOverwriting p OverwrittenAt overwriting_known e.1
