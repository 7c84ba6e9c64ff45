-- Followed from access to access, an arrival has the reason that the ledger gives, and the reason says what was done.
-- Assumes nothing.
use Prim.Native.Nat.{ℕ, suc, ◌-◌, ◌≤◌, ◌<◌}
use mathlib.Core.Path.{◌≡◌, refl, sym, ap, ◌∙◌, subst}
use mathlib.Core.Bool.{Bool, true, false, cond}
use mathlib.Core.List.{List, [], ◌∷◌, ◌++◌, map, append_assoc, append-nil}
use native.Mathlib.Omega.{arith}
use borrow.Author.Tests.{lt-ltb, eq-eqb, ne_eqb, eqb-true}
use lib.Dec.{eqb, ltb}
use lib.ListN.{length, take, drop, length-drop}
use Rattle.block.specs.Layout.{word}
use Rattle.fifos.specs.Fifos.{Change, Stays, Adds, Overwrites, Takes, Clears, Begins}
use Rattle.arrival.specs.declared.Arrival.{Arrival}
use Rattle.arrival.specs.declared.Arrival.TheVariants.{Ignored, Filtered, Appended, Dropped, Overwriting, AlreadyListed}
use Rattle.receive.specs.Fates.{arrival_change}
use Rattle.receive.specs.Entries.{entry_of}
use Rattle.channel_calls.specs.declared.calls.ReceiveCall.TheVariants.{Arrive}
use Rattle.channel_calls.specs.declared.calls.ChannelCall.TheVariants.{Receive}
use Rattle.channel_calls.specs.Answer.{Answer, Done, Refused, Value, Waiting, Fates, Arrived, Entry, Stepped}
use Rattle.module.specs.declared.calls.Call.TheVariants.{PowerUp, On}
use Rattle.registers.specs.declared.accesses.Access.{Access}
use Rattle.registers.specs.declared.accesses.Access.TheVariants.{Direct}
use Rattle.fates.specs.History.{Telling, Performed, tells, history}
use Rattle.fates.specs.Ledger.{Receiving, Overwritten, Accepted, Departed, Ledger, ledger_after, enters, depart, change_behind, ledger, numbered}
use Rattle.fates.specs.Theorem.{Every}
use Rattle.fates.proofs.Ledger.{fated}
use Rattle.fates.proofs.Places.{PlacesWithin, within, all_numbered}
use Rattle.receive_changes.specs.Changes.{happening}
use Rattle.following.specs.Reasons.{Span, is_begun, span, call_place, held_reason, among_held, among_departed, ledger_reason, entry_reason, reason_of}
use Rattle.following.specs.Course.{begun, one_less, level_after, gone, waiting_after, passed, entered_with, arrived, course_after, next, course_reason, reason_by}
use Rattle.following.specs.Follows.{OfArrival, Entered, ByRead, ByOverwriting, ByClearing, EndedBy, Explains}
use Rattle.receive_changes.specs.declared.Happening.{Happening}
use Rattle.following.specs.declared.course.Reason.{Reason}
use Rattle.following.specs.declared.course.Reason.TheVariants.{NoReason, RefusedBy, ReceiverOff, FilteredOut, DroppedOnFull, ListedAlready, StillHeld, ReadAt, ClearedAt, OverwrittenAt}
use Rattle.following.specs.declared.course.Course.{Course}
use Rattle.following.specs.declared.course.Course.TheVariants as course
use Rattle.following.specs.declared.course.Watch.{Watch}
use Rattle.receive_changes.proofs.Seeing.{mode_by, access_seen}
use Rattle.following.proofs.Behind.{held_after, Behind, InLedger, change_in}
use Rattle.following.proofs.Lookup.{OlderOnes, OlderGone, past_held, past_departed, Found, gone_more, span_before, span_ended, FoundBy, fate_stays}

-- ---- what is known of the course

-- a settled reason is never `held`
abbrev Settled : Reason → Type 0
Settled NoReason = Unit
Settled (RefusedBy r) = Unit
Settled ReceiverOff = Unit
Settled FilteredOut = Unit
Settled DroppedOnFull = Unit
Settled ListedAlready = Unit
Settled StillHeld = ⊥
Settled (ReadAt p) = Unit
Settled (ClearedAt p) = Unit
Settled (OverwrittenAt p) = Unit

module _ (given : Answer) (ch at : ℕ) (ts : List Telling) where
  -- the arrival's entry is held
  pub record Waits (ahead : ℕ) : Type 0 where
    pub here : at ≤ length ts
    pub entered : Entered given
    pub all : span ch at ts ≡ record { told = ts; ended = 0 }
    pub behind : Behind at ahead (ledger Receiving ch ts)

  -- the reason is settled, and says what was done
  pub record Knows (r : Reason) : Type 0 where
    pub here : at ≤ length ts
    pub stays : (later : List Telling) → reason_of ch at given (later ++ ts) ≡ r
    pub settled : Settled r
    pub explains : Explains given ch at ts r

  abbrev pub Follows : Course → Type 0
  Follows (course.Coming n) = (length ts < at) × (n ≡ length (ledger Receiving ch ts).held)
  Follows (course.Waiting n) = Waits n
  Follows (course.Known r) = Knows r

  pub record Tracks (w : Watch) : Type 0 where
    pub mode : w.mode ≡ mode_by ch ts
    pub course : Follows w.course

entered_reason : (given : Answer) (ch at : ℕ) (ts : List Telling) → Entered given → reason_of ch at given ts ≡ entry_reason ch at ts
entered_reason Done ch at ts e = absurd e
entered_reason (Refused r) ch at ts e = absurd e
entered_reason (Value x) ch at ts e = absurd e
entered_reason (Waiting m w) ch at ts e = absurd e
entered_reason (Fates a r c o t s d) ch at ts e = absurd e
entered_reason (Arrived Ignored) ch at ts e = absurd e
entered_reason (Arrived Filtered) ch at ts e = absurd e
entered_reason (Arrived Appended) ch at ts e = refl
entered_reason (Arrived Dropped) ch at ts e = absurd e
entered_reason (Arrived Overwriting) ch at ts e = refl
entered_reason (Arrived AlreadyListed) ch at ts e = absurd e
entered_reason (Entry s w t) ch at ts e = absurd e
entered_reason (Stepped o) ch at ts e = absurd e

-- ---- a settled reason, one access more

module _ (ch at : ℕ) (t : Telling) (ts : List Telling) where
  ended_more : (Ends : Happening → ℕ → Type 0) (p : ℕ) → EndedBy Ends ch at ts p → EndedBy Ends ch at (t ∷ ts) p
  ended_more Ends p e =
      record {
        later = t ∷ e.later;
        telling = e.telling;
        before = e.before;
        is = ap (λ (s : List Telling). t ∷ s) e.is;
        placed = e.placed;
        behind = e.behind;
        ahead = e.ahead;
        held = e.held;
        ends = e.ends;
      }

  explains_more : (given : Answer) (r : Reason) → Settled r → Explains given ch at ts r → Explains given ch at (t ∷ ts) r
  explains_more given NoReason s e = e
  explains_more given (RefusedBy r) s e = e
  explains_more given ReceiverOff s e = e
  explains_more given FilteredOut s e = e
  explains_more given DroppedOnFull s e = e
  explains_more given ListedAlready s e = e
  explains_more given StillHeld s e = absurd s
  explains_more given (ReadAt p) s e = (e.0, ended_more ByRead p e.1)
  explains_more given (ClearedAt p) s e = (e.0, ended_more ByClearing p e.1)
  explains_more given (OverwrittenAt p) s e = (e.0, ended_more ByOverwriting p e.1)

  knows_more : (given : Answer) (r : Reason) → Knows given ch at ts r → Knows given ch at (t ∷ ts) r
  knows_more given r k =
      record {
        here = omega (arith, k.here);
        stays = λ later. ap (reason_of ch at given) (sym (append_assoc later (t ∷ []) ts)) ∙ k.stays (later ++ t ∷ []);
        settled = k.settled;
        explains = explains_more given r k.settled k.explains;
      }

-- ---- a held entry, one access more

module _ (given : Answer) (ch at : ℕ) (t : Telling) (ts : List Telling) (n : ℕ) (w : Waits given ch at ts n) where
  abbrev p : ℕ
  p = call_place (suc (length ts))

  abbrev c₀ : Change
  c₀ = change_behind Receiving ch ts t

  -- the access ends the entry
  ends_here : (Ends : Happening → ℕ → Type 0) → Ends (happening c₀) n → EndedBy Ends ch at (t ∷ ts) p
  ends_here Ends e =
      record {
        later = [];
        telling = t;
        before = ts;
        is = refl;
        placed = omega arith;
        behind = w.here;
        ahead = n;
        held = w.behind.held;
        ends = e;
      }

  -- the accesses that count, unless it is a power-up
  all_more : is_begun c₀ ≡ false → span ch at (t ∷ ts) ≡ record { told = t ∷ ts; ended = 0 }
  all_more z = rw (w.all, z) refl

  -- found with a fate
  found_here : is_begun c₀ ≡ false → (r : Reason) → Settled r → Found at (ledger Receiving ch (t ∷ ts)).departed r → Explains given ch at (t ∷ ts) r
      → Knows given ch at (t ∷ ts) r
  found_here z r s f e =
      let far : at ≤ length (t ∷ ts) = omega (arith, w.here) in
      let found : FoundBy ch at (t ∷ ts) r = subst (λ (x : Span). Found at (ledger Receiving ch x.told).departed r) (sym (all_more z)) f in
      record {
        here = far;
        stays = λ later. entered_reason given ch at (later ++ t ∷ ts) w.entered ∙ fate_stays ch at (t ∷ ts) r far found later;
        settled = s;
        explains = e;
      }

  held_here : is_begun c₀ ≡ false → (k : ℕ) → Behind at k (ledger Receiving ch (t ∷ ts)) → Waits given ch at (t ∷ ts) k
  held_here z k b = record { here = omega (arith, w.here); entered = w.entered; all = all_more z; behind = b }

  -- the oldest is gone
  gone_here : is_begun c₀ ≡ false → (r : Reason) → Settled r → (n ≡ 0 → Explains given ch at (t ∷ ts) r) → InLedger at (ledger Receiving ch (t ∷ ts)) (gone n r)
      → Follows given ch at (t ∷ ts) (gone n r)
  gone_here z r s e i = go (eqb n 0) refl i
    where
      go : (b : Bool) → eqb n 0 ≡ b → InLedger at (ledger Receiving ch (t ∷ ts)) (cond b (course.Known r) (course.Waiting (n - 1)))
          → Follows given ch at (t ∷ ts) (cond b (course.Known r) (course.Waiting (n - 1)))
      go true q i = found_here z r s i (e (eqb-true n 0 q))
      go false q i = held_here z (n - 1) i

  -- a power-up: "A later accepted power-up clears."
  begun_here : c₀ ≡ Begins → Knows given ch at (t ∷ ts) (ClearedAt p)
  begun_here q =
      let b = w.behind in
      let h = b.held in
      let l : Ledger = ledger Receiving ch ts in
      let end : ℕ = suc (length ts) in
      let low : ltb at (suc (length ts)) ≡ true = lt-ltb at (suc (length ts)) (omega (arith, w.here)) in
      let some : eqb (suc (length ts)) 0 ≡ false = ne_eqb (suc (length ts)) 0 (omega arith) in
      let s : span ch at (t ∷ ts) ≡ record { told = ts; ended = suc (length ts) } = rw (w.all, q, low) refl in
      let reason : ledger_reason at l (suc (length ts)) ≡ ClearedAt p =
      ap (λ (x : List Departed). among_departed at x (among_held at l.held (held_reason (suc (length ts))))) (sym (append-nil l.departed))
      ∙ past_departed at l.departed b.departed [] (among_held at l.held (held_reason (suc (length ts))))
      ∙ ap (λ (x : List Accepted). among_held at x (held_reason (suc (length ts)))) h.is
      ∙ past_held at h.older b.older h.entry h.newer (held_reason (suc (length ts))) h.place
      ∙ rw some refl in
      let ended : eqb (span ch at (t ∷ ts)).ended 0 ≡ false = ap (λ (x : Span). eqb x.ended 0) s ∙ some in
      record {
        here = omega (arith, w.here);
        stays =
            λ later.
            entered_reason given ch at (later ++ t ∷ ts) w.entered
            ∙ ap (λ (x : Span). ledger_reason at (ledger Receiving ch x.told) x.ended) (span_ended ch at (t ∷ ts) ended later ∙ s)
            ∙ reason;
        settled = tt;
        explains = (w.entered, ends_here ByClearing (rw q refl));
      }

  pub waits_more : (c : Change) → c₀ ≡ c → Follows given ch at (t ∷ ts) (waiting_after n (happening c) p)
  waits_more c q = go c q (in_ledger c q)
    where
      in_ledger : (c : Change) → c₀ ≡ c → is_begun c ≡ false → InLedger at (ledger Receiving ch (t ∷ ts)) (waiting_after n (happening c) p)
      in_ledger c q z =
          subst (λ (x : Change). InLedger at (ledger_after (suc (length ts)) x (ledger Receiving ch ts)) (waiting_after n (happening c) p)) (sym q)
          (change_in at (suc (length ts)) n (ledger Receiving ch ts) w.behind c z)

      still : (c : Change) → c₀ ≡ c → is_begun c ≡ false → is_begun c₀ ≡ false
      still c q z = ap is_begun q ∙ z

      go : (c : Change) → c₀ ≡ c → (is_begun c ≡ false → InLedger at (ledger Receiving ch (t ∷ ts)) (waiting_after n (happening c) p))
          → Follows given ch at (t ∷ ts) (waiting_after n (happening c) p)
      go Stays q i = held_here (still Stays q refl) n (i refl)
      go (Adds e) q i = held_here (still (Adds e) q refl) n (i refl)
      go (Overwrites e) q i =
          gone_here (still (Overwrites e) q refl) (OverwrittenAt p) tt (λ z. (w.entered, ends_here ByOverwriting (ap happening q, z))) (i refl)
      go (Takes e) q i = gone_here (still (Takes e) q refl) (ReadAt p) tt (λ z. (w.entered, ends_here ByRead (ap happening q, z))) (i refl)
      go Clears q i = found_here (still Clears q refl) (ClearedAt p) tt (i refl) (w.entered, ends_here ByClearing (rw q refl))
      go Begins q i = begun_here q

-- ---- the arrival itself

pub every_split : {A : Type 0} (P : A → Type 0) (s t : List A) → Every P (s ++ t) → Every P s × Every P t
every_split P [] t h = (tt, h)
every_split P (x ∷ s) t h = let r = every_split P s t h.1 in ((h.0, r.0), r.1)

every_drop : {A : Type 0} (P : A → Type 0) (s : List A) → Every P s → Every P (drop 1 s)
every_drop P [] h = tt
every_drop P (x ∷ s) h = h.1

module _ (ch at : ℕ) (ts : List Telling) (here : at ≡ suc (length ts)) where
  abbrev l₀ : Ledger
  l₀ = ledger Receiving ch ts

  -- every entry so far is of an earlier place
  all_older : OlderOnes at (numbered l₀)
  all_older = go (numbered l₀) (subst (PlacesWithin (length ts)) (sym (all_numbered Receiving ch ts)) (within Receiving ch ts))
    where
      go : (xs : List Accepted) → PlacesWithin (length ts) xs → OlderOnes at xs
      go [] h = tt
      go (x ∷ xs) h = (omega (arith, h.0, here), go xs h.1)

  held_older : OlderOnes at l₀.held
  held_older = (every_split (λ x. x.place < at) (map (λ (d : Departed). d.accepted) l₀.departed) l₀.held all_older).1

  gone_older : OlderGone at l₀.departed
  gone_older =
      go l₀.departed (every_split (λ x. x.place < at) (map (λ (d : Departed). d.accepted) l₀.departed) l₀.held all_older).0
    where
      go : (ds : List Departed) → OlderOnes at (map (λ (d : Departed). d.accepted) ds) → OlderGone at ds
      go [] h = tt
      go (d ∷ ds) h = (h.0, go ds h.1)

  -- an entry is accepted behind so many
  entry_behind : (l : Ledger) (e : List ℕ) (n : ℕ) → length l.held ≡ n → OlderOnes at l.held → OlderGone at l.departed
      → Behind at n (enters (suc (length ts)) l e)
  entry_behind l e n many o g =
      record {
        held =
            record {
              older = l.held;
              entry = record { entry = e; place = suc (length ts) };
              newer = [];
              is = refl;
              many = many;
              place = sym here;
            };
        older = o;
        departed = g;
      }

  module _ (word : ℕ) where
    abbrev told : Answer → Telling
    told a = tells (Direct (On ch (Receive (Arrive word)))) a

    abbrev entry : List ℕ
    entry = entry_of (history ts).part.stamp word ((history ts).kept ch).settings

    change_is : (o : Arrival) → change_behind Receiving ch ts (told (Arrived o)) ≡ arrival_change o entry
    change_is o = rw (eq-eqb ch ch refl) refl

    known : (given : Answer) (r : Reason) → Settled r → ((us : List Telling) → reason_of ch at given us ≡ r) → Explains given ch at (told given ∷ ts) r
        → Knows given ch at (told given ∷ ts) r
    known given r s f e = record { here = omega arith; stays = λ later. f (later ++ told given ∷ ts); settled = s; explains = e }

    -- with the change that it makes, so many are ahead of it
    entered_now : (o : Arrival) → Entered (Arrived o) → is_begun (arrival_change o entry) ≡ false → (n : ℕ)
        → Behind at n (ledger_after (suc (length ts)) (arrival_change o entry) l₀) → Waits (Arrived o) ch at (told (Arrived o) ∷ ts) n
    entered_now o e z n b =
        let q = change_is o in
        record {
          here = omega arith;
          entered = e;
          all = rw (span_before ch at ts (omega arith), ap is_begun q ∙ z) refl;
          behind = subst (λ (c : Change). Behind at n (ledger_after (suc (length ts)) c l₀)) (sym q) b;
        }

    arrives : (given : Answer) → OfArrival given → (n : ℕ) → n ≡ length l₀.held → Follows given ch at (told given ∷ ts) (entered_with n given)
    arrives Done a n h = absurd a
    arrives (Refused r) a n h = known (Refused r) (RefusedBy r) tt (λ us. refl) refl
    arrives (Value x) a n h = absurd a
    arrives (Waiting m w) a n h = absurd a
    arrives (Fates x r c o t s d) a n h = absurd a
    arrives (Arrived Ignored) a n h = known (Arrived Ignored) ReceiverOff tt (λ us. refl) refl
    arrives (Arrived Filtered) a n h = known (Arrived Filtered) FilteredOut tt (λ us. refl) refl
    arrives (Arrived Appended) a n h = entered_now Appended tt refl n (entry_behind l₀ entry n (sym h) held_older gone_older)
    arrives (Arrived Dropped) a n h = known (Arrived Dropped) DroppedOnFull tt (λ us. refl) refl
    arrives (Arrived Overwriting) a n h =
        entered_now Overwriting tt refl (one_less n)
        (entry_behind (depart (suc (length ts)) l₀ 1 Overwritten) entry (one_less n)
        (length-drop 1 l₀.held ∙ ap one_less (sym h))
        (every_drop (λ x. x.place < at) l₀.held held_older)
        (gone_more at l₀.departed (map (fated (suc (length ts)) Overwritten) (take 1 l₀.held)) gone_older (first_older l₀.held held_older)))
      where
        first_older : (xs : List Accepted) → OlderOnes at xs → OlderGone at (map (fated (suc (length ts)) Overwritten) (take 1 xs))
        first_older [] h = tt
        first_older (x ∷ xs) h = (h.0, tt)
    arrives (Arrived AlreadyListed) a n h = known (Arrived AlreadyListed) ListedAlready tt (λ us. refl) refl
    arrives (Entry s w t) a n h = absurd a
    arrives (Stepped o) a n h = absurd a

    arrived_course : (given : Answer) → OfArrival given → (k : Course) → Follows given ch at ts k → Follows given ch at (told given ∷ ts) (arrived k given)
    arrived_course given a (course.Coming n) f = arrives given a n f.1
    arrived_course given a (course.Waiting n) f = absurd (omega (arith, f.here, here))
    arrived_course given a (course.Known r) f = absurd (omega (arith, f.here, here))

-- ---- one access more

passed_course : (given : Answer) (ch at : ℕ) (ts : List Telling) → (at ≡ suc (length ts) → ⊥) → (t : Telling) (k : Course) → Follows given ch at ts k
    → Follows given ch at (t ∷ ts) (passed k (happening (change_behind Receiving ch ts t)) (call_place (suc (length ts))))
passed_course given ch at ts other t (course.Coming n) f =
    (omega (arith, f.0, other), ap (λ (k : ℕ). level_after k (happening (change_behind Receiving ch ts t))) f.1 ∙ held_after (suc (length ts)) (change_behind Receiving ch ts t) (ledger Receiving ch ts))
passed_course given ch at ts other t (course.Waiting n) f = waits_more given ch at t ts n f (change_behind Receiving ch ts t) refl
passed_course given ch at ts other t (course.Known r) f = knows_more ch at t ts given r f

module _ (given : Answer) (ch place : ℕ) (ts : List Telling) (w : Watch) (k : Tracks given ch (suc place) ts w) where
  abbrev here : ℕ
  here = call_place (suc (length ts))

  -- what is seen of an access
  tracked : (x : Access) (a : Answer) → Follows given ch (suc place) (tells x a ∷ ts) (course_after w.course (happening (change_behind Receiving ch ts (tells x a))) place here a)
      → Tracks given ch (suc place) (tells x a ∷ ts) (next ch place here x a w)
  tracked x a f =
      let s = access_seen ch ts x a in
      rw k.mode (record { mode = s.mode; course = rw s.happens f })

  pub passes : (x : Access) (a : Answer) → (length ts ≡ place → ⊥) → Tracks given ch (suc place) (tells x a ∷ ts) (next ch place here x a w)
  passes x a other =
      let no : eqb here place ≡ false = ne_eqb here place (λ e. other (omega (arith, e))) in
      tracked x a (rw no (passed_course given ch (suc place) ts (λ e. other (omega (arith, e))) (tells x a) w.course k.course))

  pub arrives_at : (word : ℕ) → OfArrival given → length ts ≡ place
      → Tracks given ch (suc place) (tells (Direct (On ch (Receive (Arrive word)))) given ∷ ts) (next ch place here (Direct (On ch (Receive (Arrive word)))) given w)
  arrives_at word a e =
      let yes : eqb here place ≡ true = eq-eqb here place (omega arith) in
      tracked (Direct (On ch (Receive (Arrive word)))) given (rw yes (arrived_course ch (suc place) ts (omega arith) word given a w.course k.course))

-- behind the power-up
pub starts : (given : Answer) (ch place n : ℕ) → 1 ≤ place → Tracks given ch (suc place) (Performed (PowerUp n) Done ∷ []) begun
starts given ch place n h = record { mode = refl; course = (omega arith, refl) }

-- ---- at the end

-- an entry that is held has that reason
pub held_reason_lem : (given : Answer) (ch at : ℕ) (ts : List Telling) (n : ℕ) → Waits given ch at ts n → reason_of ch at given ts ≡ StillHeld
held_reason_lem given ch at ts n w =
    let b = w.behind in
    let l : Ledger = ledger Receiving ch ts in
    entered_reason given ch at ts w.entered
    ∙ ap (λ (x : Span). ledger_reason at (ledger Receiving ch x.told) x.ended) w.all
    ∙ ap (λ (x : List Departed). among_departed at x (among_held at l.held StillHeld)) (sym (append-nil l.departed))
    ∙ past_departed at l.departed b.departed [] (among_held at l.held StillHeld)
    ∙ ap (λ (x : List Accepted). among_held at x StillHeld) b.held.is
    ∙ past_held at b.held.older b.older b.held.entry b.held.newer StillHeld b.held.place

-- the reason by the course is the ledger's, and says what was done
pub record Given (given : Answer) (ch at : ℕ) (ts : List Telling) (r : Reason) : Type 0 where
  pub is : r ≡ reason_of ch at given ts
  pub explains : Explains given ch at ts r

pub ends : (given : Answer) (ch at : ℕ) (ts : List Telling) (w : Watch) → at ≤ length ts → Tracks given ch at ts w → Given given ch at ts (reason_by w)
ends given ch at ts w h k = go w.course k.course
  where
    go : (c : Course) → Follows given ch at ts c → Given given ch at ts (course_reason c)
    go (course.Coming n) f = absurd (omega (arith, f.0, h))
    go (course.Waiting n) f = record { is = sym (held_reason_lem given ch at ts n f); explains = (f.entered, record { ahead = n; held = f.behind.held }) }
    go (course.Known r) f = record { is = sym (f.stays []); explains = f.explains }
