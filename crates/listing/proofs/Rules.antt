-- The rules of the index list, from the marks that accesses and answers tell.
-- Assumes nothing.
use Prim.Native.Nat.{ℕ, ◌+◌, ◌≤◌, ◌<◌, zero-le}
use mathlib.Core.Path.{◌≡◌, refl, sym, ap, ap₂, ◌∙◌, subst}
use mathlib.Core.Bool.{Bool, true, false, ◌||◌, cond, true≢false}
use mathlib.Core.List.{List, [], ◌∷◌, ◌++◌}
use native.Mathlib.Omega.{arith}
use borrow.Author.Tests.{eqb-true, eqb-false, eq-eqb}
use lib.Dec.{eqb}
use lib.ListN.{get_or, set, drop}
use lib.Seq.{get_or-set_other, set-get_or}
use Rattle.word.specs.Word.{index}
use Rattle.block.specs.Layout.{word, receive_mode, indexes}
use Rattle.fifos.specs.Fifos.{Change, Stays, Adds, Overwrites, Takes, Clears, Begins, changed}
use Rattle.receive.specs.Entries.{entry_of}
use Rattle.receive.specs.Fates.{arrival_change}
use Rattle.arrival.specs.declared.Arrival.{Arrival}
use Rattle.arrival.specs.declared.Arrival.TheVariants.{Ignored, Filtered, Appended, Dropped, Overwriting, AlreadyListed}
use Rattle.channel_calls.specs.Answers.{setting_number}
use Rattle.channel_calls.specs.declared.calls.SettingCall.TheVariants.{WriteSetting, ReadSetting}
use Rattle.channel_calls.specs.declared.calls.TestCall.TheVariants.{Sample, ResetTest, InitiateTest}
use Rattle.channel_calls.specs.declared.calls.TransmitCall.TheVariants.{WriteFifo, WriteAsync, Trigger, Pause, Stop, Step}
use Rattle.channel_calls.specs.declared.calls.ReceiveCall.TheVariants.{Arrive, ReadFifo, ReadMailbox}
use Rattle.channel_calls.specs.declared.calls.ChannelCall.{ChannelCall}
use Rattle.channel_calls.specs.declared.calls.ChannelCall.TheVariants.{Settings, Memories, Status, Tests, Reads, Receive, Transmit}
use Rattle.channel_calls.specs.Answer.{Answer, Done, Refused, Value, Waiting, Fates, Arrived, Entry, Stepped}
use Rattle.channel_laws.specs.Effects.{setting_change, arrive_change, read_change, nothing, effect}
use Rattle.channel_laws.specs.Listing.{ListedBy, names, names_any, times_listed, in_fifo_mode, mark_by, reads_mailbox}
use Rattle.channel_laws.proofs.Listing.{names_entry}
use Rattle.module.specs.declared.calls.Call.{Call}
use Rattle.module.specs.declared.calls.Call.TheVariants.{PowerUp, Reset, Wide, On}
use Rattle.fates.specs.History.{History, Telling, Silent, Performed, accepted_effect, effect_on, history}
use Rattle.listing.specs.Marks.{reads_by, is_read, mark_after, marked}
use Rattle.listing.specs.Theorem.{released_by, is_empty, reads_since, Unreleased, Lists, Marks, Arrives}
use Rattle.listing.proofs.Marks.{ArrivalTold, Told}

-- ---- a mark that is set and not released stays

stays_by : (fifo : Bool) (c : Change) (held : List (List ℕ)) (i : ℕ) → released_by fifo c held i ≡ false → mark_by fifo c held i true ≡ true
stays_by fifo Stays held i r = refl
stays_by fifo (Adds e) held i r = go fifo (names i e)
  where
    go : (f n : Bool) → cond f true (cond n true true) ≡ true
    go true n = refl
    go false true = refl
    go false false = refl
stays_by fifo (Overwrites e) held i r = go fifo (names i e) (names i (get_or held 0 [])) r
  where
    go : (f n o : Bool) → cond f false o ≡ false → cond f true (cond n true (cond o false true)) ≡ true
    go true n o z = refl
    go false true o z = refl
    go false false true z = sym z
    go false false false z = refl
stays_by fifo (Takes e) held i r = refl
stays_by fifo Clears held i r = go fifo (names_any i held) r
  where
    go : (f o : Bool) → cond f false o ≡ false → cond f true (cond o false true) ≡ true
    go true o z = refl
    go false true z = sym z
    go false false z = refl
stays_by fifo Begins held i r = sym r

neither : (p q : Bool) → (p || q) ≡ false → (p ≡ false) × (q ≡ false)
neither true q z = absurd (true≢false z)
neither false q z = (refl, z)

module _ (ch i : ℕ) where
  pub kept : (later before : List Telling) → marked ch i before ≡ true → Unreleased ch i later before → marked ch i (later ++ before) ≡ true
  kept [] before t u = t
  kept (e ∷ later) before t u =
      let h : History = history (later ++ before) in
      let c : Change = (effect_on ch e h).receive in
      let fifo : Bool = in_fifo_mode (h.kept ch).settings in
      let n = neither (is_read ch i e) (released_by fifo c (h.kept ch).receive.held i) u.0 in
      rw (n.0, kept later before t u.1) (stays_by fifo c (h.kept ch).receive.held i n.1)

  -- ---- an arrival that marks

  pub told_at : (later before : List Telling) (e : Telling) → Told (later ++ (e ∷ before)) → ArrivalTold e before
  told_at [] before e t = t.0
  told_at (x ∷ later) before e t = told_at later before e t.1

  pub told_behind : (later before : List Telling) (e : Telling) → Told (later ++ (e ∷ before)) → Told before
  told_behind [] before e t = t.1
  told_behind (x ∷ later) before e t = told_behind later before e t.1

  -- the change of the list that an arrival with this outcome makes
  arrive_mark : (w : ℕ) (o : Arrival) (h : History) (t : Bool)
      → mark_after ch i (Performed (On ch (Receive (Arrive w))) (Arrived o)) h t
      ≡ mark_by (in_fifo_mode (h.kept ch).settings) (arrival_change o (entry_of h.part.stamp w (h.kept ch).settings)) (h.kept ch).receive.held i t
  arrive_mark w o h t = rw (eq-eqb ch ch refl) refl

-- an arrival of index i in mailbox mode sets its mark, or finds it set
module _ (ch i : ℕ) (below : i < indexes) where
  outcome_marks : (w : ℕ) (o : Arrival) (h : History) (t : Bool) → index w ≡ i → in_fifo_mode (h.kept ch).settings ≡ false → ListedBy t o → Marks o
      → mark_by (in_fifo_mode (h.kept ch).settings) (arrival_change o (entry_of h.part.stamp w (h.kept ch).settings)) (h.kept ch).receive.held i t ≡ true
  outcome_marks w Ignored h t x m l k = absurd k
  outcome_marks w Filtered h t x m l k = absurd k
  outcome_marks w Appended h t x m l k =
      rw (m, names_entry below h.part.stamp w (h.kept ch).settings m, eq-eqb (index w) i x) refl
  outcome_marks w Dropped h t x m l k = absurd k
  outcome_marks w Overwriting h t x m l k =
      rw (m, names_entry below h.part.stamp w (h.kept ch).settings m, eq-eqb (index w) i x) refl
  outcome_marks w AlreadyListed h t x m l k = l

  pub arrival_marks : (e : Telling) (before : List Telling) → ArrivalTold e before → Arrives Marks ch i e before → marked ch i (e ∷ before) ≡ true
  arrival_marks e before told r =
      let h : History = history before in
      let t : Bool = marked ch i before in
      let by : ListedBy t r.outcome = subst (λ (j : ℕ). ListedBy (marked ch j before) r.outcome) r.of_index (told ch r.word r.outcome r.tells r.mode) in
      ap (λ (x : Telling). mark_after ch i x h t) r.tells ∙ arrive_mark ch i r.word r.outcome h t ∙ outcome_marks r.word r.outcome h t r.of_index r.mode by r.is

  lists_marks : (o : Arrival) → Lists o → Marks o
  lists_marks Ignored k = k
  lists_marks Filtered k = k
  lists_marks Appended k = tt
  lists_marks Dropped k = k
  lists_marks Overwriting k = tt
  lists_marks AlreadyListed k = tt

  -- (c)
  pub mark_stays : (later before : List Telling) (e : Telling) → Told (later ++ (e ∷ before)) → Arrives Marks ch i e before
      → Unreleased ch i later (e ∷ before) → marked ch i (later ++ (e ∷ before)) ≡ true
  mark_stays later before e told r u = kept ch i later (e ∷ before) (arrival_marks e before (told_at ch i later before e told) r) u

  -- (a)
  unmarked-before : (t : Bool) (o : Arrival) → Lists o → ListedBy t o → t ≡ false
  unmarked-before t Ignored k l = absurd k
  unmarked-before t Filtered k l = absurd k
  unmarked-before t Appended k l = l
  unmarked-before t Dropped k l = absurd k
  unmarked-before t Overwriting k l = l
  unmarked-before t AlreadyListed k l = absurd k

  pub listed_once : (later between before : List Telling) (e f : Telling) → Told (later ++ (e ∷ (between ++ (f ∷ before))))
      → Arrives Lists ch i e (between ++ (f ∷ before)) → Arrives Lists ch i f before → Unreleased ch i between (f ∷ before) → ⊥
  listed_once later between before e f told x y u =
      let l : List Telling = between ++ (f ∷ before) in
      let first : Arrives Marks ch i f before =
      record {
        word = y.word;
        outcome = y.outcome;
        tells = y.tells;
        of_index = y.of_index;
        mode = y.mode;
        is = lists_marks y.outcome y.is;
      } in
      let set : marked ch i l ≡ true = mark_stays between before f (told_behind ch i later l e told) first u in
      let by = told_at ch i later l e told ch x.word x.outcome x.tells x.mode in
      let clear : marked ch i l ≡ false =
      unmarked-before (marked ch i l) x.outcome x.is (subst (λ (j : ℕ). ListedBy (marked ch j l) x.outcome) x.of_index by) in
      true≢false (sym set ∙ clear)

-- ---- (b)

-- how often a list with one entry more, or less, names the index
times_append : (i : ℕ) (l : List (List ℕ)) (e : List ℕ) → times_listed i (l ++ (e ∷ [])) ≡ times_listed i l + cond (names i e) 1 0
times_append i [] e = omega arith
times_append i (x ∷ l) e = omega (arith, times_append i l e)

one_at_most : (t : Bool) → cond t 1 0 ≤ 1
one_at_most true = omega arith
one_at_most false = omega arith

times_drop : (i : ℕ) (l : List (List ℕ)) → times_listed i (drop 1 l) ≤ times_listed i l
times_drop i [] = omega arith
times_drop i (x ∷ l) = omega arith

none_if_empty : (i : ℕ) (l : List (List ℕ)) (r m : ℕ) → times_listed i l ≤ r + m → times_listed i l ≤ cond (is_empty l) 0 r + m
none_if_empty i [] r m h = zero-le
none_if_empty i (x ∷ l) r m h = h

module _ (ch i : ℕ) (below : i < indexes) where
  -- what holds of a list, in mailbox mode
  abbrev Few : List (List ℕ) → ℕ → Bool → Type 0
  Few l r t = times_listed i l ≤ r + cond t 1 0

  abbrev one : Bool → ℕ
  one t = cond t 1 0

  -- an entry appended: a mark that was not set is set where it names the index
  append_few : (held : List (List ℕ)) (e : List ℕ) (r : ℕ) (t n : Bool) → names i e ≡ n → (n ≡ true → t ≡ false) → Few held r t
      → Few (held ++ (e ∷ [])) r (cond n true t)
  append_few held e r t true p k f =
      let x : ◌≡◌ {A = ℕ} (cond (names i e) 1 0) 1 = ap one p in
      let y : ◌≡◌ {A = ℕ} (cond t 1 0) 0 = ap one (k refl) in
      omega (arith, times_append i held e)
  append_few held e r t false p k f =
      let x : ◌≡◌ {A = ℕ} (cond (names i e) 1 0) 0 = ap one p in
      omega (arith, times_append i held e)

  -- over the oldest, which takes its mark first
  overwrite_few : (held : List (List ℕ)) (e : List ℕ) (r : ℕ) (t n o : Bool) → names i e ≡ n → names i (get_or held 0 []) ≡ o → (n ≡ true → t ≡ false)
      → Few held r t → Few (drop 1 held ++ (e ∷ [])) r (cond n true (cond o false t))
  overwrite_few [] e r t n o p q k f = empty n o p
    where
      empty : (n o : Bool) → names i e ≡ n → Few ([] ++ (e ∷ [])) r (cond n true (cond o false t))
      empty true o z = let x : ◌≡◌ {A = ℕ} (cond (names i e) 1 0) 1 = ap one z in omega arith
      empty false o z = let x : ◌≡◌ {A = ℕ} (cond (names i e) 1 0) 0 = ap one z in omega arith
  overwrite_few (y ∷ l) e r t true o p q k f =
      let x : ◌≡◌ {A = ℕ} (cond (names i e) 1 0) 1 = ap one p in
      let z : ◌≡◌ {A = ℕ} (cond t 1 0) 0 = ap one (k refl) in
      omega (arith, times_append i l e)
  overwrite_few (y ∷ l) e r t false true p q k f =
      let x : ◌≡◌ {A = ℕ} (cond (names i e) 1 0) 0 = ap one p in
      let z : ◌≡◌ {A = ℕ} (cond (names i y) 1 0) 1 = ap one q in
      omega (arith, times_append i l e, one_at_most t)
  overwrite_few (y ∷ l) e r t false false p q k f =
      let x : ◌≡◌ {A = ℕ} (cond (names i e) 1 0) 0 = ap one p in
      omega (arith, times_append i l e)

  -- an arrival accepted, by its outcome
  arrival_few : (w : ℕ) (o : Arrival) (h : History) (r : ℕ) (t : Bool) → in_fifo_mode (h.kept ch).settings ≡ false
      → (index w ≡ i → ListedBy t o) → Few (h.kept ch).receive.held r t →
      let c : Change = arrival_change o (entry_of h.part.stamp w (h.kept ch).settings) in
      Few (changed ◌+◌ c (h.kept ch).receive).held r (mark_by (in_fifo_mode (h.kept ch).settings) c (h.kept ch).receive.held i t)
  arrival_few w Ignored h r t m l f = f
  arrival_few w Filtered h r t m l f = f
  arrival_few w Appended h r t m l f =
      let e : List ℕ = entry_of h.part.stamp w (h.kept ch).settings in
      let own : names i e ≡ eqb (index w) i = names_entry below h.part.stamp w (h.kept ch).settings m in
      rw m (append_few (h.kept ch).receive.held e r t (names i e) refl (λ z. l (eqb-true (index w) i (sym own ∙ z))) f)
  arrival_few w Dropped h r t m l f = f
  arrival_few w Overwriting h r t m l f =
      let e : List ℕ = entry_of h.part.stamp w (h.kept ch).settings in
      let own : names i e ≡ eqb (index w) i = names_entry below h.part.stamp w (h.kept ch).settings m in
      rw m
      (overwrite_few (h.kept ch).receive.held e r t (names i e) (names i (get_or (h.kept ch).receive.held 0 [])) refl refl
      (λ z. l (eqb-true (index w) i (sym own ∙ z))) f)
  arrival_few w AlreadyListed h r t m l f = f

  -- ---- every call on the channel

  module _ (a : Answer) (h : History) (r : ℕ) (t : Bool) where
    abbrev l : List ℕ
    l = (h.kept ch).settings

    abbrev held : List (List ℕ)
    held = (h.kept ch).receive.held

    -- what holds after a call that reads this mailbox or not, with its change of the list
    abbrev Then : Bool → Change → Type 0
    Then read c = Few (changed ◌+◌ c (h.kept ch).receive).held (cond read 1 0 + r) (cond read false (mark_by (in_fifo_mode l) c held i t))

    abbrev Before : Type 0
    Before = in_fifo_mode l ≡ false → Few held r t

    same : Few held r t → Then false Stays
    same f = omega (arith, f)

    setting_few : (s v : ℕ) → Before → in_fifo_mode (set l s v) ≡ false → Then false (setting_change s v l)
    setting_few s v f m = go (eqb s receive_mode) refl
      where
        mode : (q : Bool) → eqb (word l receive_mode) v ≡ q → in_fifo_mode (set l receive_mode v) ≡ false → Then false (cond q Stays Clears)
        mode true z n =
            let e : set l receive_mode v ≡ l = ap (set l receive_mode) (sym (eqb-true (word l receive_mode) v z)) ∙ set-get_or l receive_mode 0 in
            same (f (rw e at n))
        mode false z n = zero-le

        go : (q : Bool) → eqb s receive_mode ≡ q → Then false (cond q (cond (eqb (word l receive_mode) v) Stays Clears) Stays)
        go true z = mode (eqb (word l receive_mode) v) refl (subst (λ (x : ℕ). in_fifo_mode (set l x v) ≡ false) (eqb-true s receive_mode z) m)
        go false z = same (f (rw (get_or-set_other l s receive_mode v 0 (λ e. eqb-false s receive_mode z (sym e))) at m))

    -- nothing sent by an answer that names no outcome, and no entry
    arrive_few : (x : Answer) (w : ℕ) → ((o : Arrival) → x ≡ Arrived o → index w ≡ i → ListedBy t o) → Few held r t → in_fifo_mode l ≡ false
        → Then false (arrive_change (entry_of h.part.stamp w l) x)
    arrive_few Done w told f m = same f
    arrive_few (Refused n) w told f m = same f
    arrive_few (Value n) w told f m = same f
    arrive_few (Waiting n v) w told f m = same f
    arrive_few (Fates n o p q s v x) w told f m = same f
    arrive_few (Arrived o) w told f m = omega (arith, arrival_few w o h r t m (λ z. told o refl z) f)
    arrive_few (Entry s v x) w told f m = same f
    arrive_few (Stepped o) w told f m = same f

    read_few : (x : Answer) → Few held r t → Then false (read_change x)
    read_few Done f = same f
    read_few (Refused n) f = same f
    read_few (Value n) f = same f
    read_few (Waiting n v) f = same f
    read_few (Fates n o p q s v x) f = same f
    read_few (Arrived o) f = same f
    read_few (Entry s v x) f = omega (arith, times_drop i held, f)
    read_few (Stepped o) f = same f

    mailbox_few : (q : Bool) → Few held r t → Then q Stays
    mailbox_few true f = omega (arith, f, one_at_most t)
    mailbox_few false f = same f

    call_few : (k : ChannelCall) → ((w : ℕ) → k ≡ Receive (Arrive w) → (o : Arrival) → a ≡ Arrived o → in_fifo_mode l ≡ false → index w ≡ i → ListedBy t o) → Before
        → in_fifo_mode (effect h.part.stamp k a l).settings ≡ false → Then (reads_mailbox k i) (effect h.part.stamp k a l).receive
    call_few (Settings (WriteSetting s v)) told f m = setting_few (setting_number s) v f m
    call_few (Settings (ReadSetting s)) told f m = same (f m)
    call_few (Memories k) told f m = same (f m)
    call_few (Status k) told f m = same (f m)
    call_few (Tests (Sample x)) told f m = same (f m)
    call_few (Tests ResetTest) told f m = same (f m)
    call_few (Tests (InitiateTest x)) told f m = zero-le
    call_few (Reads k) told f m = same (f m)
    call_few (Receive (Arrive w)) told f m = arrive_few a w (λ o e x. told w refl o e m x) (f m) m
    call_few (Receive ReadFifo) told f m = read_few a (f m)
    call_few (Receive (ReadMailbox j)) told f m = mailbox_few (eqb j i) (f m)
    call_few (Transmit (WriteFifo w)) told f m = same (f m)
    call_few (Transmit (WriteAsync w)) told f m = same (f m)
    call_few (Transmit Trigger) told f m = same (f m)
    call_few (Transmit Pause) told f m = same (f m)
    call_few (Transmit Stop) told f m = same (f m)
    call_few (Transmit Step) told f m = same (f m)

    -- ---- every call on the module

    -- on channel x: this one, or another
    on_few : (x : ℕ) (k : ChannelCall) (q : Bool) → eqb x ch ≡ q
        → ((w : ℕ) → On x k ≡ On ch (Receive (Arrive w)) → (o : Arrival) → a ≡ Arrived o → in_fifo_mode l ≡ false → index w ≡ i → ListedBy t o) → Before
        → in_fifo_mode (cond q (effect h.part.stamp k a l) (nothing l)).settings ≡ false
        → Then (cond q (reads_mailbox k i) false) (cond q (effect h.part.stamp k a l) (nothing l)).receive
    on_few x k true z told f m = call_few k (λ w e. told w (ap₂ On (eqb-true x ch z) e)) f m
    on_few x k false z told f m = same (f m)

    accepted_few : (c : Call)
        → ((w : ℕ) → c ≡ On ch (Receive (Arrive w)) → (o : Arrival) → a ≡ Arrived o → in_fifo_mode l ≡ false → index w ≡ i → ListedBy t o) → Before
        → in_fifo_mode (accepted_effect ch c a h).settings ≡ false → Then (reads_by ch i c) (accepted_effect ch c a h).receive
    accepted_few (PowerUp n) told f m = zero-le
    accepted_few Reset told f m = zero-le
    accepted_few (Wide k) told f m = same (f m)
    accepted_few (On x k) told f m = on_few x k (eqb x ch) refl told f m

  -- (b)
  pub listed_few : (es : List Telling) → Told es → in_fifo_mode ((history es).kept ch).settings ≡ false
      → Few ((history es).kept ch).receive.held (reads_since ch i es) (marked ch i es)
  listed_few [] told m = zero-le
  listed_few (Silent ∷ before) told m =
      none_if_empty i ((history before).kept ch).receive.held _ _
      (same Done (history before) (reads_since ch i before) (marked ch i before) (listed_few before told.1 m))
  listed_few (Performed c a ∷ before) told m =
      none_if_empty i ((history (Performed c a ∷ before)).kept ch).receive.held _ _
      (accepted_few a (history before) (reads_since ch i before) (marked ch i before) c
      (λ w d o x n z. subst (λ (j : ℕ). ListedBy (marked ch j before) o) z (told.0 ch w o (ap₂ Performed d x) n)) (λ n. listed_few before told.1 n) m)
