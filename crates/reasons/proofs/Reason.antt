-- The arrival followed over the items has the reason that the ledger of the accesses gives, and the reason says what was done.
-- Assumes nothing.
use Prim.Native.Nat.{ℕ, zero, suc, ◌+◌, ◌*◌, ◌-◌, ◌≤◌}
use mathlib.Core.Path.{◌≡◌, refl, sym, ap, ◌∙◌, subst}
use mathlib.Core.Bool.{Bool, true, false, cond, true≢false}
use mathlib.Core.List.{List, [], ◌∷◌, append-nil}
use native.Mathlib.Omega.{arith}
use borrow.Author.Tests.{eq-eqb, eqb-true, eqb-false}
use lib.Dec.{eqb}
use lib.ListN.{length, take, drop}
use lib.Seq.{take-length, drop-length}
use Rattle.little_endian.specs.LittleEndian.{word_at}
use Rattle.channel_calls.specs.declared.calls.ReceiveCall.TheVariants.{Arrive}
use Rattle.channel_calls.specs.declared.calls.ChannelCall.TheVariants.{Receive}
use Rattle.channel_calls.specs.Answer.{Answer, Refused}
use Rattle.channel.specs.Channel.{block_answer}
use Rattle.frame.specs.Layout.{need, block}
use Rattle.power.specs.Power.{power_refusal, power_after}
use Rattle.module.specs.OnChannel.{on_refusal, given_of, on_answer}
use Rattle.module.specs.declared.calls.Call.TheVariants.{PowerUp, On}
use Rattle.std.proofs.Common.{Option, None, Some}
use Rattle.registers.specs.Access.{access_answer, access_after}
use Rattle.registers.specs.declared.accesses.Access.{Access}
use Rattle.registers.specs.declared.accesses.Access.TheVariants.{Direct}
use Rattle.items.proofs.Table.{channel_rows}
use Rattle.calls.specs.Performed.{item_after}
use Rattle.sessions.specs.Sessions.{item_bytes, item_at, performed}
use Rattle.fates.specs.Run.{lent, run, answer_behind, told_by}
use Rattle.fates.specs.History.{Telling, tells}
use Rattle.fates.proofs.Untouched.{untouched}
use Rattle.following.specs.Reasons.{call_place}
use Rattle.following.specs.Course.{reason_by, next}
use Rattle.following.specs.Follows.{OfArrival}
use Rattle.following.specs.declared.course.Reason.{Reason}
use Rattle.following.specs.declared.course.Watch.{Watch}
use Rattle.following.proofs.Lookup.{both}
use Rattle.following.proofs.Tracking.{Tracks, passes, arrives_at, starts, Given, ends}
use Rattle.reasons.specs.Question.{arrive, whole_count, index_at, channel_at, arriving_at, is_call, calls_to, Asked}
use Rattle.reasons.specs.Followed.{followed, followed_to}
use Rattle.reasons.specs.Explained.{joined, accesses_to, told_to, state_after, arrival_answer, reason_for}
use Rattle.reasons.proofs.Refusing.{accepted}

-- ---- lent whole

take_whole : (m : List ℕ) (k : ℕ) → length m ≡ k → take k m ≡ m
take_whole m k e = subst (λ (n : ℕ). take n m ≡ m) e (take-length m)

lent-whole : (k : ℕ) (x : Access) (m : List ℕ) → length m ≡ k → lent k x m ≡ access_after x m
lent-whole k x m e = rw (take_whole m k e, subst (λ (n : ℕ). drop n m ≡ []) e (drop-length m)) (append-nil (access_after x m))

-- ---- the memory

module _ (count : ℕ) (bytes m : List ℕ) (size : length m ≡ need count) where
  abbrev powered : List ℕ
  powered = power_after count m

  -- the memory behind the first n items, which is as long as it was
  record Runs (n : ℕ) : Type 0 where
    is : run m (accesses_to count bytes n) ≡ performed n bytes powered
    long : length (performed n bytes powered) ≡ need count

  runs-next : (n : ℕ) → Runs n → (i : Option Access)
      → (run m (joined (need count) i (accesses_to count bytes n)) ≡ item_after i (performed n bytes powered)) × (length (item_after i (performed n bytes powered)) ≡ need count)
  runs-next n r None = (r.is, r.long)
  runs-next n r (Some x) = (
    ap (lent (need count) x) r.is ∙ lent-whole (need count) x (performed n bytes powered) r.long,
    (untouched x (performed n bytes powered)).as_long ∙ r.long,
  )

  runs : (n : ℕ) → Runs n
  runs zero =
      record { is = lent-whole (need count) (Direct (PowerUp count)) m size; long = (untouched (Direct (PowerUp count)) m).as_long ∙ size }
  runs (suc n) = let r = runs-next n (runs n) (item_at bytes (item_bytes * n)) in record { is = r.0; long = r.1 }

  pub state_is : state_after count bytes m ≡ performed (whole_count bytes) bytes powered
  state_is = (runs (whole_count bytes)).is

  -- an access behind the first n items
  answer_is : (n : ℕ) (x : Access) → answer_behind m (accesses_to count bytes n) (need count) x ≡ access_answer x (performed n bytes powered)
  answer_is n x = ap (access_answer x) (ap (take (need count)) (runs n).is ∙ take_whole (performed n bytes powered) (need count) (runs n).long)

-- ---- the items

-- where n items are calls, fewer are
calls_below : (n k : ℕ) (bytes : List ℕ) → k ≤ n → calls_to n bytes ≡ true → calls_to k bytes ≡ true
calls_below zero k bytes h e = rw (zero_only k h) refl
  where
    zero_only : (k : ℕ) → k ≤ 0 → k ≡ 0
    zero_only k h = omega arith
calls_below (suc n) k bytes h e = go (eqb k (suc n)) refl (λ l. calls_below n k bytes l (both (calls_to n bytes) (is_call (item_at bytes (item_bytes * n))) e).0)
  where
    go : (t : Bool) → eqb k (suc n) ≡ t → (k ≤ n → calls_to k bytes ≡ true) → calls_to k bytes ≡ true
    go true q r = rw (eqb-true k (suc n) q) e
    go false q r = let d : k ≡ suc n → ⊥ = eqb-false k (suc n) q in r (omega (arith, h, d))

arrival_item : (bytes : List ℕ) (at : ℕ) → word_at bytes at ≡ arrive → item_at bytes at ≡ Some (Direct (On (word_at bytes (at + 4)) (Receive (Arrive (word_at bytes (at + 8))))))
unfolding item_at
arrival_item bytes at e = rw e (channel_rows (word_at bytes (at + 4)) (word_at bytes (at + 8)) (word_at bytes (at + 12))).0

-- an arrival is answered with a refusal or an outcome
arrival-answered : (ch w : ℕ) (m : List ℕ) → OfArrival (on_answer ch (Receive (Arrive w)) m)
arrival-answered ch w m = go (eqb (on_refusal ch (Receive (Arrive w)) m) 0)
  where
    go : (t : Bool) → OfArrival (cond t (block_answer (given_of ch (Receive (Arrive w)) m) (Receive (Arrive w)) (block m ch)) (Refused (on_refusal ch (Receive (Arrive w)) m)))
    go true = tt
    go false = tt

-- ---- the list

module _ (count : ℕ) (bytes : List ℕ) (place : ℕ) (m : List ℕ) (size : length m ≡ need count) (q : Asked count bytes place) where
  abbrev ch : ℕ
  ch = channel_at bytes place

  abbrev given : Answer
  given = arrival_answer count bytes m place

  abbrev m₁ : List ℕ
  m₁ = power_after count m

  record Along (n : ℕ) : Type 0 where
    long : length (told_to count bytes m n) ≡ suc n
    tracks : Tracks given ch (suc place) (told_to count bytes m n) (followed_to n bytes ch place m₁)

  -- behind the power-up
  first : Along zero
  first =
      let whole : length (take (need count) m) ≡ need count = ap length (take_whole m (need count) size) ∙ size in
      let done : eqb (power_refusal count (length (take (need count) m))) 0 ≡ true = eq-eqb _ 0 (accepted count q.some q.most (length (take (need count) m)) whole) in
      record { long = refl; tracks = rw done (starts given ch place count q.low) }

  -- one item more
  module _ (n : ℕ) (a : Along n) where
    abbrev w : Watch
    w = followed_to n bytes ch place m₁

    abbrev ts : List Telling
    ts = told_to count bytes m n

    abbrev Next : Option Access → Type 0
    Next i =
        (length (told_by m (joined (need count) i (accesses_to count bytes n))) ≡ suc (suc n))
        × Tracks given ch (suc place) (told_by m (joined (need count) i (accesses_to count bytes n))) (followed i ch place (n + 1) (performed n bytes m₁) w)

    here : call_place (suc (length ts)) ≡ n + 1
    here = omega (arith, a.long)

    -- the answer that the item has in the list
    abbrev answered : Access → Answer
    answered x = answer_behind m (accesses_to count bytes n) (need count) x

    -- the same watch, by the memory that the code has
    by_memory : (x : Access) (ts' : List Telling) → Tracks given ch (suc place) ts' (next ch place (call_place (suc (length ts))) x (answered x) w)
        → Tracks given ch (suc place) ts' (followed (Some x) ch place (n + 1) (performed n bytes m₁) w)
    by_memory x ts' t =
        subst (λ (b : Answer). Tracks given ch (suc place) ts' (next ch place (n + 1) x b w)) (answer_is count bytes m size n x)
        (subst (λ (p : ℕ). Tracks given ch (suc place) ts' (next ch place p x (answered x) w)) here t)

    another : (x : Access) → (suc n ≡ place → ⊥) → Next (Some x)
    another x other = (
      ap suc a.long,
      by_memory x (tells x (answered x) ∷ ts) (passes given ch place ts w a.tracks x (answered x) (λ e. other (sym a.long ∙ e))),
    )

    by_item : (suc n ≡ place → ⊥) → (i : Option Access) → is_call i ≡ true → Next i
    by_item other None c = absurd (true≢false (sym c))
    by_item other (Some x) c = another x other

    abbrev arrival : Access
    arrival = Direct (On ch (Receive (Arrive (arriving_at bytes place))))

    the_arrival : suc n ≡ place → Next (Some arrival)
    the_arrival e =
        let before : place - 1 ≡ n = omega (arith, e) in
        let is : given ≡ answered arrival = ap (λ (k : ℕ). answer_behind m (accesses_to count bytes k) (need count) arrival) before in
        let of : OfArrival given = arrival-answered ch (arriving_at bytes place) (take (need count) (run m (accesses_to count bytes (place - 1)))) in (
          ap suc a.long,
          by_memory arrival (tells arrival (answered arrival) ∷ ts)
              (subst (λ (b : Answer). Tracks given ch (suc place) (tells arrival b ∷ ts) (next ch place (call_place (suc (length ts))) arrival b w)) is
              (arrives_at given ch place ts w a.tracks (arriving_at bytes place) of (a.long ∙ e))),
        )

    one_more : is_call (item_at bytes (item_bytes * n)) ≡ true → Next (item_at bytes (item_bytes * n))
    one_more c = go (eqb (suc n) place) refl
      where
        go : (t : Bool) → eqb (suc n) place ≡ t → Next (item_at bytes (item_bytes * n))
        go true e =
            let e' : suc n ≡ place = eqb-true (suc n) place e in
            let at : index_at bytes place ≡ item_bytes * n = omega (arith, e') in
            subst Next (sym (arrival_item bytes (index_at bytes place) q.arrives) ∙ ap (item_at bytes) at) (the_arrival e')
        go false e = by_item (eqb-false (suc n) place e) (item_at bytes (item_bytes * n)) c

  along : (n : ℕ) → n ≤ whole_count bytes → Along n
  along zero h = first
  along (suc n) h =
      let c = (both (calls_to n bytes) (is_call (item_at bytes (item_bytes * n))) (calls_below (whole_count bytes) (suc n) bytes h q.calls)).1 in
      let r = one_more n (along n (omega (arith, h))) c in
      record { long = r.0; tracks = r.1 }

  -- at the end of the list
  pub reason_is : Given given ch (suc place) (told_to count bytes m (whole_count bytes)) (reason_by (followed_to (whole_count bytes) bytes ch place m₁))
  reason_is =
      let a = along (whole_count bytes) (omega arith) in
      let far : suc place ≤ length (told_to count bytes m (whole_count bytes)) = omega (arith, a.long, q.high) in
      ends given ch (suc place) (told_to count bytes m (whole_count bytes)) (followed_to (whole_count bytes) bytes ch place m₁) far a.tracks

-- what the code has: the powered-up memory, the channel, the watch and the memory at the end
pub found : (count : ℕ) (bytes : List ℕ) (place : ℕ) (m : List ℕ) → length m ≡ need count → Asked count bytes place → (powered : List ℕ) (channel : ℕ) (w : Watch)
    (left : List ℕ) (r : Reason) → powered ≡ power_after count m → channel ≡ channel_at bytes place
    → w ≡ followed_to (whole_count bytes) bytes channel place powered → left ≡ performed (whole_count bytes) bytes powered → r ≡ reason_by w
    → (r ≡ reason_for count bytes place m) × (left ≡ state_after count bytes m)
found count bytes place m size q powered channel w left r p c f l e = (
  e ∙ ap reason_by (rw (p, c) at f) ∙ (reason_is count bytes place m size q).is,
  (rw p at l) ∙ sym (state_is count bytes m size),
)
