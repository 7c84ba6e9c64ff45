-- From one output of the run to the next, a command after the other.
-- Assumes nothing.
use mathlib.Core.Path.{◌≡◌, refl, ap, subst}
use Rattle.std.specs.Prelude.{Some, None}
use mathlib.Core.Bool.{Bool, true, false, cond}
use Prim.Native.Nat.{ℕ, zero, suc, ◌+◌, ◌-◌, ◌≤◌, ◌<◌}
use native.Mathlib.Omega.{arith}
use borrow.Author.Tests.{eq-eqb, ne_eqb}
use lib.Dec.{eqb}
use lib.ListN.{get_or}
use Rattle.schedule.specs.Codes.{running, last, message_address}
use Rattle.schedule.specs.Schedule.{step_at}
use Rattle.schedule.specs.declared.Place.{Place}
use Rattle.schedule.specs.declared.Output.{Output}
use Rattle.schedule.proofs.Laws.{step_address}
use Rattle.bench_card.specs.Bench.{Bench}
use Rattle.bench_card.specs.Asyncs.{before}
use Rattle.bench_card.specs.Run.{outcome_at, sends, next_of, next_output}
use Rattle.bench_card.specs.declared.stepping.Next.{Next}
use Rattle.bench_card.proofs.Writes.{before_address}

-- the address stays one of the schedule RAM's
pub outcome_address : (b : Bench) (step : ℕ) (p : Place) → p.address ≤ last → (outcome_at b step p).place.address ≤ last
unfolding outcome_at step_at
outcome_address b step p h =
    let q = before step b.asyncs p in
    let command = get_or b.schedule q.address 0 in
    step_address q b.parity command (get_or b.messages (message_address command) 0) (omega (arith, before_address step b.asyncs p))

-- a schedule that is not running gives nothing more
pub next-ended : (b : Bench) (left step : ℕ) (p : Place) → (p.state ≡ running → ⊥) → next_output b left step p ≡ None
unfolding next_output
next-ended b zero step p h = refl
next-ended b (suc left) step p h = rw (ne_eqb p.state running h)

-- no command left
pub next_none : (b : Bench) (left step : ℕ) (p : Place) → left ≤ 0 → next_output b left step p ≡ None
unfolding next_output
next_none b zero step p h = refl
next_none b (suc left) step p h = absurd (omega arith)

-- a command that sends
pub next-sent : (b : Bench) (left step : ℕ) (p : Place) → 0 < left → p.state ≡ running → sends (outcome_at b step p).output ≡ true
    → next_output b left step p ≡ next_of (outcome_at b step p).output (outcome_at b step p).place (step + 1)
unfolding next_output
next-sent b zero step p h r s = absurd (omega arith)
next-sent b (suc left) step p h r s = rw (eq-eqb p.state running r, s)

-- a command that sends nothing
pub next_quiet : (b : Bench) (left step : ℕ) (p : Place) → 0 < left → p.state ≡ running → sends (outcome_at b step p).output ≡ false
    → next_output b left step p ≡ next_output b (left - 1) (step + 1) (outcome_at b step p).place
unfolding next_output
next_quiet b zero step p h r s = absurd (omega arith)
next_quiet b (suc left) step p h r s =
    let one : left ≡ suc left - 1 = omega arith in
    rw (eq-eqb p.state running r, s) (ap (λ k. next_output b k (step + 1) (outcome_at b step p).place) one)

-- the same next output has the same parts
pub same_next : {n m : Next} → ◌≡◌ {A = _} (Some n) (Some m) → n ≡ m
same_next e = cc

-- what holds behind an output: the address is one of the schedule RAM's, and the step at most `left` further on
record Behind (left step : ℕ) (q : Place) (s : ℕ) : Type 0 where
  address : q.address ≤ last
  near : s ≤ step + left

behind : (b : Bench) (left step : ℕ) (p : Place) → p.address ≤ last → (o : Output) (q : Place) (s : ℕ) → next_output b left step p ≡ next_of o q s
    → Behind left step q s
unfolding next_output
behind b zero step p h o q s e = cc
behind b (suc left) step p h o q s e =
    go (eqb p.state running) (sends (outcome_at b step p).output) (behind b left (step + 1) (outcome_at b step p).place (outcome_address b step p h) o q s) e
  where
    go : (t u : Bool) → (next_output b left (step + 1) (outcome_at b step p).place ≡ next_of o q s → Behind left (step + 1) q s)
        → cond t (cond u (next_of (outcome_at b step p).output (outcome_at b step p).place (step + 1)) (next_output b left (step + 1) (outcome_at b step p).place)) None
        ≡ next_of o q s
        → Behind (suc left) step q s
    go true true rest e =
        let a : (outcome_at b step p).place ≡ q = ap (λ n. n.place) (same_next e) in
        let n : step + 1 ≡ s = ap (λ n. n.step) (same_next e) in
        record { address = subst (λ (r : Place). r.address ≤ last) a (outcome_address b step p h); near = omega arith }
    go true false rest e = let r : Behind left (step + 1) q s = rest e in record { address = r.address; near = omega (arith, r.near) }
    go false u rest e = cc

module _ (b : Bench) (left step : ℕ) (p : Place) (h : p.address ≤ last) (o : Output) (q : Place) (s : ℕ) (e : next_output b left step p ≡ next_of o q s) where
  pub behind_address : q.address ≤ last
  behind_address = (behind b left step p h o q s e).address

  pub behind_step : s ≤ step + left
  behind_step = (behind b left step p h o q s e).near
