-- Of the RAMs the first 512 and 256 words count.
-- Assumes nothing.
use mathlib.Core.Path.{◌≡◌, refl, ap, ◌∙◌}
use mathlib.Core.Bool.{cond}
use Rattle.std.specs.Prelude.{Option, Some, None}
use mathlib.Core.List.{List, ◌∷◌, ◌++◌}
use Prim.Native.Nat.{ℕ, zero, suc, ◌+◌, ◌≤◌, ◌<◌}
use native.Mathlib.Omega.{arith}
use lib.Dec.{eqb}
use lib.ListN.{length, get_or, length-append, get_or-append}
use borrow.Author.Tests.{le-ltb}
use Rattle.schedule.specs.Codes.{running, commands, messages, last, message_address}
use Rattle.schedule.specs.Schedule.{stepped, step_at}
use Rattle.schedule.specs.declared.Place.{Place}
use Rattle.bench_card.specs.Bench.{Bench, bench, start, first_step}
use Rattle.bench_card.specs.Asyncs.{before}
use Rattle.bench_card.specs.Run.{outcome_at, sends, next_of, next_output, followed, dues}
use Rattle.bench_card.specs.Record.{recorded}
use Rattle.bench_card.specs.Verdict.{verdict}
use Rattle.bench_card.specs.Rules.{FirstWordsCount}
use Rattle.bench_card.specs.declared.stepping.Next.{Next}
use Rattle.bench_card.proofs.Writes.{before_address}
use Rattle.bench_card.proofs.Commands.{outcome_address, behind_address}

-- words behind a list leave it long enough
enough : (l c : List ℕ) (k : ℕ) → k ≤ length l → k ≤ length (l ++ c)
enough l c k h = simp length-append (omega arith)

module _ (b : Bench) (c d : List ℕ) (n : length b.schedule ≡ commands) (m : length b.messages ≡ messages) where
  -- the same card with words behind its RAMs
  longer : Bench
  longer = bench (b.schedule ++ c) (b.messages ++ d) b.parity b.asyncs

  outcome-same : (step : ℕ) (p : Place) → p.address ≤ last → outcome_at longer step p ≡ outcome_at b step p
  unfolding longer outcome_at step_at
  outcome-same step p h =
      let q = before step b.asyncs p in
      let address : q.address < length b.schedule = omega (arith, before_address step b.asyncs p) in
      let command : get_or (b.schedule ++ c) q.address 0 ≡ get_or b.schedule q.address 0 = get_or-append b.schedule c 0 q.address address in
      let k = get_or b.schedule q.address 0 in
      let within : message_address k < length b.messages = omega arith in
      ap (λ x. stepped q b.parity x (get_or (b.messages ++ d) (message_address x) 0)) command
      ∙ ap (λ v. stepped q b.parity k v) (get_or-append b.messages d 0 (message_address k) within)

  next-same : (left step : ℕ) (p : Place) → p.address ≤ last → next_output longer left step p ≡ next_output b left step p
  unfolding next_output
  next-same zero step p h = refl
  next-same (suc left) step p h =
      rw (outcome-same step p h)
      (ap (λ n. cond (eqb p.state running) (cond (sends (outcome_at b step p).output) (next_of (outcome_at b step p).output (outcome_at b step p).place (step + 1)) n) None)
      (next-same left (step + 1) (outcome_at b step p).place (outcome_address b step p h)))

  dues-same : (count step : ℕ) (p : Place) → p.address ≤ last → dues longer count step p ≡ dues b count step p
  unfolding dues
  dues-same zero step p h = refl
  dues-same (suc count) step p h =
      ap (λ x. followed x (dues longer count)) (next-same commands step p h) ∙ go (λ s q k. dues-same count s q k) (next_output b commands step p) refl
    where
      go : ((s : ℕ) (q : Place) → q.address ≤ last → dues longer count s q ≡ dues b count s q) → (x : Option Next) → next_output b commands step p ≡ x
          → followed x (dues longer count) ≡ followed x (dues b count)
      go on (Some n) e = ap (λ l. n.output ∷ l) (on n.step n.place (behind_address b commands step p h n.output n.place n.step e))
      go on None e = refl

pub first-words-count : FirstWordsCount
unfolding FirstWordsCount verdict longer
first-words-count b c d outputs n m = rw (
  le-ltb (length (b.schedule ++ c)) commands (enough b.schedule c commands (omega arith)),
  le-ltb (length (b.messages ++ d)) messages (enough b.messages d messages (omega arith)),
  le-ltb (length b.schedule) commands (omega arith),
  le-ltb (length b.messages) messages (omega arith),
  dues-same b c d n m (length (recorded outputs)) first_step start (omega arith),
)
