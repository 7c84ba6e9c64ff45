-- What a step of a schedule gives and leaves: the ranges of its place, its async word, its signal, and no word of the FIFO.
-- Assumes nothing.
use mathlib.Core.Path.{◌≡◌, refl}
use mathlib.Core.Bool.{Bool, true, false, cond}
use Prim.Native.Nat.{ℕ, ◌≤◌}
use native.Mathlib.Omega.{arith}
use borrow.Author.Tests.{leb-false}
use lib.Dec.{eqb, leb, ltb}
use Rattle.word.specs.Gap.{clamped}
use Rattle.word.specs.Parity.{as_sent}
use Rattle.schedule.specs.Codes.{idle, running, paused, code, target, stop, message, gap, fixed_gap, pause, interrupt, jump, last, async_gap}
use Rattle.schedule.specs.Output.{is_fifo_word}
use Rattle.schedule.specs.Schedule.{at, onward, async_sent, marked, gives, message_step, gap_step, reserved_step, jump_step, command_step, stepped}
use Rattle.schedule.specs.declared.Place.{Place}
use Rattle.schedule.specs.declared.Outcome.{Outcome}
use Rattle.schedule.specs.declared.Output.{Output}

-- what holds of the place q that a step leaves, from the place p before
record Leaves (p q : Place) : Type 0 where
  state : p.state ≤ paused → q.state ≤ paused
  address : p.address ≤ last → q.address ≤ last
  waiting : q.waiting ≤ p.waiting
  word : q.word ≡ p.word
  mark : p.mark ≤ 1 → q.mark ≤ 1

-- what holds of the whole outcome of a step from p
record Holds (p : Place) (o : Outcome) : Type 0 where
  place : Leaves p o.place
  signal : o.signal ≤ 1
  no_fifo_word : is_fifo_word o.output ≡ false

-- a fact of both cases of a test; the second is taken where the test fails
cases : {A : Type 0} (Q : A → Type 0) (t : Bool) (a b : A) → Q a → (t ≡ false → Q b) → Q (cond t a b)
cases Q true a b x y = x
cases Q false a b x y = y refl

-- ---- the places

idle_leaves : (p : Place) → Leaves p (at p idle 0)
idle_leaves p = record { state = λ h. omega arith; address = λ h. omega arith; waiting = omega arith; word = refl; mark = λ h. h }

onward_leaves : (p : Place) (state : ℕ) → state ≤ paused → Leaves p (onward p state)
unfolding onward
onward_leaves p state s =
    cases (Leaves p) (leb last p.address) _ _ (idle_leaves p)
    (λ e. record { state = λ h. s; address = λ h. omega (arith, leb-false last p.address e); waiting = omega arith; word = refl; mark = λ h. h })

-- what a place with the mark 0 or 1 leaves, the place itself leaves
mark_leaves : (p : Place) {q : Place} (m : ℕ) → m ≤ 1 → Leaves (marked p m) q → Leaves p q
mark_leaves p m h l = record { state = l.state; address = l.address; waiting = l.waiting; word = l.word; mark = λ _. l.mark h }

marked-runs : (p : Place) (m : ℕ) → m ≤ 1 → Leaves p (onward (marked p m) running)
marked-runs p m h = mark_leaves p m h (onward_leaves (marked p m) running (omega arith))

sent_leaves : (p : Place) → Leaves p (onward (async_sent p) running)
sent_leaves p =
    let l : Leaves (async_sent p) (onward (async_sent p) running) = onward_leaves (async_sent p) running (omega arith) in
    record { state = l.state; address = l.address; waiting = omega arith; word = l.word; mark = l.mark }

-- ---- the commands

gives_holds : {p q : Place} {o : Output} → is_fifo_word o ≡ false → Leaves p q → Holds p (gives o q)
gives_holds n l = record { place = l; signal = omega arith; no_fifo_word = n }

gap_holds : (p : Place) (parity g : ℕ) → Holds p (gap_step p parity g)
unfolding gap_step
gap_holds p parity g =
    cases (Holds p) (eqb p.waiting 0) _ _ (gives_holds refl (onward_leaves p running (omega arith)))
    (λ e. cases (Holds p) (ltb g async_gap) _ _ (gives_holds refl (onward_leaves p running (omega arith)))
    (λ e'. gives_holds refl (sent_leaves p)))

-- so does its outcome
mark_holds : (p : Place) {o : Outcome} (m : ℕ) → m ≤ 1 → Holds (marked p m) o → Holds p o
mark_holds p m h k = record { place = mark_leaves p m h k.place; signal = k.signal; no_fifo_word = k.no_fifo_word }

message_holds : (p : Place) (word : ℕ) → Holds p (message_step p word)
unfolding message_step
message_holds p word =
    let after = marked-runs p 1 (omega arith) in
    cases (Holds p) (eqb p.mark 0) _ _ (gives_holds refl after) (λ e. gives_holds refl after)

reserved_holds : (p : Place) → Holds p (reserved_step p)
reserved_holds p = gives_holds refl (idle_leaves p)

jump_holds : (p : Place) (to : ℕ) → to ≤ last → Holds p (jump_step p to)
jump_holds p to l =
    gives_holds refl (record { state = λ h. omega arith; address = λ h. l; waiting = omega arith; word = refl; mark = λ h. h })

command_holds : (p : Place) (parity command value : ℕ) → Holds p (command_step p parity command value)
unfolding command_step
command_holds p parity command value =
    is stop (gives_holds refl (idle_leaves p))
    (is message (message_holds p (as_sent parity value))
    (is gap (mark_holds p 0 (omega arith) (gap_holds (marked p 0) parity (clamped value)))
    (is fixed_gap (gives_holds refl (marked-runs p 0 (omega arith)))
    (is pause (gives_holds refl (onward_leaves p paused (omega arith)))
    (is interrupt (record { place = onward-runs; signal = omega arith; no_fifo_word = refl })
    (is jump (jump_holds p (target command) (omega arith)) (reserved_holds p)))))))
  where
    is : (k : ℕ) {a b : Outcome} → Holds p a → Holds p b → Holds p (cond (eqb (code command) k) a b)
    is k {a} {b} x y = cases (Holds p) (eqb (code command) k) a b x (λ e. y)

    onward-runs : Leaves p (onward p running)
    onward-runs = onward_leaves p running (omega arith)

holds : (p : Place) (parity command value : ℕ) → Holds p (stepped p parity command value)
unfolding stepped
holds p parity command value =
    cases (Holds p) (eqb p.state running) _ _ (command_holds p parity command value)
    (λ e. gives_holds refl (record { state = λ h. h; address = λ h. h; waiting = omega arith; word = refl; mark = λ h. h }))

-- ---- the laws

module _ (p : Place) (parity command value : ℕ) where
  pub step_state : p.state ≤ paused → (stepped p parity command value).place.state ≤ paused
  step_state h = (holds p parity command value).place.state h

  pub step_address : p.address ≤ last → (stepped p parity command value).place.address ≤ last
  step_address h = (holds p parity command value).place.address h

  pub step_waiting : p.waiting ≤ 1 → (stepped p parity command value).place.waiting ≤ 1
  step_waiting h = omega (arith, (holds p parity command value).place.waiting)

  pub step_word : (stepped p parity command value).place.word ≡ p.word
  step_word = (holds p parity command value).place.word

  pub step_mark : p.mark ≤ 1 → (stepped p parity command value).place.mark ≤ 1
  step_mark h = (holds p parity command value).place.mark h

  pub step_signal_lem : (stepped p parity command value).signal ≤ 1
  step_signal_lem = (holds p parity command value).signal

  pub no_fifo_word : is_fifo_word (stepped p parity command value).output ≡ false
  no_fifo_word = (holds p parity command value).no_fifo_word
