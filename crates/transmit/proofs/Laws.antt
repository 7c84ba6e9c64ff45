-- What the transmitter's calls do to a usable block: its own FIFO by the rules of both FIFOs, and nothing to the receiver and the settings.
-- Assumes nothing.
use Rattle.std.proofs.Common.{◌≡◌, ℕ, ◌+◌, ◌-◌, ◌%◌, ◌^◌, ◌<◌, ◌≤◌, Bool, true, false, cond, eqb, ◌≢◌, List, [], ◌∷◌, drop, set, sym, refl, ap, ◌∙◌, true≢false, zero-le, mod-lt, arith, get_or-set_other, eqb-true}
use borrow.Author.Tests.{eqb-false}
use Rattle.word.specs.Parity.{as_sent}
use Rattle.word.proofs.Laws.{sent_keeps}
use Rattle.ring.specs.Ring.{slot, slots, next, words}
use Rattle.ring.proofs.Laws.{take-oldest}
use Rattle.block.specs.Layout.{word, settings, transmitter, parity, rate, receive_overwritten, transmit_level, transmit_position, transmit_accepted, transmit_sent, transmit_mode, transmit_ring, state, address, async_mark, message_mark, async_word, ranged}
use Rattle.block.specs.Ranges.{leasts, greatests, in_range, Usable}
use Rattle.fifos.specs.Counts.{counted}
use Rattle.fifos.specs.Fifos.{receive_offsets, transmit_offsets, entry_taken, fifo, accepts, gives}
use Rattle.block.proofs.Sound.{in_range_lem, at_most, usable_set}
use Rattle.fifos.proofs.Fifos.{Apart, transmit_proper, store_apart, append_law, take_law}
use Rattle.schedule.specs.Codes.{idle, running, paused, last}
use Rattle.schedule.specs.Output.{is_fifo_word}
use Rattle.schedule.specs.declared.Output.{Output}
use Rattle.schedule.specs.declared.Output.TheVariants.{Quiet, FifoWord}
use Rattle.schedule.proofs.Laws.{step_state, step_address, step_waiting, step_mark, no_fifo_word}
use Rattle.transmit_controls.specs.Writes.{HasRoom, fifo_written, async_written}
use Rattle.block.specs.Modes.{immediate, triggered, scheduled}
use Rattle.transmit_controls.specs.States.{after_trigger, after_pause}
use Rattle.transmit.specs.Step.{oldest_word, send_output, send_after, immediate_output, immediate_after, triggered_output, triggered_after, place, command, message, scheduled_outcome, scheduled_after, step_output, step_after}

-- ---- what all of the calls leave

-- from the block b to the block c: it is still usable, with its settings and its receive FIFO as they were
pub record Leaves (b c : List ℕ) : Type 0 where
  pub usable : Usable c
  pub settings : (i : ℕ) → i < settings → word c i ≡ word b i
  pub receive : fifo receive_offsets c ≡ fifo receive_offsets b
  pub overwritten : word c receive_overwritten ≡ word b receive_overwritten

-- a word that is no setting and none of the receive FIFO's
record Aside (i : ℕ) : Type 0 where
  setting : settings ≤ i
  overwritten : receive_overwritten ≢ i
  receive : Apart receive_offsets i

unchanged : {b : List ℕ} → Usable b → Leaves b b
unchanged u = record { usable = u; settings = λ i h. refl; receive = refl; overwritten = refl }

-- a store in range at such a word
stored : {b c : List ℕ} → Leaves b c → (i v : ℕ) → Aside i → (i < ranged → in_range i v ≡ true) → Leaves b (set c i v)
stored {b} {c} l i v a r =
    record {
      usable = usable_set l.usable i v a.receive.level (omega (arith, a.setting)) r;
      settings = λ j h. get_or-set_other c i j v 0 (omega (arith, a.setting)) ∙ l.settings j h;
      receive = store_apart receive_offsets c i v (omega arith) a.receive ∙ l.receive;
      overwritten = get_or-set_other c i receive_overwritten v 0 a.overwritten ∙ l.overwritten;
    }

-- a word without a range, a level, a state, an address, a mark
stored_behind : {b c : List ℕ} → Leaves b c → (i v : ℕ) → Aside i → ranged ≤ i → Leaves b (set c i v)
stored_behind l i v a h = stored l i v a (λ r. absurd (omega arith))

stored_level : {b c : List ℕ} → Leaves b c → (v : ℕ) → v ≤ slots → Leaves b (set c transmit_level v)
unfolding leasts greatests
stored_level l v h = stored l transmit_level v (omega arith) (λ _. in_range_lem transmit_level v zero-le h)

stored-state : {b c : List ℕ} → Leaves b c → (v : ℕ) → v ≤ paused → Leaves b (set c state v)
unfolding leasts greatests
stored-state l v h = stored l state v (omega arith) (λ _. in_range_lem state v zero-le h)

stored_address : {b c : List ℕ} → Leaves b c → (v : ℕ) → v ≤ last → Leaves b (set c address v)
unfolding leasts greatests
stored_address l v h = stored l address v (omega arith) (λ _. in_range_lem address v zero-le h)

stored_mark : {b c : List ℕ} → Leaves b c → (v : ℕ) → v ≤ 1 → Leaves b (set c async_mark v)
unfolding leasts greatests
stored_mark l v h = stored l async_mark v (omega arith) (λ _. in_range_lem async_mark v zero-le h)

stored_message_mark : {b c : List ℕ} → Leaves b c → (v : ℕ) → v ≤ 1 → Leaves b (set c message_mark v)
unfolding leasts greatests
stored_message_mark l v h = stored l message_mark v (omega arith) (λ _. in_range_lem message_mark v zero-le h)

-- ---- writes

-- a word of the transmit ring
in_ring : (k : ℕ) → Aside (slot transmit_ring k)
in_ring k = let h : k % slots < slots = mod-lt k (omega arith) in omega arith

module _ {b : List ℕ} (u : Usable b) (w : ℕ) where
  pub write_keeps : HasRoom b → Leaves b (fifo_written w b)
  write_keeps h =
      let k : ℕ = word b transmit_position + word b transmit_level in
      let l : Leaves b (set b (slot transmit_ring k) w) = stored_behind (unchanged u) (slot transmit_ring k) w (in_ring k) (omega arith) in
      stored_behind (stored_level l (word b transmit_level + 1) (omega arith)) transmit_accepted _ (omega arith) (omega arith)

  -- the word is accepted
  pub write_accepts : HasRoom b → fifo transmit_offsets (fifo_written w b) ≡ accepts counted (fifo transmit_offsets b) (w ∷ [])
  write_accepts h = append_law transmit_offsets transmit_proper b u.whole (w ∷ []) refl h

  pub async_keeps : Leaves b (async_written w b)
  async_keeps = stored_behind (stored_mark (unchanged u) 1 (omega arith)) async_word w (omega arith) (omega arith)

pub async_fifo : (b : List ℕ) (w : ℕ) → fifo transmit_offsets (async_written w b) ≡ fifo transmit_offsets b
async_fifo b w =
    store_apart transmit_offsets (set b async_mark 1) async_word w (omega arith) (omega arith)
    ∙ store_apart transmit_offsets b async_mark 1 (omega arith) (omega arith)

-- ---- states

-- a fact of both cases of a test
cases : {A : Type 0} (Q : A → Type 0) (t : Bool) {a c : A} → Q a → Q c → Q (cond t a c)
cases Q true x y = x
cases Q false x y = y

state_fifo : (b : List ℕ) (v : ℕ) → fifo transmit_offsets (set b state v) ≡ fifo transmit_offsets b
state_fifo b v = store_apart transmit_offsets b state v (omega arith) (omega arith)

pub trigger_keeps : {b : List ℕ} → Usable b → Leaves b (after_trigger b)
trigger_keeps u = stored-state (unchanged u) running (omega arith)

pub trigger_fifo : (b : List ℕ) → fifo transmit_offsets (after_trigger b) ≡ fifo transmit_offsets b
trigger_fifo b = state_fifo b running

-- a pause sets the state or changes nothing
pause_cases : (b : List ℕ) (Q : List ℕ → Type 0) → Q (set b state paused) → Q b → Q (after_pause b)
unfolding after_pause
pause_cases b Q x y =
    cases Q (eqb (word b state) running) x (cases Q (eqb (word b transmit_mode) immediate) (cases Q (eqb (word b state) idle) x y) y)

pub pause_keeps : {b : List ℕ} → Usable b → Leaves b (after_pause b)
pause_keeps {b} u = pause_cases b (Leaves b) (stored-state (unchanged u) paused (omega arith)) (unchanged u)

pub pause_fifo : (b : List ℕ) → fifo transmit_offsets (after_pause b) ≡ fifo transmit_offsets b
pause_fifo b = pause_cases b (λ c. fifo transmit_offsets c ≡ fifo transmit_offsets b) (state_fifo b paused) refl

-- ---- a step

-- what a step from b sends as its output o, where that is a word of the FIFO: the oldest, as the parity setting has it, D31 aside the same
pub record Sends (b : List ℕ) (o : Output) : Type 0 where
  pub some : 0 < word b transmit_level
  pub output : o ≡ FifoWord (as_sent (word b parity) (oldest_word b)) (word b rate)
  pub oldest : (fifo transmit_offsets b).held ≡ (oldest_word b ∷ []) ∷ drop 1 (fifo transmit_offsets b).held
  pub aside : as_sent (word b parity) (oldest_word b) % 2 ^ 31 ≡ oldest_word b % 2 ^ 31

-- what holds of a step from b to c with the output o
record Steps (b : List ℕ) (o : Output) (c : List ℕ) : Type 0 where
  leaves : Leaves b c
  transmit : fifo transmit_offsets c ≡ cond (is_fifo_word o) (gives counted (fifo transmit_offsets b)) (fifo transmit_offsets b)
  sends : is_fifo_word o ≡ true → Sends b o

-- a step that gives no word of the FIFO and leaves it
none_sent : {b c : List ℕ} {o : Output} → is_fifo_word o ≡ false → Leaves b c → fifo transmit_offsets c ≡ fifo transmit_offsets b → Steps b o c
none_sent n l e = record { leaves = l; transmit = rw n e; sends = λ s. absurd (let z : ◌≡◌ {A = ℕ} 0 1 = cc in omega arith) }

-- a fact of both cases of a test, of an output and a block
cases₂ : (Q : Output → List ℕ → Type 0) (t : Bool) {o p : Output} {c d : List ℕ} → Q o c → Q p d → Q (cond t o p) (cond t c d)
cases₂ Q true x y = x
cases₂ Q false x y = y

module _ {b : List ℕ} (u : Usable b) where
  quiet : Steps b Quiet b
  quiet = none_sent refl (unchanged u) refl

  taken : word b transmit_level ≢ 0 → Steps b (FifoWord (as_sent (word b parity) (oldest_word b)) (word b rate)) (entry_taken transmit_offsets b)
  unfolding leasts greatests words
  taken h =
      let some : 0 < word b transmit_level = omega arith in
      let position : ℕ = next slots (word b transmit_position) in
      let fits : position < slots = mod-lt (word b transmit_position + 1) (omega arith) in
      let held = take-oldest transmit_ring b (word b transmit_position) (word b transmit_level) some in
      record {
        leaves =
            stored_behind
            (stored (stored_level (unchanged u) (word b transmit_level - 1) (omega (arith, at_most u transmit_level (omega arith))))
            transmit_position position (omega arith) (λ _. in_range_lem transmit_position position zero-le (omega arith)))
            transmit_sent _ (omega arith) (omega arith);
        transmit = take_law transmit_offsets transmit_proper b u.whole some;
        sends = λ s. record {
          some = some;
          output = refl;
          oldest = held ∙ ap (λ l. (oldest_word b ∷ []) ∷ drop 1 l) (sym held);
          aside = sent_keeps (word b parity) (oldest_word b);
        };
      }

  send_steps : Steps b (send_output b) (send_after b)
  unfolding send_output send_after
  send_steps = go (eqb (word b transmit_level) 0) refl
    where
      go : (t : Bool) → eqb (word b transmit_level) 0 ≡ t
          → Steps b (cond t Quiet (FifoWord (as_sent (word b parity) (oldest_word b)) (word b rate))) (cond t b (entry_taken transmit_offsets b))
      go true e = quiet
      go false e = taken (eqb-false (word b transmit_level) 0 e)

  immediate_steps : Steps b (immediate_output b) (immediate_after b)
  unfolding immediate_output immediate_after
  immediate_steps = cases₂ (Steps b) (eqb (word b state) paused) quiet send_steps

  triggered_steps : Steps b (triggered_output b) (triggered_after b)
  unfolding triggered_output triggered_after send_output
  triggered_steps = cases₂ (Steps b) (eqb (word b state) running) (go (eqb (word b transmit_level) 0) refl) quiet
    where
      go : (t : Bool) → eqb (word b transmit_level) 0 ≡ t → Steps b (send_output b) (cond t (set b state idle) (send_after b))
      go true e = rw e (none_sent refl (stored-state (unchanged u) idle (omega arith)) (state_fifo b idle))
      go false e = send_steps

  scheduled_steps : Steps b (scheduled_outcome b).output (scheduled_after b)
  unfolding scheduled_outcome leasts greatests
  scheduled_steps =
      none_sent (no_fifo_word (place b) (word b parity) (command b) (message b))
      (stored_message_mark (stored_mark (stored_address (stored-state (unchanged u) _ (step_state (place b) (word b parity) (command b) (message b) (at_most u state (omega arith))))
      _ (step_address (place b) (word b parity) (command b) (message b) (at_most u address (omega arith))))
      _ (step_waiting (place b) (word b parity) (command b) (message b) (at_most u async_mark (omega arith))))
      _ (step_mark (place b) (word b parity) (command b) (message b) (at_most u message_mark (omega arith))))
      (store_apart transmit_offsets _ message_mark _ (omega arith) (omega arith) ∙ store_apart transmit_offsets _ async_mark _ (omega arith) (omega arith) ∙ store_apart transmit_offsets _ address _ (omega arith) (omega arith)
      ∙ state_fifo b _)

  steps : Steps b (step_output b) (step_after b)
  unfolding step_output step_after
  steps =
      cases₂ (Steps b) (eqb (word b transmitter) 0) quiet
      (cases₂ (Steps b) (eqb (word b transmit_mode) immediate) immediate_steps
      (cases₂ (Steps b) (eqb (word b transmit_mode) triggered) triggered_steps scheduled_steps))

  pub step_keeps : Leaves b (step_after b)
  step_keeps = steps.leaves

  -- the oldest is taken out where the output is a word of the FIFO; else the FIFO stays
  pub step_fifo : fifo transmit_offsets (step_after b) ≡ cond (is_fifo_word (step_output b)) (gives counted (fifo transmit_offsets b)) (fifo transmit_offsets b)
  step_fifo = steps.transmit

  pub step_sends : is_fifo_word (step_output b) ≡ true → Sends b (step_output b)
  step_sends s = steps.sends s

-- in scheduled mode a step gives no word of the FIFO
pub scheduled_gives_none : (b : List ℕ) → eqb (word b transmit_mode) scheduled ≡ true → is_fifo_word (step_output b) ≡ false
unfolding step_output scheduled_outcome
scheduled_gives_none b e =
    rw (eqb-true (word b transmit_mode) scheduled e)
    (cases (λ (o : Output). is_fifo_word o ≡ false) (eqb (word b transmitter) 0) refl
    (no_fifo_word (place b) (word b parity) (command b) (message b)))

-- outside scheduled mode a step gives a word of the FIFO or is quiet
abbrev QuietElse : Output → Type 0
QuietElse o = is_fifo_word o ≡ false → o ≡ Quiet

send_quiet : (b : List ℕ) → QuietElse (send_output b)
unfolding send_output
send_quiet b = cases QuietElse (eqb (word b transmit_level) 0) (λ e. refl) (λ e. absurd (true≢false e))

pub unscheduled_quiet : {b : List ℕ} → Usable b → eqb (word b transmit_mode) scheduled ≡ false → QuietElse (step_output b)
unfolding step_output immediate_output triggered_output leasts greatests
unscheduled_quiet {b} u n =
    cases QuietElse (eqb (word b transmitter) 0) (λ e. refl) (go (eqb (word b transmit_mode) immediate) (eqb (word b transmit_mode) triggered) refl refl)
  where
    go : (p q : Bool) → eqb (word b transmit_mode) immediate ≡ p → eqb (word b transmit_mode) triggered ≡ q
        → QuietElse (cond p (immediate_output b) (cond q (triggered_output b) (scheduled_outcome b).output))
    go true q x y = cases QuietElse (eqb (word b state) paused) (λ e. refl) (send_quiet b)
    go false true x y = cases QuietElse (eqb (word b state) running) (send_quiet b) (λ e. refl)
    go false false x y =
        absurd
        (omega
        (arith, at_most u transmit_mode (omega arith), eqb-false (word b transmit_mode) immediate x, eqb-false (word b transmit_mode) triggered y, eqb-false (word b transmit_mode) scheduled n))

-- with the transmitter off every step is quiet
pub off_quiet : (b : List ℕ) → eqb (word b transmitter) 0 ≡ true → step_output b ≡ Quiet
unfolding step_output
off_quiet b e = rw e refl
