-- A step of the transmitter keeps the schedule's words apart; a word of the FIFO leaves the message mark.
-- Assumes nothing.
use Rattle.std.proofs.Common.{◌≡◌, ℕ, Bool, true, false, cond, eqb, List, ◌++◌, set, sym, refl, subst}
use Rattle.block.specs.Layout.{word, transmitter, parity, transmit_level, transmit_mode, state, message_mark}
use Rattle.block.specs.Ranges.{Usable}
use Rattle.fifos.specs.Fifos.{transmit_offsets, entry_taken}
use Rattle.block.specs.Modes.{immediate, triggered}
use Rattle.block.proofs.Words.{words}
use Rattle.schedule.specs.Codes.{idle, running, paused}
use Rattle.schedule.specs.Spacing.{Item, on_line}
use Rattle.schedule.specs.declared.Output.{Output}
use Rattle.schedule.specs.declared.Place.{Place}
use Rattle.schedule.proofs.Spacing.{Apart}
use Rattle.schedule.proofs.Spacing as schedule-spacing
use Rattle.transmit.specs.Step.{send_output, send_after, immediate_output, immediate_after, triggered_output, triggered_after, place, command, message, placed, scheduled_outcome, scheduled_after, step_output, step_after}

module _ {b : List ℕ} (u : Usable b) (line : List Item) (a : Apart (word b message_mark) line) where
  -- what holds of a step with the output o to the block c
  abbrev Keeps : Output → List ℕ → Type 0
  Keeps o c = Apart (word c message_mark) (on_line o ++ line)

  by : (t : Bool) (o p : Output) (c d : List ℕ) → Keeps o c → Keeps p d → Keeps (cond t o p) (cond t c d)
  by true o p c d x y = x
  by false o p c d x y = y

  -- a block with the same mark
  same : (c : List ℕ) → word c message_mark ≡ word b message_mark → Apart (word c message_mark) line
  same c e = subst (λ (k : ℕ). Apart k line) (sym e) a

  send_apart : Keeps (send_output b) (send_after b)
  unfolding send_output send_after
  send_apart = by (eqb (word b transmit_level) 0) _ _ _ _ a (same (entry_taken transmit_offsets b) (search words))

  immediate_apart : Keeps (immediate_output b) (immediate_after b)
  unfolding immediate_output immediate_after
  immediate_apart = by (eqb (word b state) paused) _ _ _ _ a send_apart

  triggered_apart : Keeps (triggered_output b) (triggered_after b)
  unfolding triggered_output triggered_after send_output
  triggered_apart = by (eqb (word b state) running) _ _ _ _ (go (eqb (word b transmit_level) 0) refl) a
    where
      go : (t : Bool) → eqb (word b transmit_level) 0 ≡ t → Keeps (send_output b) (cond t (set b state idle) (send_after b))
      go true e = rw e (same (set b state idle) (search words))
      go false e = send_apart

  placed_mark : (p : Place) → word (placed p b) message_mark ≡ p.mark
  placed_mark p = let w = u.whole in search words

  scheduled_apart : Keeps (scheduled_outcome b).output (scheduled_after b)
  unfolding scheduled_outcome
  scheduled_apart =
      rw (placed_mark (scheduled_outcome b).place) (schedule-spacing.step_apart line (place b) a (word b parity) (command b) (message b))

  pub step_apart : Keeps (step_output b) (step_after b)
  unfolding step_output step_after
  step_apart =
      by (eqb (word b transmitter) 0) _ _ _ _ a
      (by (eqb (word b transmit_mode) immediate) _ _ _ _ immediate_apart
      (by (eqb (word b transmit_mode) triggered) _ _ _ _ triggered_apart scheduled_apart))
