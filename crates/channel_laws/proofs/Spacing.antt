-- Every accepted call on a channel keeps the schedule's words apart.
-- Assumes nothing.
use mathlib.Core.Path.{◌≡◌, refl, sym, subst}
use mathlib.Core.Bool.{Bool, true, false, not, cond}
use mathlib.Core.List.{List, ◌∷◌, ◌++◌}
use Prim.Native.Nat.{ℕ, ◌+◌, ◌<◌}
use native.Mathlib.Omega.{arith}
use lib.Dec.{eqb}
use lib.ListN.{take, set}
use lib.Seq.{get_or-set_other}
use Rattle.ring.specs.Ring.{slot}
use Rattle.block.specs.Layout.{word, settings, receive_mode, transmit_mode, transmitter, message_mark, state, receive_level, transmit_level, transmit_position, transmit_ring}
use Rattle.block.specs.Ranges.{Usable}
use Rattle.block.specs.Modes.{immediate}
use Rattle.settings.specs.Settings.{receive_mode_written, transmit_mode_written, transmitter_written, written}
use Rattle.memories.specs.Matching.{match_at}
use Rattle.fifos.specs.Mailboxes.{unlisted}
use Rattle.fifos.specs.Clearing.{receive_fifo_cleared, stopped, forgotten}
use Rattle.block.proofs.Words.{words}
use Rattle.fifos.proofs.Marks.{unlist_before}
use Rattle.schedule.specs.Codes.{idle, running, paused}
use Rattle.schedule.specs.Spacing.{Item, Forgotten}
use Rattle.schedule.proofs.Spacing.{Apart}
use Rattle.status.specs.Status.{ruled}
use Rattle.receive.proofs.Laws.{arrive_leaves, read_leaves}
use Rattle.transmit_controls.specs.States.{after_trigger, after_pause}
use Rattle.transmit_controls.specs.Writes.{fifo_written, async_written}
use Rattle.transmit.proofs.Spacing.{step_apart}
use Rattle.channel_calls.specs.Answers.{setting_number}
use Rattle.channel_calls.proofs.Accepted.{setting_in}
use Rattle.channel_calls.specs.declared.calls.SettingCall.TheVariants.{WriteSetting, ReadSetting}
use Rattle.channel_calls.specs.declared.calls.MemoryCall.{MemoryCall}
use Rattle.channel_calls.specs.declared.calls.MemoryCall.TheVariants.{WriteMatch, ReadMatch, WriteSchedule, ReadSchedule, WriteMessage, ReadMessage}
use Rattle.channel_calls.specs.declared.calls.StatusCall.{StatusCall}
use Rattle.channel_calls.specs.declared.calls.StatusCall.TheVariants.{ReadStatus, ClearLatch, WriteEnable, ReadEnable, WriteLevelMask, ReadLevelMask, ReadPending}
use Rattle.channel_calls.specs.declared.calls.TestCall.TheVariants.{Sample, ResetTest, InitiateTest}
use Rattle.channel_calls.specs.declared.calls.ReceiveCall.{ReceiveCall}
use Rattle.channel_calls.specs.declared.calls.ReceiveCall.TheVariants.{Arrive, ReadFifo, ReadMailbox}
use Rattle.channel_calls.specs.declared.calls.TransmitCall.TheVariants.{WriteFifo, WriteAsync, Trigger, Pause, Stop, Step}
use Rattle.channel_calls.specs.declared.calls.ChannelCall.{ChannelCall}
use Rattle.channel_calls.specs.declared.calls.ChannelCall.TheVariants.{Settings, Memories, Status, Tests, Reads, Receive, Transmit}
use Rattle.channel_calls.specs.declared.calls.Given.{Given}
use Rattle.channel_groups.specs.Groups.{memory_after, status_after, receive_after}
use Rattle.channel_groups.specs.Groups.{did_answer, did_leave}
use Rattle.channel.specs.Channel.{answer_shown, block_answer, block_after}
use Rattle.channel_laws.specs.Spacing.{setting_forgets, forgotten_if, line_of}
use Rattle.channel_laws.proofs.Holds.{kept_setting}

-- ---- lines

forgot : {m : ℕ} (n : ℕ) (line : List Item) → Apart m line → Apart n (Forgotten ∷ line)
forgot n line a = record { each = a.each; ready = λ z. tt }

-- with the mark kept, whether the call counts as one that forgets or not
maybe : (t : Bool) {m : ℕ} (line : List Item) → Apart m line → Apart m (forgotten_if t ++ line)
maybe true line a = forgot _ line a
maybe false line a = a

-- ---- what each call leaves of the mark

module _ (b : List ℕ) where
  abbrev Marked : List ℕ → Type 0
  Marked c = word c message_mark ≡ word b message_mark

  memory_mark : (k : MemoryCall) → Marked (memory_after k b)
  memory_mark (WriteMatch i v) = get_or-set_other b (match_at i) message_mark _ 0 (omega arith)
  memory_mark (ReadMatch i) = refl
  memory_mark (WriteSchedule a v) = get_or-set_other b _ message_mark v 0 (omega arith)
  memory_mark (ReadSchedule a) = refl
  memory_mark (WriteMessage a v) = get_or-set_other b _ message_mark v 0 (omega arith)
  memory_mark (ReadMessage a) = refl

  status_mark : (k : StatusCall) → Marked (status_after k b)
  status_mark ReadStatus = refl
  status_mark (ClearLatch m) = search words
  status_mark (WriteEnable m) = search words
  status_mark ReadEnable = refl
  status_mark (WriteLevelMask m) = search words
  status_mark ReadLevelMask = refl
  status_mark ReadPending = refl

  pause_mark : Marked (after_pause b)
  unfolding after_pause
  pause_mark = go (eqb (word b state) running) (eqb (word b transmit_mode) immediate) (eqb (word b state) idle)
    where
      go : (p q r : Bool) → Marked (cond p (set b state paused) (cond q (cond r (set b state paused) b) b))
      go true q r = search words
      go false true true = search words
      go false true false = refl
      go false false r = refl

  write_mark : (w : ℕ) → Marked (fifo_written w b)
  write_mark w =
      let k : ℕ = word b transmit_position + word b transmit_level in
      search (words, get_or-set_other b (slot transmit_ring k) message_mark w 0 (omega arith))

receive_mark : (stamp : ℕ) (k : ReceiveCall) {b : List ℕ} → Usable b → Marked b (receive_after stamp k b)
receive_mark stamp (Arrive w) u = (arrive_leaves u stamp w).mark
receive_mark stamp ReadFifo {b} u = (read_leaves b).mark
receive_mark stamp (ReadMailbox i) {b} u = get_or-set_other b _ message_mark _ 0 (omega arith)

-- ---- every call

module _ {b : List ℕ} (u : Usable b) (line : List Item) (a : Apart (word b message_mark) line) where
  same : (c : List ℕ) → Marked b c → Apart (word c message_mark) line
  same c e = subst (λ (k : ℕ). Apart k line) (sym e) a

  setting_apart : (s v : ℕ) → s < settings → Apart (word (written s v b) message_mark) (forgotten_if (setting_forgets s v (take settings b)) ++ line)
  unfolding written
  setting_apart s v h =
      rw (kept_setting b transmit_mode (omega arith)) (go (eqb s receive_mode) (eqb s transmit_mode) (eqb s transmitter))
    where
      receive_mode_lem : (t : Bool) → Marked b (cond t b (set (receive_fifo_cleared b) receive_mode v))
      receive_mode_lem true = refl
      receive_mode_lem false =
          let h : word (unlisted (word b receive_level) b) message_mark ≡ word b message_mark = unlist_before (word b receive_level) b message_mark (omega arith) in
          search (words, h)

      transmit_mode_lem : (t : Bool)
          → Apart (word (cond t b (set (forgotten b) transmit_mode v)) message_mark) (forgotten_if (not t) ++ line)
      transmit_mode_lem true = a
      transmit_mode_lem false = forgot _ line a

      off : (t : Bool) → Apart (word (cond t (set (forgotten b) transmitter v) (set b transmitter v)) message_mark) (forgotten_if t ++ line)
      off true = forgot _ line a
      off false = same (set b transmitter v) (search words)

      go : (p q r : Bool)
          → Apart (word (cond p (receive_mode_written v b) (cond q (transmit_mode_written v b) (cond r (transmitter_written v b) (set b s v)))) message_mark)
          (forgotten_if (cond q (not (eqb (word b transmit_mode) v)) (cond r (eqb v 0) false)) ++ line)
      go true q r = maybe (cond q (not (eqb (word b transmit_mode) v)) (cond r (eqb v 0) false)) line (same (receive_mode_written v b) (receive_mode_lem (eqb (word b receive_mode) v)))
      go false true r = transmit_mode_lem (eqb (word b transmit_mode) v)
      go false false true = off (eqb v 0)
      go false false false = same (set b s v) (get_or-set_other b s message_mark v 0 (omega arith))

  -- before the rule
  did_apart : (stamp : ℕ) (k : ChannelCall) → Apart (word (did_leave stamp k b) message_mark) (line_of k (did_answer k b) (take settings b) ++ line)
  did_apart stamp (Settings (WriteSetting s v)) = setting_apart (setting_number s) v (setting_in s)
  did_apart stamp (Settings (ReadSetting s)) = a
  did_apart stamp (Memories k) = same (memory_after k b) (memory_mark b k)
  did_apart stamp (Status k) = same (status_after k b) (status_mark b k)
  did_apart stamp (Tests (Sample r)) = a
  did_apart stamp (Tests ResetTest) = a
  did_apart stamp (Tests (InitiateTest r)) = forgot _ line a
  did_apart stamp (Reads k) = a
  did_apart stamp (Receive k) = same (receive_after stamp k b) (receive_mark stamp k u)
  did_apart stamp (Transmit (WriteFifo w)) = same (fifo_written w b) (write_mark b w)
  did_apart stamp (Transmit (WriteAsync w)) = same (async_written w b) (search words)
  did_apart stamp (Transmit Trigger) = same (after_trigger b) (search words)
  did_apart stamp (Transmit Pause) = same (after_pause b) (pause_mark b)
  did_apart stamp (Transmit Stop) = same (stopped b) (search words)
  did_apart stamp (Transmit Step) = step_apart u line a

  -- a call's line goes by what it answers before the rule
  shown-line : (k : ChannelCall) (c : List ℕ) → line_of k (answer_shown k c (did_answer k b)) (take settings b) ≡ line_of k (did_answer k b) (take settings b)
  shown-line (Settings k) c = refl
  shown-line (Memories k) c = refl
  shown-line (Status k) c = refl
  shown-line (Tests k) c = refl
  shown-line (Reads k) c = refl
  shown-line (Receive k) c = refl
  shown-line (Transmit k) c = refl

  rule_apart : (before holds : ℕ) (c : List ℕ) (l : List Item) → Apart (word c message_mark) l → Apart (word (ruled before holds c) message_mark) l
  rule_apart before holds c l h = subst (λ (m : ℕ). Apart m l) (sym (rule_mark before holds c)) h
    where
      rule_mark : (before holds : ℕ) (c : List ℕ) → word (ruled before holds c) message_mark ≡ word c message_mark
      rule_mark before holds c = search words

  pub call_apart : (g : Given) (k : ChannelCall) → Apart (word (block_after g k b) message_mark) (line_of k (block_answer g k b) (take settings b) ++ line)
  call_apart g k =
      rw (shown-line k (block_after g k b)) (rule_apart _ _ (did_leave g.stamp k b) _ (did_apart g.stamp k))
