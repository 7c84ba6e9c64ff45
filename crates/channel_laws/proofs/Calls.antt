-- What every accepted call on a channel leaves.
-- Assumes nothing.
use mathlib.Core.Path.{◌≡◌, refl, ◌∙◌}
use mathlib.Core.Bool.{Bool, true, false, cond, true≢false}
use mathlib.Core.List.{List, [], ◌∷◌}
use Prim.Native.Nat.{ℕ, ◌%◌, ◌+◌, ◌≤◌, ◌<◌, zero-le}
use native.Mathlib.Omega.{arith}
use lib.Dec.{eqb}
use lib.ListN.{take, set}
use Rattle.ring.specs.Ring.{slots, last_slot}
use Rattle.block.specs.Layout.{word, settings, receive_level, receive_overwritten, transmit_mode, transmit_level, latch, enable, level_mask}
use Rattle.block.specs.Ranges.{all_conditions, leasts, greatests, Usable}
use Rattle.fifos.specs.Clearing.{stopped, unmarked}
use Rattle.block.specs.Modes.{scheduled}
use Rattle.fifos.specs.Counts.{counted}
use Rattle.memories.specs.Matching.{match_at}
use Rattle.status.specs.Status.{ruled, fault_weight}
use Rattle.restart.specs.Tests.{fifos_cleared, tested}
use Rattle.fifos.specs.Fifos.{receive_offsets, transmit_offsets, Fifo, fifo, gives, Change, Stays, Adds, Takes, Clears, changed, overwritten_after}
use Rattle.block.proofs.Sound.{in_range_lem}
use Rattle.settings.proofs.Keeps.{stop_keeps, settable, write_keeps}
use Rattle.status.proofs.Keeps.{rule_keeps, clear_keeps}
use Rattle.restart.proofs.Restarts.{test_keeps}
use Rattle.arrival.specs.Arrival.{arrival}
use Rattle.receive.specs.Entries.{entry_of}
use Rattle.fifos.specs.Mailboxes.{mailbox_at}
use Rattle.receive.specs.Fates.{arrival_change}
use Rattle.receive.proofs.Laws.{Leaves as ReceiveLeaves, entry_by_settings, arrive_keeps, arrive_leaves, arrive_fifo, arrive_overwritten, read_keeps, read_leaves, read_fifo, read_overwritten}
use Rattle.transmit.proofs.Laws.{Leaves as TransmitLeaves, write_keeps as fifo-write-keeps, write_accepts, async_keeps, async_fifo, trigger_keeps, trigger_fifo, pause_keeps, pause_fifo, step_keeps, step_fifo, scheduled_gives_none}
use Rattle.schedule.specs.Output.{is_fifo_word}
use Rattle.schedule.specs.declared.Output.{Output}
use Rattle.schedule.specs.declared.Output.TheVariants.{Quiet, FifoWord, Message, Null, Async, Reserved, NullMessage}
use Rattle.transmit.specs.Step.{step_output}
use Rattle.channel_calls.specs.Answers.{setting_number}
use Rattle.channel_calls.specs.Refusals.{setting_call_refusal, status_call_refusal, receive_call_refusal, transmit_call_refusal, channel_refusal}
use Rattle.channel_groups.specs.Groups.{setting_after, memory_after, status_after, test_after, receive_answer, receive_after, transmit_answer, transmit_after}
use Rattle.channel.specs.Channel.{block_after, block_answer}
use Rattle.channel_calls.proofs.Accepted.{not_above, not_below, setting_in}
use Rattle.channel_calls.specs.declared.calls.SettingCall.{SettingCall}
use Rattle.channel_calls.specs.declared.calls.SettingCall.TheVariants.{WriteSetting, ReadSetting}
use Rattle.channel_calls.specs.declared.calls.MemoryCall.{MemoryCall}
use Rattle.channel_calls.specs.declared.calls.MemoryCall.TheVariants.{WriteMatch, ReadMatch, WriteSchedule, ReadSchedule, WriteMessage, ReadMessage}
use Rattle.channel_calls.specs.declared.calls.StatusCall.{StatusCall}
use Rattle.channel_calls.specs.declared.calls.StatusCall.TheVariants.{ReadStatus, ClearLatch, WriteEnable, ReadEnable, WriteLevelMask, ReadLevelMask, ReadPending}
use Rattle.channel_calls.specs.declared.calls.TestCall.{TestCall}
use Rattle.channel_calls.specs.declared.calls.TestCall.TheVariants.{Sample, ResetTest, InitiateTest}
use Rattle.channel_calls.specs.declared.calls.ReceiveCall.{ReceiveCall}
use Rattle.channel_calls.specs.declared.calls.ReceiveCall.TheVariants.{Arrive, ReadFifo, ReadMailbox}
use Rattle.channel_calls.specs.declared.calls.TransmitCall.{TransmitCall}
use Rattle.channel_calls.specs.declared.calls.TransmitCall.TheVariants.{WriteFifo, WriteAsync, Trigger, Pause, Stop, Step}
use Rattle.channel_calls.specs.declared.calls.ChannelCall.{ChannelCall}
use Rattle.channel_calls.specs.declared.calls.ChannelCall.TheVariants.{Settings, Memories, Status, Tests, Reads, Receive, Transmit}
use Rattle.channel_calls.specs.declared.calls.Given.{Given}
use Rattle.channel_calls.specs.Answer.{Answer}
use Rattle.settings.specs.Kept.{Kept, kept_of, kept_by, effect_of}
use Rattle.channel_laws.specs.Effects.{read_change, output_change, effect}
use Rattle.channel_laws.proofs.Holds.{Holds, here, parts, kept_setting, store_kept, stored, same-settings}
use Rattle.channel_laws.proofs.Changes.{stop_kept, unmark_kept, both_clear_kept, write_kept}

-- the rule stores the latch alone
ruled_holds : {c : List ℕ} {h : Kept} → Holds c h → (before holds : ℕ) → Holds (ruled before holds c) h
ruled_holds {c} k before holds =
    record { usable = rule_keeps k.usable before holds; is = store_kept c latch _ (omega arith) ∙ k.is }

-- ---- settings

setting_left : (stamp : ℕ) (k : SettingCall) (a : Answer) {b : List ℕ} → Usable b → setting_call_refusal k b ≡ 0
    → Holds (setting_after k b) (kept_by counted (effect stamp (Settings k) a (take settings b)) (kept_of b))
setting_left stamp (WriteSetting s v) a {b} u e =
    record {
      usable = write_keeps u (setting_number s) v (setting_in s) (settable (setting_number s) v b e);
      is = write_kept b v u.whole (setting_number s) (setting_in s);
    }
setting_left stamp (ReadSetting s) a u e = here u

-- ---- memories, masks and tests

-- a store behind both rings
behind : {b : List ℕ} → Usable b → (i v : ℕ) → match_at 0 ≤ i → Holds (set b i v) (kept_of b)
behind u i v l = stored (here u) i v (omega arith) (λ h. absurd (omega arith))

memory_left : (k : MemoryCall) {b : List ℕ} → Usable b → Holds (memory_after k b) (kept_of b)
memory_left (WriteMatch i v) u = behind u (match_at i) _ (omega arith)
memory_left (ReadMatch i) u = here u
memory_left (WriteSchedule a v) u = behind u _ v (omega arith)
memory_left (ReadSchedule a) u = here u
memory_left (WriteMessage a v) u = behind u _ v (omega arith)
memory_left (ReadMessage a) u = here u

status_left : (k : StatusCall) {b : List ℕ} → Usable b → status_call_refusal k ≡ 0 → Holds (status_after k b) (kept_of b)
unfolding leasts greatests
status_left ReadStatus u e = here u
status_left (ClearLatch m) {b} u e = record { usable = clear_keeps u m; is = store_kept b latch _ (omega arith) }
status_left (WriteEnable m) u e = stored (here u) enable m (omega arith) (λ _. in_range_lem enable m zero-le (not_above all_conditions m 3 e))
status_left ReadEnable u e = here u
status_left (WriteLevelMask m) u e = stored (here u) level_mask m (omega arith) (λ _. in_range_lem level_mask m zero-le (not_above all_conditions m 3 e))
status_left ReadLevelMask u e = here u
status_left ReadPending u e = here u

test_left : (stamp : ℕ) (k : TestCall) (a : Answer) {b : List ℕ} → Usable b → Holds (test_after k b) (kept_by counted (effect stamp (Tests k) a (take settings b)) (kept_of b))
unfolding tested
test_left stamp (Sample r) a u = here u
test_left stamp ResetTest a u = here u
test_left stamp (InitiateTest r) a {b} u = record { usable = test_keeps u r; is = go (eqb r 0) }
  where
    stop : kept_of (unmarked (stopped (fifos_cleared b))) ≡ kept_by counted (effect_of (take settings b) Clears Clears) (kept_of b)
    stop = unmark_kept (stopped (fifos_cleared b)) ∙ stop_kept (fifos_cleared b) ∙ both_clear_kept b u.whole

    go : (t : Bool) → kept_of (cond t (unmarked (stopped (fifos_cleared b))) (set (unmarked (stopped (fifos_cleared b))) latch (word b latch % fault_weight + fault_weight)))
        ≡ kept_by counted (effect_of (take settings b) Clears Clears) (kept_of b)
    go true = stop
    go false = store_kept (unmarked (stopped (fifos_cleared b))) latch _ (omega arith) ∙ stop

-- ---- receiving

received : {b c : List ℕ} (r : Change) → Usable b → Usable c → ReceiveLeaves b c → fifo receive_offsets c ≡ changed counted r (fifo receive_offsets b)
    → word c receive_overwritten ≡ overwritten_after counted r (word b receive_overwritten) → Holds c (kept_by counted (effect_of (take settings b) r Stays) (kept_of b))
received {b} {c} r u v l p q = record { usable = v; is = parts (same-settings b c u.whole v.whole l.setting) p q l.transmit }

receive_left : (stamp : ℕ) (k : ReceiveCall) {b : List ℕ} → Usable b → receive_call_refusal k b ≡ 0
    → Holds (receive_after stamp k b) (kept_by counted (effect stamp (Receive k) (receive_answer k b) (take settings b)) (kept_of b))
receive_left stamp (Arrive w) {b} u e =
    rw entry (received (arrival_change (arrival w b) (entry_of stamp w b)) u (arrive_keeps u stamp w) (arrive_leaves u stamp w) (arrive_fifo u stamp w) (arrive_overwritten u stamp w))
  where
    entry : entry_of stamp w (take settings b) ≡ entry_of stamp w b
    entry = entry_by_settings stamp w b (take settings b) (kept_setting b)
receive_left stamp ReadFifo {b} u e =
    received (read_change (receive_answer ReadFifo b)) u (read_keeps u) (read_leaves b) (read_fifo u (not_below 1 (word b receive_level) 6 e)) (read_overwritten b)
receive_left stamp (ReadMailbox i) u e = stored (here u) (mailbox_at i) _ (omega arith) (λ h. absurd (omega arith))

-- ---- the transmitter

transmitted : {b c : List ℕ} (t : Change) → Usable b → TransmitLeaves b c → fifo transmit_offsets c ≡ changed counted t (fifo transmit_offsets b)
    → Holds c (kept_by counted (effect_of (take settings b) Stays t) (kept_of b))
transmitted {b} {c} t u l p =
    record { usable = l.usable; is = parts (same-settings b c u.whole l.usable.whole l.settings) l.receive l.overwritten p }

-- "Immediate or triggered step that gives a word": no other step gives one
step_change_lem : (mode : ℕ) (o : Output) (f : Fifo) → (eqb mode scheduled ≡ true → is_fifo_word o ≡ false)
    → cond (is_fifo_word o) (gives counted f) f ≡ changed counted (output_change mode o) f
step_change_lem mode Quiet f h = refl
step_change_lem mode (FifoWord w gap) f h = go (eqb mode scheduled) h
  where
    go : (t : Bool) → (t ≡ true → true ≡ false) → gives counted f ≡ changed counted (cond t Stays (Takes (w ∷ []))) f
    go true n = absurd (true≢false (n refl))
    go false n = refl
step_change_lem mode (Message w) f h = refl
step_change_lem mode (Null g) f h = refl
step_change_lem mode (Async w rest) f h = refl
step_change_lem mode (Reserved at) f h = refl
step_change_lem mode (NullMessage w) f h = refl

transmit_left : (stamp : ℕ) (k : TransmitCall) {b : List ℕ} → Usable b → transmit_call_refusal k b ≡ 0
    → Holds (transmit_after k b) (kept_by counted (effect stamp (Transmit k) (transmit_answer k b) (take settings b)) (kept_of b))
transmit_left stamp (WriteFifo w) {b} u e =
    let room : word b transmit_level < slots = omega (arith, not_above last_slot (word b transmit_level) 5 e) in
    transmitted (Adds (w ∷ [])) u (fifo-write-keeps u w room) (write_accepts u w room)
transmit_left stamp (WriteAsync w) {b} u e = transmitted Stays u (async_keeps u w) (async_fifo b w)
transmit_left stamp Trigger {b} u e = transmitted Stays u (trigger_keeps u) (trigger_fifo b)
transmit_left stamp Pause {b} u e = transmitted Stays u (pause_keeps u) (pause_fifo b)
transmit_left stamp Stop {b} u e = record { usable = stop_keeps u; is = stop_kept b }
transmit_left stamp Step {b} u e =
    rw (kept_setting b transmit_mode (omega arith))
    (transmitted (output_change (word b transmit_mode) (step_output b)) u (step_keeps u)
    (step_fifo u ∙ step_change_lem (word b transmit_mode) (step_output b) (fifo transmit_offsets b) (scheduled_gives_none b)))

-- ---- every call

pub left : (g : Given) (k : ChannelCall) {b : List ℕ} → Usable b → channel_refusal k b ≡ 0
    → Holds (block_after g k b) (kept_by counted (effect g.stamp k (block_answer g k b) (take settings b)) (kept_of b))
left g (Settings k) {b} u e = ruled_holds (setting_left g.stamp k (block_answer g (Settings k) b) u e) _ _
left g (Memories k) u e = ruled_holds (memory_left k u) _ _
left g (Status k) u e = ruled_holds (status_left k u e) _ _
left g (Tests k) {b} u e = ruled_holds (test_left g.stamp k (block_answer g (Tests k) b) u) _ _
left g (Reads k) u e = ruled_holds (here u) _ _
left g (Receive k) u e = ruled_holds (receive_left g.stamp k u e) _ _
left g (Transmit k) u e = ruled_holds (transmit_left g.stamp k u e) _ _
