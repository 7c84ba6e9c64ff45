-- Every answer to a call on a sound channel is what a history tells that keeps what the channel's block holds.
-- Assumes nothing.
use mathlib.Core.Path.{◌≡◌, refl, sym, ap, ◌∙◌}
use mathlib.Core.Bool.{Bool, true, false, cond, true≢false}
use mathlib.Core.List.{List}
use Prim.Native.Nat.{ℕ, ◌<◌}
use native.Mathlib.Omega.{arith}
use borrow.Author.Tests.{eqb-false}
use lib.Dec.{eqb}
use lib.ListN.{length}
use lib.Seq.{get_or-take}
use Rattle.word.specs.Word.{index}
use Rattle.word.specs.Parity.{as_sent}
use Rattle.ring.proofs.Laws.{length-held}
use Rattle.block.specs.Layout.{word, settings, receiver, transmitter, parity, matching, receive_mode, fifo_kind, transmit_mode, receive_size, rate, receive_level}
use Rattle.block.specs.Modes.{fifo_mode, scheduled}
use Rattle.block.specs.Ranges.{Usable}
use Rattle.settings.specs.Settings.{setting_refusal}
use Rattle.fifos.specs.Fifos.{Offsets, receive_offsets, transmit_offsets, fifo}
use Rattle.memories.specs.Matching.{matched}
use Rattle.fifos.specs.Mailboxes.{is_new}
use Rattle.settings.specs.Kept.{kept_of}
use Rattle.schedule.specs.Output.{is_fifo_word}
use Rattle.schedule.specs.declared.Output.TheVariants.{FifoWord}
use Rattle.arrival.specs.Arrival.{filtered, listed, arrival}
use Rattle.receive_reads.specs.Reading.{shown}
use Rattle.fifos.proofs.Bounds.{bounds}
use Rattle.receive.proofs.Stores.{full}
use Rattle.receive.proofs.Laws.{read_answer_lem}
use Rattle.transmit.specs.Step.{oldest_word, step_output}
use Rattle.transmit.proofs.Laws.{Sends, step_sends, scheduled_gives_none, unscheduled_quiet, off_quiet}
use Rattle.channel_calls.specs.Answers.{setting_number, answer_unless}
use Rattle.channel_calls.specs.Refusals.{receive_call_refusal, channel_refusal}
use Rattle.channel_calls.proofs.Accepted.{setting_in}
use Rattle.channel_calls.proofs.Exact.{read_refusal, write_refusal_lem, trigger_refusal, async_refusal}
use Rattle.channel_calls.specs.declared.calls.SettingCall.TheVariants.{WriteSetting, ReadSetting}
use Rattle.channel_calls.specs.declared.calls.ReadCall.TheVariants.{ReadCounts, ReadReceiveLevel, ReadTransmitLevel, ReadAsync}
use Rattle.channel_calls.specs.declared.calls.ReceiveCall.TheVariants.{Arrive, ReadFifo, ReadMailbox}
use Rattle.channel_calls.specs.declared.calls.TransmitCall.TheVariants.{WriteFifo, WriteAsync, Trigger, Pause, Stop, Step}
use Rattle.channel_calls.specs.declared.calls.ChannelCall.{ChannelCall}
use Rattle.channel_calls.specs.declared.calls.ChannelCall.TheVariants.{Settings, Memories, Status, Tests, Reads, Receive, Transmit}
use Rattle.channel_calls.specs.Answer.{Answer, Refused, Value, Arrived, Stepped}
use Rattle.channel_groups.specs.Groups.{entry_answer, receive_answer}
use Rattle.channel_groups.specs.Groups.{did_answer}
use Rattle.channel_groups.specs.Told.{oldest_of, outcome_by, ArrivalTold, WordTold, StepTold, Told}

-- a FIFO holds as many entries as its level says
level_held : (p : Offsets) (b : List ℕ) → length (fifo p b).held ≡ word b p.level
level_held p b = length-held p.ring b (word b p.position) (word b p.level)

-- a setting that is kept is the block's
setting_kept : (b : List ℕ) (i : ℕ) → i < settings → word (kept_of b).settings i ≡ word b i
setting_kept b i h = get_or-take settings b i 0 h

-- filtered with match on alone
by_match : (w : ℕ) (b : List ℕ) → filtered w b ≡ true → eqb (word b matching) 0 ≡ false
unfolding filtered
by_match w b e = go (eqb (word b matching) 0) e
  where
    go : (t : Bool) → cond t false (eqb (matched (index w) b) 0) ≡ true → t ≡ false
    go true z = absurd (true≢false (sym z))
    go false z = refl

-- already listed in mailbox mode alone
by_mode : (w : ℕ) (b : List ℕ) → listed w b ≡ true → eqb (word b receive_mode) fifo_mode ≡ false
unfolding listed
by_mode w b e = go (eqb (word b receive_mode) fifo_mode) e
  where
    go : (t : Bool) → cond t false (is_new (index w) b) ≡ true → t ≡ false
    go true z = absurd (true≢false (sym z))
    go false z = refl

module _ (b : List ℕ) where
  outcome_is : (w : ℕ) → arrival w b ≡ outcome_by (kept_of b) (filtered w b) (listed w b)
  unfolding arrival
  outcome_is w =
      rw (setting_kept b receiver (omega arith), setting_kept b receive_size (omega arith), setting_kept b fifo_kind (omega arith), level_held receive_offsets b)
      refl

  arrival-told : Usable b → (w : ℕ) → ArrivalTold (kept_of b) (Arrived (arrival w b))
  arrival-told u w =
      record {
        filtered = filtered w b;
        by_match = λ e. rw (setting_kept b matching (omega arith)) (by_match w b e);
        listed = listed w b;
        by_mode = λ e. rw (setting_kept b receive_mode (omega arith)) (by_mode w b e);
        answer = ap Arrived (outcome_is w);
        some = λ e. omega (arith, level_held receive_offsets b, full w b (outcome_is w ∙ e), bounds u);
      }

  -- "receive FIFO read with none held": else the oldest entry, where the two low bits of its status are all of it
  read_told : shown (oldest_of (fifo receive_offsets b)) ≡ oldest_of (fifo receive_offsets b)
      → answer_unless (receive_call_refusal ReadFifo b) (receive_answer ReadFifo b)
      ≡ answer_unless (cond (eqb (length (fifo receive_offsets b).held) 0) 7 0) (entry_answer (oldest_of (fifo receive_offsets b)))
  read_told r = rw (read_refusal b, level_held receive_offsets b) (go (eqb (word b receive_level) 0) refl)
    where
      go : (t : Bool) → eqb (word b receive_level) 0 ≡ t
          → answer_unless (cond t 7 0) (receive_answer ReadFifo b) ≡ answer_unless (cond t 7 0) (entry_answer (oldest_of (fifo receive_offsets b)))
      go true e = refl
      go false e =
          let some : 0 < word b receive_level = omega (arith, eqb-false (word b receive_level) 0 e) in
          ap entry_answer (read_answer_lem b some ∙ r)

  word-told : Usable b → (w gap : ℕ) → step_output b ≡ FifoWord w gap → WordTold (kept_of b) w gap
  word-told u w gap o =
      let s : Sends b (step_output b) = step_sends u (ap is_fifo_word o) in
      let w-is : w ≡ as_sent (word b parity) (oldest_word b) = cc s.output in
      let gap_is : gap ≡ word b rate = cc s.output in
      record {
        mode = rw (setting_kept b transmit_mode (omega arith)) (go (eqb (word b transmit_mode) scheduled) refl (ap is_fifo_word o));
        oldest = oldest_word b;
        first = s.oldest;
        is_word = rw (setting_kept b parity (omega arith)) w-is;
        is_gap = rw (setting_kept b rate (omega arith)) gap_is;
      }
    where
      go : (t : Bool) → eqb (word b transmit_mode) scheduled ≡ t → is_fifo_word (step_output b) ≡ true → t ≡ false
      go true p q = absurd (true≢false (sym q ∙ scheduled_gives_none b p))
      go false p q = refl

  step_told : Usable b → StepTold (kept_of b) (Stepped (step_output b))
  step_told u =
      record {
        output = step_output b;
        answer = refl;
        off = λ e. off_quiet b (rw (setting_kept b transmitter (omega arith)) at e);
        quiet = λ e. unscheduled_quiet u (rw (setting_kept b transmit_mode (omega arith)) at e);
        sends = word-told u;
      }

  -- "Async is refused with 5 outside scheduled mode"
  async_told : (w : ℕ) (a : Answer) → Usable b → eqb (word (kept_of b).settings transmit_mode) scheduled ≡ false
      → answer_unless (channel_refusal (Transmit (WriteAsync w)) b) a ≡ Refused 5
  async_told w a u e = rw (async_refusal w u (rw (setting_kept b transmit_mode (omega arith)) at e)) refl

  pub told : (k : ChannelCall) → Usable b → shown (oldest_of (fifo receive_offsets b)) ≡ oldest_of (fifo receive_offsets b)
      → Told (kept_of b) k (answer_unless (channel_refusal k b) (did_answer k b))
  unfolding setting_refusal
  told (Settings (WriteSetting s v)) u r = rw (level_held receive_offsets b) refl
  told (Settings (ReadSetting s)) u r = ap Value (sym (setting_kept b (setting_number s) (setting_in s)))
  told (Memories k) u r = tt
  told (Status k) u r = tt
  told (Tests k) u r = refl
  told (Reads ReadCounts) u r = refl
  told (Reads ReadReceiveLevel) u r = ap Value (sym (level_held receive_offsets b))
  told (Reads ReadTransmitLevel) u r = ap Value (sym (level_held transmit_offsets b))
  told (Reads ReadAsync) u r = tt
  told (Receive (Arrive w)) u r = arrival-told u w
  told (Receive ReadFifo) u r = read_told r
  told (Receive (ReadMailbox i)) u r = tt
  told (Transmit (WriteFifo w)) u r = rw (write_refusal_lem w u, level_held transmit_offsets b) refl
  told (Transmit (WriteAsync w)) u r = async_told w _ u
  told (Transmit Trigger) u r = rw (trigger_refusal b, setting_kept b transmitter (omega arith)) refl
  told (Transmit Pause) u r = refl
  told (Transmit Stop) u r = refl
  told (Transmit Step) u r = step_told u
