-- The new mark of a mailbox after every accepted call on a channel, by what the call does to the index list.
-- Assumes nothing.
use mathlib.Core.Path.{◌≡◌, refl, sym, ap, ◌∙◌, subst}
use mathlib.Core.Bool.{Bool, true, false, cond}
use mathlib.Core.List.{List, []}
use Prim.Native.Nat.{ℕ, zero, suc, ◌+◌, ◌/◌, ◌%◌, ◌≤◌, ◌<◌}
use native.Mathlib.Nat.{mod-lt}
use native.Mathlib.Omega.{arith}
use borrow.Author.Tests.{eqb-true}
use lib.Dec.{eqb, ltb}
use lib.ListN.{length, get_or, take, set}
use lib.Seq.{sets, get_or-set_other}
use Rattle.word.specs.Word.{index}
use Rattle.ring.specs.Ring.{slot, slots, held}
use Rattle.ring.proofs.Words.{sets_other}
use Rattle.block.specs.Layout.{word, settings, receiver, receive_mode, receive_size, receive_level, receive_position, receive_ring, receive_overwritten, receive_accepted, receive_read, receive_cleared, transmit_level, transmit_position, transmit_sent, transmit_cleared, transmit_accepted, transmit_mode, transmitter, transmit_ring, fifo_kind, state, address, async_mark, async_word, message_mark, latch, enable, level_mask, indexes, mailboxes, match_set, Whole}
use Rattle.block.specs.Modes.{fifo_mode, immediate, triggered}
use Rattle.block.specs.Ranges.{Usable}
use Rattle.fifos.specs.Fifos.{receive_offsets, transmit_offsets, fifo, entry_appended, entry_taken, Change, Stays, Clears}
use Rattle.memories.specs.Matching.{match_at}
use Rattle.fifos.specs.Mailboxes.{mailbox_at, new_mark, is_new, unlisted}
use Rattle.fifos.specs.Clearing.{receive_fifo_cleared, stopped, unmarked, forgotten}
use Rattle.settings.specs.Factory.{factory_settings, factory_of, settings_to_factory}
use Rattle.settings.specs.Settings.{receive_mode_written, transmit_mode_written, transmitter_written, written}
use Rattle.fifos.proofs.Marks.{unlist_length, unlist_before}
use Rattle.status.specs.Status.{fault_weight}
use Rattle.restart.specs.Tests.{fifos_cleared, tested, block_reset}
use Rattle.arrival.specs.Arrival.{filtered, listed, arrival}
use Rattle.receive.specs.Entries.{entry_of, mailed}
use Rattle.receive.specs.Arrived.{overwriting, stored, arrived}
use Rattle.receive.specs.Fates.{arrival_change}
use Rattle.arrival.specs.declared.Arrival.{Arrival}
use Rattle.arrival.specs.declared.Arrival.TheVariants.{Ignored, Filtered, Appended, Dropped, Overwriting, AlreadyListed}
use Rattle.fifos.proofs.Bounds.{bounds}
use Rattle.receive.proofs.Stores.{full}
use Rattle.receive.proofs.Laws.{entry_by_settings, entry_width}
use Rattle.schedule.specs.Codes.{idle, running, paused}
use Rattle.transmit_controls.specs.States.{after_pause}
use Rattle.transmit.specs.Step.{send_after, immediate_after, triggered_after, scheduled_after, step_after}
use Rattle.channel_calls.specs.Answers.{setting_number}
use Rattle.channel_calls.proofs.Accepted.{setting_in}
use Rattle.channel_calls.specs.declared.calls.SettingCall.TheVariants.{WriteSetting, ReadSetting}
use Rattle.channel_calls.specs.declared.calls.MemoryCall.TheVariants.{WriteMatch, ReadMatch, WriteSchedule, ReadSchedule, WriteMessage, ReadMessage}
use Rattle.channel_calls.specs.declared.calls.StatusCall.TheVariants.{ReadStatus, ClearLatch, WriteEnable, ReadEnable, WriteLevelMask, ReadLevelMask, ReadPending}
use Rattle.channel_calls.specs.declared.calls.TestCall.TheVariants.{Sample, ResetTest, InitiateTest}
use Rattle.channel_calls.specs.declared.calls.ReceiveCall.TheVariants.{Arrive, ReadFifo, ReadMailbox}
use Rattle.channel_calls.specs.declared.calls.TransmitCall.TheVariants.{WriteFifo, WriteAsync, Trigger, Pause, Stop, Step}
use Rattle.channel_calls.specs.declared.calls.ChannelCall.{ChannelCall}
use Rattle.channel_calls.specs.declared.calls.ChannelCall.TheVariants.{Settings, Memories, Status, Tests, Reads, Receive, Transmit}
use Rattle.channel_calls.specs.declared.calls.Given.{Given}
use Rattle.channel_calls.specs.Answer.{Answer}
use Rattle.channel_groups.specs.Groups.{did_answer, did_leave}
use Rattle.channel.specs.Channel.{answer_shown, block_answer, block_after}
use Rattle.channel_laws.specs.Effects.{effect, setting_change}
use Rattle.channel_laws.specs.Listing.{ListedBy, names, names_any, in_fifo_mode, mark_by, reads_mailbox}
use Rattle.channel_laws.proofs.Marks.{at, among, among_held_lem, names_at, same_mark, taken_mark, unlist_mark, mail_mark, mark_set, mark_clear}
use Rattle.channel_laws.proofs.Holds.{kept_setting}
use Rattle.channel_laws.proofs.Resets.{first-zero}

-- ---- what an arrival's outcome tells of the mark

listed_by : (w : ℕ) (b : List ℕ) → ListedBy (listed w b) (arrival w b)
unfolding arrival
listed_by w b = go (eqb (word b receiver) 0) (filtered w b) (listed w b) (ltb (word b receive_level) (word b receive_size)) (eqb (word b fifo_kind) 0)
  where
    go : (off out new room bounded : Bool)
        → ListedBy new (cond off Ignored (cond out Filtered (cond new AlreadyListed (cond room Appended (cond bounded Dropped Overwriting)))))
    go true out new room bounded = tt
    go false true new room bounded = tt
    go false false true room bounded = refl
    go false false false true bounded = refl
    go false false false false true = refl
    go false false false false false = refl

listed_new : (w : ℕ) (b : List ℕ) → eqb (word b receive_mode) fifo_mode ≡ false → listed w b ≡ is_new (index w) b
unfolding listed
listed_new w b e = rw e refl

pub new_by : (w : ℕ) (b : List ℕ) → eqb (word b receive_mode) fifo_mode ≡ false → ListedBy (is_new (index w) b) (arrival w b)
new_by w b e = subst (λ (t : Bool). ListedBy t (arrival w b)) (listed_new w b e) (listed_by w b)

-- ---- stores elsewhere

module _ {i : ℕ} (h : i < indexes) where
  low : (c : List ℕ) (j v : ℕ) → j < mailboxes → is_new i (set c j v) ≡ is_new i c
  low c j v l = same_mark h c (set c j v) (get_or-set_other c j (mailbox_at i) v 0 (omega arith))

  high : (c : List ℕ) (j v : ℕ) → match_set ≤ j → is_new i (set c j v) ≡ is_new i c
  high c j v l = same_mark h c (set c j v) (get_or-set_other c j (mailbox_at i) v 0 (omega arith))

  forget_mark : (b : List ℕ) → is_new i (forgotten b) ≡ is_new i b
  forget_mark b =
      low (unmarked (stopped b)) async_mark 0 (omega arith) ∙ low (stopped b) message_mark 0 (omega arith) ∙ low (set b state 0) address 0 (omega arith)
      ∙ low b state 0 (omega arith)

  -- the receive FIFO cleared
  clear_mark : (b : List ℕ) → Whole b
      → is_new i (receive_fifo_cleared b) ≡ cond (in_fifo_mode b) (is_new i b) (cond (names_any i (fifo receive_offsets b).held) false (is_new i b))
  clear_mark b w =
      let n : ℕ = word b receive_level in
      low (set (unlisted n b) receive_cleared _) receive_level 0 (omega arith) ∙ low (unlisted n b) receive_cleared _ (omega arith) ∙ unlist_mark h n b w
      ∙ ap (λ (t : Bool). cond (in_fifo_mode b) (is_new i b) (cond t false (is_new i b))) (among_held_lem i b n (word b receive_position))

  -- an entry stored behind those held, and over the oldest
  ring_mark : (b e : List ℕ) (k : ℕ) → length e ≡ 3 → is_new i (sets b (slot receive_ring k) e) ≡ is_new i b
  ring_mark b e k long =
      let in_ring : k % slots < slots = mod-lt k (omega arith) in
      same_mark h b (sets b (slot receive_ring k) e) (sets_other b (slot receive_ring k) e (mailbox_at i) (λ l u. omega arith))

  append_mark : (b e : List ℕ) → length e ≡ 3 → is_new i (entry_appended receive_offsets b e) ≡ is_new i b
  append_mark b e long =
      let k : ℕ = word b receive_position + word b receive_level in
      low (set (sets b (slot receive_ring k) e) receive_level _) receive_accepted _ (omega arith) ∙ low (sets b (slot receive_ring k) e) receive_level _ (omega arith)
      ∙ ring_mark b e k long

  overwrite_mark : (b e : List ℕ) → length e ≡ 3 → is_new i (overwriting b e) ≡ is_new i b
  overwrite_mark b e long =
      let k : ℕ = word b receive_position + word b receive_level in
      let r : List ℕ = sets b (slot receive_ring k) e in
      low (set (set r receive_position _) receive_accepted _) receive_overwritten _ (omega arith) ∙ low (set r receive_position _) receive_accepted _ (omega arith)
      ∙ low r receive_position _ (omega arith) ∙ ring_mark b e k long

  -- ---- an arrival

  -- in mailbox mode an entry names the word's index
  pub names_entry : (stamp w : ℕ) (b : List ℕ) → in_fifo_mode b ≡ false → names i (entry_of stamp w b) ≡ eqb (index w) i
  unfolding entry_of
  names_entry stamp w b e = let m : index w % indexes ≡ index w = omega arith in rw (e, m) refl

  -- the oldest entry, where there is one
  oldest_named : (b : List ℕ) (n : ℕ) → 0 < n → among i b (word b receive_position) 1 ≡ names i (get_or (held receive_ring b (word b receive_position) n) 0 [])
  unfolding held
  oldest_named b zero l = absurd (omega arith)
  oldest_named b (suc n) l =
      let e : word b receive_position + 0 ≡ word b receive_position = omega arith in
      ap (at i b) e ∙ sym (names_at i b (word b receive_position))

  module _ {b : List ℕ} (u : Usable b) (stamp w : ℕ) where
    abbrev t : Bool
    t = is_new i b

    abbrev l : List (List ℕ)
    l = (fifo receive_offsets b).held

    -- in FIFO mode a mailbox is left alone
    arrive_mark : is_new i (arrived stamp w b) ≡ mark_by (in_fifo_mode b) (arrival_change (arrival w b) (entry_of stamp w b)) l i t
    unfolding stored
    arrive_mark = go (arrival w b) refl (in_fifo_mode b) refl
      where
        e : List ℕ
        e = entry_of stamp w b

        -- a mailbox with the new mark, or with 0 in its place
        mail : (mark : ℕ) (s : Bool) → ((error : ℕ) → error ≤ 1 → eqb ((error + mark) / new_mark % 2) 1 ≡ s) → (f : Bool) → in_fifo_mode b ≡ f
            → is_new i (mailed mark stamp w b) ≡ cond f t (cond (eqb (index w) i) s t)
        mail mark s k f m = mail_mark h mark s k stamp w b u.whole ∙ ap (λ (g : Bool). cond g t (cond (eqb (index w) i) s t)) m

        -- what the outcome tells of this mark, where the word is of this index
        told : (o : Arrival) → arrival w b ≡ o → in_fifo_mode b ≡ false → eqb (index w) i ≡ true → ListedBy t o
        told o d m z = subst (λ (j : ℕ). ListedBy (is_new j b) o) (eqb-true (index w) i z) (subst (ListedBy (is_new (index w) b)) d (new_by w b m))

        kept : (s : Bool) (f own : Bool) → (f ≡ false → own ≡ true → t ≡ s) → cond f t (cond own s t) ≡ t
        kept s true own k = refl
        kept s false true k = sym (k refl refl)
        kept s false false k = refl

        named : (f : Bool) → in_fifo_mode b ≡ f → (x y : Bool) → cond f x (cond (eqb (index w) i) true y) ≡ cond f x (cond (names i e) true y)
        named true m x y = refl
        named false m x y = ap (λ (g : Bool). cond g true y) (sym (names_entry stamp w b m))

        go : (o : Arrival) → arrival w b ≡ o → (f : Bool) → in_fifo_mode b ≡ f → is_new i (stored o stamp w b) ≡ mark_by f (arrival_change o e) l i t
        go Ignored d f m = refl
        go Filtered d f m = refl
        go Appended d f m = append_mark (mailed new_mark stamp w b) e (entry_width stamp w b) ∙ mail new_mark true mark_set f m ∙ named f m t t
        go Dropped d f m = mail 0 false mark_clear f m ∙ kept false f (eqb (index w) i) (λ n z. told Dropped d (m ∙ n) z)
        go Overwriting d f m =
            overwrite_mark (mailed new_mark stamp w (unlisted 1 b)) e (entry_width stamp w b)
            ∙ mail_mark h new_mark true mark_set stamp w (unlisted 1 b) (unlist_length 1 b ∙ u.whole)
            ∙ ap (λ (n : ℕ). cond (eqb n fifo_mode) x (cond (eqb (index w) i) true x)) (unlist_before 1 b receive_mode (omega arith))
            ∙ ap (λ (g : Bool). cond g x (cond (eqb (index w) i) true x)) m ∙ over f x_is ∙ named f m t y
          where
            x : Bool
            x = is_new i (unlisted 1 b)

            y : Bool
            y = cond (names i (get_or l 0 [])) false t

            x_is : x ≡ cond f t y
            x_is =
                unlist_mark h 1 b u.whole
                ∙ ap (λ (g : Bool). cond (in_fifo_mode b) t (cond g false t)) (oldest_named b (word b receive_level) (omega (arith, full w b d, bounds u)))
                ∙ ap (λ (g : Bool). cond g t y) m

            over : (f : Bool) → x ≡ cond f t y → cond f x (cond (eqb (index w) i) true x) ≡ cond f t (cond (eqb (index w) i) true y)
            over true z = z
            over false z = ap (cond (eqb (index w) i) true) z
        go AlreadyListed d f m = mail new_mark true mark_set f m ∙ kept true f (eqb (index w) i) (λ n z. told AlreadyListed d (m ∙ n) z)

  -- ---- every call

  module _ {b : List ℕ} (u : Usable b) where
    step_mark : is_new i (step_after b) ≡ is_new i b
    unfolding step_after immediate_after triggered_after send_after
    step_mark =
        by (eqb (word b transmitter) 0) _ _ refl
        (by (eqb (word b transmit_mode) immediate) _ _ (by (eqb (word b state) paused) _ _ refl send)
        (by (eqb (word b transmit_mode) triggered) _ _
        (by (eqb (word b state) running) _ _ (by (eqb (word b transmit_level) 0) _ _ (low b state idle (omega arith)) send) refl) scheduled))
      where
        by : (t : Bool) (c d : List ℕ) → is_new i c ≡ is_new i b → is_new i d ≡ is_new i b → is_new i (cond t c d) ≡ is_new i b
        by true c d x y = x
        by false c d x y = y

        taken : is_new i (entry_taken transmit_offsets b) ≡ is_new i b
        taken =
            low (set (set b transmit_level _) transmit_position _) transmit_sent _ (omega arith) ∙ low (set b transmit_level _) transmit_position _ (omega arith)
            ∙ low b transmit_level _ (omega arith)

        send : is_new i (cond (eqb (word b transmit_level) 0) b (entry_taken transmit_offsets b)) ≡ is_new i b
        send = by (eqb (word b transmit_level) 0) b (entry_taken transmit_offsets b) refl taken

        scheduled : is_new i (scheduled_after b) ≡ is_new i b
        scheduled =
            low (set (set (set b state _) address _) async_mark _) message_mark _ (omega arith) ∙ low (set (set b state _) address _) async_mark _ (omega arith)
            ∙ low (set b state _) address _ (omega arith) ∙ low b state _ (omega arith)

    pause_mark : is_new i (after_pause b) ≡ is_new i b
    unfolding after_pause
    pause_mark = go (eqb (word b state) running) (eqb (word b transmit_mode) immediate) (eqb (word b state) idle)
      where
        go : (p q r : Bool) → is_new i (cond p (set b state paused) (cond q (cond r (set b state paused) b) b)) ≡ is_new i b
        go true q r = low b state paused (omega arith)
        go false true true = low b state paused (omega arith)
        go false true false = refl
        go false false r = refl

    -- what is left of the mark by a change of the receive FIFO
    abbrev By : Change → Bool
    By c = mark_by (in_fifo_mode b) c (fifo receive_offsets b).held i (is_new i b)

    write_mark : (s v : ℕ) → s < settings → is_new i (written s v b) ≡ By (setting_change s v b)
    unfolding written
    write_mark s v l = go (eqb s receive_mode) (eqb s transmit_mode) (eqb s transmitter)
      where
        mode : (t : Bool) → is_new i (cond t b (set (receive_fifo_cleared b) receive_mode v)) ≡ By (cond t Stays Clears)
        mode true = refl
        mode false = low (receive_fifo_cleared b) receive_mode v (omega arith) ∙ clear_mark b u.whole

        transmit_mode_lem : (t : Bool) → is_new i (cond t b (set (forgotten b) transmit_mode v)) ≡ is_new i b
        transmit_mode_lem true = refl
        transmit_mode_lem false = low (forgotten b) transmit_mode v (omega arith) ∙ forget_mark b

        off : (t : Bool) → is_new i (cond t (set (forgotten b) transmitter v) (set b transmitter v)) ≡ is_new i b
        off true = low (forgotten b) transmitter v (omega arith) ∙ forget_mark b
        off false = low b transmitter v (omega arith)

        go : (p q r : Bool)
            → is_new i (cond p (receive_mode_written v b) (cond q (transmit_mode_written v b) (cond r (transmitter_written v b) (set b s v))))
            ≡ By (cond p (cond (eqb (word b receive_mode) v) Stays Clears) Stays)
        go true q r = mode (eqb (word b receive_mode) v)
        go false true r = transmit_mode_lem (eqb (word b transmit_mode) v)
        go false false true = off (eqb v 0)
        go false false false = low b s v (omega arith)

    test_mark : (r : ℕ) → is_new i (tested r b) ≡ By Clears
    unfolding tested
    test_mark r = go (eqb r 0)
      where
        c : List ℕ
        c = receive_fifo_cleared b

        idle_mark : is_new i (unmarked (stopped (fifos_cleared b))) ≡ By Clears
        idle_mark =
            low (stopped (fifos_cleared b)) message_mark 0 (omega arith) ∙ low (set (fifos_cleared b) state 0) address 0 (omega arith)
            ∙ low (fifos_cleared b) state 0 (omega arith) ∙ low (set c transmit_cleared _) transmit_level 0 (omega arith) ∙ low c transmit_cleared _ (omega arith)
            ∙ clear_mark b u.whole

        go : (t : Bool) → is_new i (cond t (unmarked (stopped (fifos_cleared b))) (set (unmarked (stopped (fifos_cleared b))) latch (word b latch % fault_weight + fault_weight)))
            ≡ By Clears
        go true = idle_mark
        go false = low (unmarked (stopped (fifos_cleared b))) latch _ (omega arith) ∙ idle_mark

    -- before the rule
    abbrev Left : Given → ChannelCall → List ℕ → Answer → Type 0
    Left g k c a =
        is_new i c
        ≡ cond (reads_mailbox k i) false (mark_by (in_fifo_mode (take settings b)) (effect g.stamp k a (take settings b)).receive (fifo receive_offsets b).held i (is_new i b))

    did_mark : (g : Given) (k : ChannelCall) → Left g k (did_leave g.stamp k b) (did_answer k b)
    did_mark g (Settings (WriteSetting s v)) = rw (kept_setting b receive_mode (omega arith)) (write_mark (setting_number s) v (setting_in s))
    did_mark g (Settings (ReadSetting s)) = refl
    did_mark g (Memories (WriteMatch j v)) = high b (match_at j) _ (omega arith)
    did_mark g (Memories (ReadMatch j)) = refl
    did_mark g (Memories (WriteSchedule a v)) = high b _ v (omega arith)
    did_mark g (Memories (ReadSchedule a)) = refl
    did_mark g (Memories (WriteMessage a v)) = high b _ v (omega arith)
    did_mark g (Memories (ReadMessage a)) = refl
    did_mark g (Status ReadStatus) = refl
    did_mark g (Status (ClearLatch m)) = low b latch _ (omega arith)
    did_mark g (Status (WriteEnable m)) = low b enable m (omega arith)
    did_mark g (Status ReadEnable) = refl
    did_mark g (Status (WriteLevelMask m)) = low b level_mask m (omega arith)
    did_mark g (Status ReadLevelMask) = refl
    did_mark g (Status ReadPending) = refl
    did_mark g (Tests (Sample r)) = refl
    did_mark g (Tests ResetTest) = refl
    did_mark g (Tests (InitiateTest r)) = rw (kept_setting b receive_mode (omega arith)) (test_mark r)
    did_mark g (Reads k) = refl
    did_mark g (Receive (Arrive w)) =
        rw (kept_setting b receive_mode (omega arith), entry_by_settings g.stamp w b (take settings b) (kept_setting b)) (arrive_mark u g.stamp w)
    did_mark g (Receive ReadFifo) =
        low (set (set b receive_level _) receive_position _) receive_read _ (omega arith) ∙ low (set b receive_level _) receive_position _ (omega arith)
        ∙ low b receive_level _ (omega arith)
    did_mark g (Receive (ReadMailbox j)) = taken_mark h j b u.whole
    did_mark g (Transmit (WriteFifo w)) =
        let k : ℕ = word b transmit_position + word b transmit_level in
        let in_ring : k % slots < slots = mod-lt k (omega arith) in
        low (set (set b (slot transmit_ring k) w) transmit_level _) transmit_accepted _ (omega arith) ∙ low (set b (slot transmit_ring k) w) transmit_level _ (omega arith)
        ∙ low b (slot transmit_ring k) w (omega arith)
    did_mark g (Transmit (WriteAsync w)) = low (set b async_mark 1) async_word w (omega arith) ∙ low b async_mark 1 (omega arith)
    did_mark g (Transmit Trigger) = low b state running (omega arith)
    did_mark g (Transmit Pause) = pause_mark
    did_mark g (Transmit Stop) = low (set b state 0) address 0 (omega arith) ∙ low b state 0 (omega arith)
    did_mark g (Transmit Step) = step_mark

    -- the effect goes by what a call answers before the rule
    shown-effect : (stamp : ℕ) (k : ChannelCall) (c : List ℕ)
        → effect stamp k (answer_shown k c (did_answer k b)) (take settings b) ≡ effect stamp k (did_answer k b) (take settings b)
    shown-effect stamp (Settings k) c = refl
    shown-effect stamp (Memories k) c = refl
    shown-effect stamp (Status k) c = refl
    shown-effect stamp (Tests k) c = refl
    shown-effect stamp (Reads k) c = refl
    shown-effect stamp (Receive k) c = refl
    shown-effect stamp (Transmit k) c = refl

    pub call_mark : (g : Given) (k : ChannelCall) → Left g k (block_after g k b) (block_answer g k b)
    call_mark g k =
        rw (shown-effect g.stamp k (block_after g k b)) (low (did_leave g.stamp k b) latch _ (omega arith) ∙ did_mark g k)

    -- module reset
    pub reset_mark : is_new i (block_reset b) ≡ By Clears
    unfolding block_reset
    reset_mark =
        let c : List ℕ = fifos_cleared b in
        let d : List ℕ = receive_fifo_cleared b in
        let f : List ℕ = settings_to_factory (forgotten c) in
        low (set (set f latch 0) enable 0) level_mask 0 (omega arith) ∙ low (set f latch 0) enable 0 (omega arith) ∙ low f latch 0 (omega arith)
        ∙ same_mark h (forgotten c) f (sets_other (forgotten c) receiver factory_settings (mailbox_at i) (λ l k. omega arith)) ∙ forget_mark c
        ∙ low (set d transmit_cleared _) transmit_level 0 (omega arith) ∙ low d transmit_cleared _ (omega arith) ∙ clear_mark b u.whole

  -- power-up
  pub first_mark : (n : ℕ) → is_new i (factory_of n) ≡ false
  first_mark n = rw (first-zero n (mailbox_at i) (omega arith)) refl
