-- The stored new marks are those that the accesses and answers tell, and an arrival's outcome goes by them.
-- Assumes nothing.
use Prim.Native.Nat.{ℕ, ◌≤◌, ◌<◌}
use mathlib.Core.Path.{◌≡◌, refl, sym, ap, ◌∙◌, subst}
use mathlib.Core.Bool.{Bool, true, false, cond, true≢false}
use mathlib.Core.List.{List, [], ◌∷◌, ◌++◌}
use native.Mathlib.Nat.{mod-lt}
use native.Mathlib.Omega.{arith}
use borrow.Author.Tests.{eqb-true, eqb-false}
use lib.Dec.{eqb}
use Rattle.word.specs.Word.{index}
use Rattle.block.specs.Layout.{word, receive_mode, indexes, block_words}
use Rattle.block.specs.Modes.{fifo_mode}
use Rattle.fifos.specs.Fifos.{Clears}
use Rattle.settings.specs.Kept.{Kept, kept_of}
use Rattle.fifos.specs.Mailboxes.{mailbox_at, is_new}
use Rattle.arrival.specs.Arrival.{arrival}
use Rattle.arrival.specs.declared.Arrival.{Arrival}
use Rattle.arrival.specs.declared.Arrival.TheVariants.{Ignored}
use Rattle.channel.specs.Channel.{block_answer}
use Rattle.channel_calls.specs.declared.calls.ReadCall.TheVariants.{ReadCounts}
use Rattle.channel_calls.specs.declared.calls.ReceiveCall.TheVariants.{Arrive}
use Rattle.channel_calls.specs.declared.calls.ChannelCall.{ChannelCall}
use Rattle.channel_calls.specs.declared.calls.ChannelCall.TheVariants.{Settings, Memories, Status, Tests, Reads, Receive, Transmit}
use Rattle.channel_calls.specs.Answer.{Answer, Done, Arrived}
use Rattle.channel_laws.specs.Effects.{by_answer, nothing, effect}
use Rattle.channel_laws.specs.Listing.{ListedBy, in_fifo_mode, mark_by, reads_mailbox}
use Rattle.channel_laws.proofs.Holds.{kept_setting}
use Rattle.channel_laws.proofs.Marks.{same_mark}
use Rattle.channel_laws.proofs.Listing.{new_by, call_mark, reset_mark, first_mark}
use Rattle.frame.specs.Layout.{count, block}
use Rattle.power.specs.Power.{powered}
use Rattle.power.proofs.Laws.{powered-block}
use Rattle.reset.specs.Reset.{module_reset}
use Rattle.reset.proofs.Laws.{reset_block}
use Rattle.wide.specs.Refusals.{call_refusal}
use Rattle.wide.specs.OnModule.{wide_answer, wide_after}
use Rattle.wide.specs.Part.{Part}
use Rattle.wide.specs.declared.calls.WideCall.{WideCall}
use Rattle.module.specs.OnChannel.{on_refusal, given_of, accepted_after}
use Rattle.module.specs.declared.calls.Call.{Call}
use Rattle.module.specs.declared.calls.Call.TheVariants.{PowerUp, Reset, Wide, On}
use Rattle.module_laws.proofs.OnChannel.{on_within, on_same, on_other}
use Rattle.frame.proofs.Blocks.{Within}
use Rattle.module_laws.proofs.OnModule.{wide_others}
use Rattle.fates.specs.History.{Telling, Silent, Performed, history}
use Rattle.fates.specs.Agrees.{Agrees}
use Rattle.fates.proofs.Registers.{Quiet, quiet_effect}
use Rattle.fates.proofs.Along.{Invariant}
use Rattle.listing.specs.Marks.{marked}

-- ---- what holds along a list

-- the stored marks
abbrev Stored : List Telling → List ℕ → Type 0
Stored es m = (ch i : ℕ) → 1 ≤ ch → ch ≤ (history es).count → i < indexes → is_new i (block m ch) ≡ marked ch i es

-- in mailbox mode an arrival's outcome goes by the mark before it
abbrev pub ArrivalTold : Telling → List Telling → Type 0
ArrivalTold e before =
    (ch w : ℕ) (o : Arrival) → e ≡ Performed (On ch (Receive (Arrive w))) (Arrived o) → in_fifo_mode ((history before).kept ch).settings ≡ false
    → ListedBy (marked ch (index w) before) o

abbrev pub Told : List Telling → Type 0
Told [] = Unit
Told (e ∷ before) = ArrivalTold e before × Told before

pub record Holds (es : List Telling) (m : List ℕ) : Type 0 where
  pub stored : Stored es m
  pub told : Told es

-- ---- parts of calls and answers

abbrev on_channel : Call → Bool
on_channel (PowerUp n) = false
on_channel Reset = false
on_channel (Wide k) = false
on_channel (On ch k) = true

abbrev channel_of : Call → ℕ
channel_of (PowerUp n) = 0
channel_of Reset = 0
channel_of (Wide k) = 0
channel_of (On ch k) = ch

abbrev call_of : Call → ChannelCall
call_of (PowerUp n) = Reads ReadCounts
call_of Reset = Reads ReadCounts
call_of (Wide k) = Reads ReadCounts
call_of (On ch k) = k

abbrev outcome_of : Answer → Arrival
outcome_of a = by_answer Ignored (λ o. o) (λ e. Ignored) (λ o. Ignored) a

abbrev call_told : Telling → Call
call_told Silent = Reset
call_told (Performed c a) = c

abbrev answer_told : Telling → Answer
answer_told Silent = Done
answer_told (Performed c a) = a

no_arrival : (e : Telling) (before : List Telling) → on_channel (call_told e) ≡ false → ArrivalTold e before
no_arrival e before n ch w o q = absurd (true≢false (sym (ap (λ (t : Telling). on_channel (call_told t)) q) ∙ n))

-- ---- each kind of call

power-stored : (n : ℕ) (l r : List ℕ) (es : List Telling) → Stored (Performed (PowerUp n) Done ∷ es) (powered n l ++ r)
power-stored n l r es ch i low high h = ap (is_new i) (powered-block n ch l r low high) ∙ first_mark h block_words

module _ (es : List Telling) (m : List ℕ) (g : Agrees (history es) m) (p : Holds es m) where
  module _ (ch' : ℕ) (k : ChannelCall) (e : on_refusal ch' k m ≡ 0) where
    abbrev a : Answer
    a = block_answer (given_of ch' k m) k (block m ch')

    on_stored : Stored (Performed (On ch' k) a ∷ es) (accepted_after ch' k m)
    on_stored ch i low here h = go (eqb ch' ch) refl
      where
        -- the mark by what is kept of the channel, for a call on channel x
        by : ℕ → ℕ → Bool → Kept → Bool
        by x s t q =
            cond (reads_mailbox k i) false
            (mark_by (in_fifo_mode q.settings) (effect s k (block_answer (given_of x k m) k (block m x)) q.settings).receive q.receive.held i t)

        own : on_refusal ch k m ≡ 0
            → is_new i (block (accepted_after ch k m) ch) ≡ by ch (history es).part.stamp (marked ch i es) ((history es).kept ch)
        own z =
            ap (is_new i) (on_same ch k m z) ∙ call_mark h (on_within ch k m z).usable (given_of ch k m) k
            ∙ ap (λ (q : Part). by ch q.stamp (is_new i (block m ch)) (kept_of (block m ch))) g.part
            ∙ ap (λ (t : Bool). by ch (history es).part.stamp t (kept_of (block m ch))) (p.stored ch i low here h)
            ∙ ap (by ch (history es).part.stamp (marked ch i es)) (g.kept ch low here)

        go : (t : Bool) → eqb ch' ch ≡ t
            → is_new i (block (accepted_after ch' k m) ch)
            ≡ cond (cond t (reads_mailbox k i) false) false
            (mark_by (in_fifo_mode ((history es).kept ch).settings)
            (cond t (effect (history es).part.stamp k a ((history es).kept ch).settings) (nothing ((history es).kept ch).settings)).receive
            ((history es).kept ch).receive.held i (marked ch i es))
        go true z =
            let is : ch' ≡ ch = eqb-true ch' ch z in
            subst (λ (x : ℕ). is_new i (block (accepted_after x k m) ch) ≡ by x (history es).part.stamp (marked ch i es) ((history es).kept ch)) (sym is)
            (own (subst (λ (x : ℕ). on_refusal x k m ≡ 0) is e))
        go false z = ap (is_new i) (on_other ch' k m e ch low (eqb-false ch' ch z)) ∙ p.stored ch i low here h

    on_told : ArrivalTold (Performed (On ch' k) a) es
    on_told ch w o q f =
        subst (λ (x : ℕ). ListedBy (marked x (index w) es) o) is
        (subst (λ (t : Bool). ListedBy t o) (p.stored ch' (index w) within.low here (mod-lt w (omega arith)))
        (subst (ListedBy (is_new (index w) (block m ch'))) outcome (new_by w (block m ch') mode)))
      where
        is : ch' ≡ ch
        is = ap (λ (t : Telling). channel_of (call_told t)) q

        within : Within m ch'
        within = on_within ch' k m e

        here : ch' ≤ (history es).count
        here = rw g.count at within.high

        mode : eqb (word (block m ch') receive_mode) fifo_mode ≡ false
        mode =
            ap (λ (n : ℕ). eqb n fifo_mode) (sym (kept_setting (block m ch') receive_mode (omega arith)))
            ∙ ap (λ (q : Kept). in_fifo_mode q.settings) (g.kept ch' within.low here)
            ∙ ap (λ (x : ℕ). in_fifo_mode ((history es).kept x).settings) is ∙ f

        given : (q : ChannelCall) → q ≡ Receive (Arrive w) → outcome_of (block_answer (given_of ch' k m) q (block m ch')) ≡ arrival w (block m ch')
        given q z = ap (λ (x : ChannelCall). outcome_of (block_answer (given_of ch' k m) x (block m ch'))) z

        outcome : arrival w (block m ch') ≡ o
        outcome = sym (given k (ap (λ (t : Telling). call_of (call_told t)) q)) ∙ ap (λ (t : Telling). outcome_of (answer_told t)) q

  wide_stored_lem : (k : WideCall) → call_refusal k m ≡ 0 → Stored (Performed (Wide k) (wide_answer k m) ∷ es) (wide_after k m)
  wide_stored_lem k e ch i low here h =
      same_mark h (block m ch) (block (wide_after k m) ch) (wide_others g.sane k e ch low (rw g.count here) (mailbox_at i) (omega arith))
      ∙ p.stored ch i low here h

  reset_stored : Stored (Performed Reset Done ∷ es) (module_reset m)
  reset_stored ch i low high h =
      let here : ch ≤ word m count = rw g.count high in
      ap (is_new i) (reset_block m g.sane.frame ch low here) ∙ reset_mark h (g.sane.usable ch low here)
      ∙ ap (λ (n : ℕ). mark_by (eqb n fifo_mode) Clears (kept_of (block m ch)).receive.held i (is_new i (block m ch)))
      (sym (kept_setting (block m ch) receive_mode (omega arith)))
      ∙ ap (λ (t : Bool). by t (kept_of (block m ch))) (p.stored ch i low high h) ∙ ap (by (marked ch i es)) (g.kept ch low high)
    where
      by : Bool → Kept → Bool
      by t q = mark_by (in_fifo_mode q.settings) Clears q.receive.held i t

-- ---- a call that changes nothing that a history keeps

quiet_reads : (k : ChannelCall) (i : ℕ) → Quiet k → reads_mailbox k i ≡ false
quiet_reads (Settings k) i q = refl
quiet_reads (Memories k) i q = refl
quiet_reads (Status k) i q = refl
quiet_reads (Tests k) i q = refl
quiet_reads (Reads k) i q = refl
quiet_reads (Receive k) i q = absurd q
quiet_reads (Transmit k) i q = refl

quiet_marked : (ts : List Telling) (ch i ch' : ℕ) (k : ChannelCall) (a : Answer) → Quiet k → marked ch i (Performed (On ch' k) a ∷ ts) ≡ marked ch i ts
quiet_marked ts ch i ch' k a q = go (eqb ch' ch)
  where
    go : (t : Bool)
        → cond (cond t (reads_mailbox k i) false) false
        (mark_by (in_fifo_mode ((history ts).kept ch).settings)
        (cond t (effect (history ts).part.stamp k a ((history ts).kept ch).settings) (nothing ((history ts).kept ch).settings)).receive
        ((history ts).kept ch).receive.held i (marked ch i ts))
        ≡ marked ch i ts
    go true = rw (quiet_reads k i q, quiet_effect (history ts).part.stamp k a ((history ts).kept ch).settings q) refl
    go false = refl

-- ---- along every list

pub marks : Invariant Holds
marks =
    record {
      first = λ n l r e. record { stored = power-stored n l r []; told = (no_arrival (Performed (PowerUp n) Done) [] refl, tt) };
      power = λ es m p n l r e. record { stored = power-stored n l r es; told = (no_arrival (Performed (PowerUp n) Done) es refl, p.told) };
      silent = λ es m p. record { stored = p.stored; told = (no_arrival Silent es refl, p.told) };
      on = λ es m g p ch k e. record { stored = on_stored es m g p ch k e; told = (on_told es m g p ch k e, p.told) };
      wide = λ es m g p k e. record { stored = wide_stored_lem es m g p k e; told = (no_arrival (Performed (Wide k) (wide_answer k m)) es refl, p.told) };
      reset = λ es m g p e. record { stored = reset_stored es m g p; told = (no_arrival (Performed Reset Done) es refl, p.told) };
      quiet =
          λ es m ch k q g b p.
          record {
            stored = λ x i low high h. p.stored x i low high h ∙ quiet_marked es x i ch k (block_answer g k b) q;
            told = p.told.1;
          };
    }
