-- What is written to a register is read from it again: rate, async, schedule RAM and message RAM each have their own place.
-- Assumes nothing.
use Prim.Native.Nat.{ℕ, ◌+◌, ◌<◌, ◌≤◌}
use mathlib.Core.Path.{◌≡◌, refl, ap, ◌∙◌}
use mathlib.Core.Bool.{Bool, true, false, cond, true≢false}
use mathlib.Core.List.{List}
use native.Mathlib.Omega.{arith}
use borrow.Author.Tests.{eqb-true, le-ltb}
use lib.Dec.{eqb}
use lib.ListN.{length, set, length-set}
use lib.Seq.{get_or-set_same, get_or-set_other}
use Rattle.schedule.specs.Codes.{last, last_message}
use Rattle.block.specs.Layout.{word, rate, latch, async_mark, async_word, message_ram, schedule_ram}
use Rattle.settings.specs.Settings.{written}
use Rattle.channel.specs.Channel.{block_answer, block_after}
use Rattle.channel_calls.specs.Refusals.{channel_refusal}
use Rattle.channel_calls.specs.Answers.{is_refused}
use Rattle.channel_calls.proofs.Accepted.{not_above}
use Rattle.channel_calls.specs.declared.calls.Setting.TheVariants.{Rate}
use Rattle.channel_calls.specs.declared.calls.SettingCall.TheVariants.{WriteSetting, ReadSetting}
use Rattle.channel_calls.specs.declared.calls.MemoryCall.TheVariants.{WriteSchedule, ReadSchedule, WriteMessage, ReadMessage}
use Rattle.channel_calls.specs.declared.calls.ReadCall.TheVariants.{ReadAsync}
use Rattle.channel_calls.specs.declared.calls.TransmitCall.TheVariants.{WriteAsync}
use Rattle.channel_calls.specs.declared.calls.ChannelCall.{ChannelCall}
use Rattle.channel_calls.specs.declared.calls.ChannelCall.TheVariants.{Settings, Memories, Reads, Transmit}
use Rattle.channel_calls.specs.Answer.{Refused, Value}
use Rattle.frame.specs.Layout.{count, block}
use Rattle.frame.specs.Refusals.{channel_of}
use Rattle.module.specs.OnChannel.{on_refusal, given_of, accepted_after, on_answer, on_after}
use Rattle.module_laws.proofs.Sane.{standing_part}
use Rattle.module_laws.proofs.OnChannel.{on_within, on_call, on_word, on_same, on_standing, usable_after}
use Rattle.register_map.specs.Shown.{shown, bits_of}
use Rattle.register_laws.specs.ReadBack.{ReadsBack}
use Rattle.register_map.specs.Registers.{RateOf, AsyncOf, ScheduleOf, MessageOf}
use Rattle.register_map.specs.declared.shown.Bits.{Bits}
use Rattle.register_map.specs.declared.shown.Bits.TheVariants.{AllBits, CommandBits}

-- a call whose answer a register shows as a value was not refused
accepted : (ch : ℕ) (k : ChannelCall) (bits : Bits) (x : ℕ) (m : List ℕ) → shown bits (on_answer ch k m) ≡ Value x → on_refusal ch k m ≡ 0
accepted ch k bits x m e = go (eqb (on_refusal ch k m) 0) refl e
  where
    go : (t : Bool) → eqb (on_refusal ch k m) 0 ≡ t
        → shown bits (cond t (block_answer (given_of ch k m) k (block m ch)) (Refused (on_refusal ch k m))) ≡ Value x → on_refusal ch k m ≡ 0
    go true z q = eqb-true _ _ z
    go false z q = absurd (true≢false (ap is_refused q))

-- a further call on the channel, behind an accepted one
module _ (ch : ℕ) (k k' : ChannelCall) (m : List ℕ) (e : on_refusal ch k m ≡ 0) where
  abbrev after : List ℕ
  after = block_after (given_of ch k m) k (block m ch)

  not_refused : channel_refusal k' after ≡ 0 → on_refusal ch k' (accepted_after ch k m) ≡ 0
  unfolding on_refusal channel_of
  not_refused z =
      let w = on_within ch k m e in
      rw (standing_part (on_standing ch k m e), on_word ch k m e count (omega arith), le-ltb ch 1 w.low, le-ltb (word m count) ch w.high, on_same ch k m e, (usable_after ch k m e).sound, z) refl

  next-answer : channel_refusal k' after ≡ 0 → on_answer ch k' (accepted_after ch k m) ≡ block_answer (given_of ch k' (accepted_after ch k m)) k' after
  next-answer z = rw (not_refused z, on_same ch k m e) refl

  next-after : on_after ch k m ≡ accepted_after ch k m
  next-after = rw e refl

-- a word that was stored, under the rule's store of the latch
stored : (b : List ℕ) (i v x : ℕ) → i < length b → (i ≡ latch → ⊥) → word (set (set b i v) latch x) i ≡ v
stored b i v x h ne = get_or-set_other (set b i v) latch i x 0 ne ∙ get_or-set_same b i v 0 h

-- ---- the registers

pub message_back : (ch at : ℕ) → ReadsBack (MessageOf ch at) (λ v. v)
message_back ch at v m q =
    let k : ChannelCall = Memories (WriteMessage at v) in
    let e = accepted ch k AllBits 0 m q in
    let c : channel_refusal k (block m ch) ≡ 0 = on_call ch k m e in
    let long = (on_within ch k m e).usable.whole in
    let h : at ≤ last_message = not_above last_message at 3 c in
    ap (λ (l : List ℕ). shown AllBits (on_answer ch (Memories (ReadMessage at)) l)) (next-after ch k (Memories (ReadMessage at)) m e)
    ∙ ap (shown AllBits) (next-answer ch k (Memories (ReadMessage at)) m e c)
    ∙ ap Value (stored (block m ch) (message_ram + at) v _ (omega (arith, long, h)) (omega arith))

pub schedule_back : (ch at : ℕ) → ReadsBack (ScheduleOf ch at) (bits_of CommandBits)
schedule_back ch at v m q =
    let k : ChannelCall = Memories (WriteSchedule at v) in
    let e = accepted ch k AllBits 0 m q in
    let c : channel_refusal k (block m ch) ≡ 0 = on_call ch k m e in
    let long = (on_within ch k m e).usable.whole in
    let h : at ≤ last = not_above last at 3 c in
    ap (λ (l : List ℕ). shown CommandBits (on_answer ch (Memories (ReadSchedule at)) l)) (next-after ch k (Memories (ReadSchedule at)) m e)
    ∙ ap (shown CommandBits) (next-answer ch k (Memories (ReadSchedule at)) m e c)
    ∙ ap (λ (x : ℕ). Value (bits_of CommandBits x)) (stored (block m ch) (schedule_ram + at) v _ (omega (arith, long, h)) (omega arith))

pub rate_back : (ch : ℕ) → ReadsBack (RateOf ch) (λ v. v)
unfolding written
rate_back ch v m q =
    let k : ChannelCall = Settings (WriteSetting Rate v) in
    let e = accepted ch k AllBits 0 m q in
    let long = (on_within ch k m e).usable.whole in
    ap (λ (l : List ℕ). shown AllBits (on_answer ch (Settings (ReadSetting Rate)) l)) (next-after ch k (Settings (ReadSetting Rate)) m e)
    ∙ ap (shown AllBits) (next-answer ch k (Settings (ReadSetting Rate)) m e refl)
    ∙ ap Value (stored (block m ch) rate v _ (omega (arith, long)) (omega arith))

pub async_back : (ch : ℕ) → ReadsBack (AsyncOf ch) (λ v. v)
async_back ch v m q =
    let k : ChannelCall = Transmit (WriteAsync v) in
    let e = accepted ch k AllBits 0 m q in
    let long = (on_within ch k m e).usable.whole in
    let b : List ℕ = block m ch in
    let marked : List ℕ = set b async_mark 1 in
    let l : async_word < length marked = rw length-set (omega (arith, long)) in
    let mark : word (set (set marked async_word v) latch _) async_mark ≡ 1 =
    get_or-set_other (set marked async_word v) latch async_mark _ 0 (omega arith) ∙ get_or-set_other marked async_word async_mark v 0 (omega arith) ∙ get_or-set_same b async_mark 1 0 (omega (arith, long)) in
    ap (λ (x : List ℕ). shown AllBits (on_answer ch (Reads ReadAsync) x)) (next-after ch k (Reads ReadAsync) m e)
    ∙ ap (shown AllBits) (next-answer ch k (Reads ReadAsync) m e refl)
    ∙ ap (λ (n : ℕ). Value (cond (eqb n 0) 0 (word (after ch k (Reads ReadAsync) m e) async_word))) mark
    ∙ ap Value (stored marked async_word v _ l (omega arith))
