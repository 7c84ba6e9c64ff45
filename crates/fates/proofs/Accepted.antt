-- An accepted call's answer is no refusal.
-- Assumes nothing.
use Prim.Native.Nat.{ℕ}
use mathlib.Core.Path.{◌≡◌, refl}
use mathlib.Core.Bool.{false}
use mathlib.Core.List.{List}
use Rattle.channel_groups.specs.Groups.{did_answer}
use Rattle.channel.specs.Channel.{answer_shown}
use Rattle.channel_calls.specs.Answers.{is_refused}
use Rattle.channel_calls.specs.declared.calls.SettingCall.TheVariants.{WriteSetting, ReadSetting}
use Rattle.channel_calls.specs.declared.calls.MemoryCall.TheVariants.{WriteMatch, ReadMatch, WriteSchedule, ReadSchedule, WriteMessage, ReadMessage}
use Rattle.channel_calls.specs.declared.calls.StatusCall.TheVariants.{ReadStatus, ClearLatch, WriteEnable, ReadEnable, WriteLevelMask, ReadLevelMask, ReadPending}
use Rattle.channel_calls.specs.declared.calls.ReadCall.TheVariants.{ReadCounts, ReadReceiveLevel, ReadTransmitLevel, ReadAsync}
use Rattle.channel_calls.specs.declared.calls.ReceiveCall.TheVariants.{Arrive, ReadFifo, ReadMailbox}
use Rattle.channel_calls.specs.declared.calls.TransmitCall.TheVariants.{WriteFifo, WriteAsync, Trigger, Pause, Stop, Step}
use Rattle.channel_calls.specs.declared.calls.ChannelCall.{ChannelCall}
use Rattle.channel_calls.specs.declared.calls.ChannelCall.TheVariants.{Settings, Memories, Status, Tests, Reads, Receive, Transmit}
use Rattle.wide.specs.Effects.{wide_effect}
use Rattle.wide.specs.OnModule.{effect_answer, wide_answer}
use Rattle.wide.specs.declared.calls.WideCall.{WideCall}
use Rattle.wide.specs.declared.calls.WideEffect.{WideEffect}
use Rattle.wide.specs.declared.calls.WideEffect.TheVariants.{Shows, Stores, Advances}

-- the answer on block b, shown by the block c that is left
pub block-accepted : (k : ChannelCall) (c b : List ℕ) → is_refused (answer_shown k c (did_answer k b)) ≡ false
block-accepted (Settings (WriteSetting s v)) c b = refl
block-accepted (Settings (ReadSetting s)) c b = refl
block-accepted (Memories (WriteMatch i v)) c b = refl
block-accepted (Memories (ReadMatch i)) c b = refl
block-accepted (Memories (WriteSchedule a v)) c b = refl
block-accepted (Memories (ReadSchedule a)) c b = refl
block-accepted (Memories (WriteMessage a v)) c b = refl
block-accepted (Memories (ReadMessage a)) c b = refl
block-accepted (Status ReadStatus) c b = refl
block-accepted (Status (ClearLatch m)) c b = refl
block-accepted (Status (WriteEnable m)) c b = refl
block-accepted (Status ReadEnable) c b = refl
block-accepted (Status (WriteLevelMask m)) c b = refl
block-accepted (Status ReadLevelMask) c b = refl
block-accepted (Status ReadPending) c b = refl
block-accepted (Tests k) c b = refl
block-accepted (Reads ReadCounts) c b = refl
block-accepted (Reads ReadReceiveLevel) c b = refl
block-accepted (Reads ReadTransmitLevel) c b = refl
block-accepted (Reads ReadAsync) c b = refl
block-accepted (Receive (Arrive w)) c b = refl
block-accepted (Receive ReadFifo) c b = refl
block-accepted (Receive (ReadMailbox i)) c b = refl
block-accepted (Transmit (WriteFifo w)) c b = refl
block-accepted (Transmit (WriteAsync w)) c b = refl
block-accepted (Transmit Trigger) c b = refl
block-accepted (Transmit Pause) c b = refl
block-accepted (Transmit Stop) c b = refl
block-accepted (Transmit Step) c b = refl

pub wide_accepted : (k : WideCall) (m : List ℕ) → is_refused (wide_answer k m) ≡ false
wide_accepted k m = go (wide_effect k)
  where
    go : (e : WideEffect) → is_refused (effect_answer e m) ≡ false
    go (Shows i) = refl
    go (Stores i v) = refl
    go (Advances n) = refl
