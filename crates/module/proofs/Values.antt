-- A call's answer is listed as a number and as many values as the call has, refused or not, on any memory.
-- Assumes nothing.
use Prim.Native.Nat.{ℕ, suc}
use mathlib.Core.Path.{◌≡◌, refl, ap}
use mathlib.Core.Bool.{Bool, true, false, cond}
use mathlib.Core.List.{List}
use lib.Dec.{eqb}
use lib.ListN.{length, length-replicate}
use Rattle.schedule.specs.Output.{values as output_values}
use Rattle.schedule.specs.declared.Output.{Output}
use Rattle.schedule.specs.declared.Output.TheVariants.{Quiet, FifoWord, Message, Null, Async, Reserved, NullMessage}
use Rattle.transmit.specs.Step.{step_output}
use Rattle.channel_calls.specs.Answers.{channel_values, answer_unless, numbers_of}
use Rattle.channel_calls.specs.declared.calls.SettingCall.TheVariants.{WriteSetting, ReadSetting}
use Rattle.channel_calls.specs.declared.calls.MemoryCall.TheVariants.{WriteMatch, ReadMatch, WriteSchedule, ReadSchedule, WriteMessage, ReadMessage}
use Rattle.channel_calls.specs.declared.calls.StatusCall.TheVariants.{ReadStatus, ClearLatch, WriteEnable, ReadEnable, WriteLevelMask, ReadLevelMask, ReadPending}
use Rattle.channel_calls.specs.declared.calls.ReadCall.TheVariants.{ReadCounts, ReadReceiveLevel, ReadTransmitLevel, ReadAsync}
use Rattle.channel_calls.specs.declared.calls.ReceiveCall.TheVariants.{Arrive, ReadFifo, ReadMailbox}
use Rattle.channel_calls.specs.declared.calls.TransmitCall.TheVariants.{WriteFifo, WriteAsync, Trigger, Pause, Stop, Step}
use Rattle.channel_calls.specs.declared.calls.ChannelCall.{ChannelCall}
use Rattle.channel_calls.specs.declared.calls.ChannelCall.TheVariants.{Settings, Memories, Status, Tests, Reads, Receive, Transmit}
use Rattle.channel_calls.specs.declared.calls.Given.{Given}
use Rattle.channel_calls.specs.Answer.{Answer, Done, Refused}
use Rattle.channel.specs.Channel.{block_answer}
use Rattle.frame.specs.Layout.{block}
use Rattle.frame.specs.Refusals.{wide_refusal}
use Rattle.power.specs.Power.{power_refusal}
use Rattle.wide.specs.Refusals.{call_refusal}
use Rattle.wide.specs.Effects.{wide_effect, values_of}
use Rattle.wide.specs.OnModule.{effect_answer, wide_answer}
use Rattle.wide.specs.declared.calls.WideEffect.{WideEffect}
use Rattle.wide.specs.declared.calls.WideEffect.TheVariants.{Shows, Stores, Advances}
use Rattle.module.specs.OnChannel.{on_refusal, given_of}
use Rattle.module.specs.Perform.{answer, wide_values, values, numbers}
use Rattle.module.specs.declared.calls.Call.{Call}
use Rattle.module.specs.declared.calls.Call.TheVariants.{PowerUp, Reset, Wide, On}

-- an answer is listed as its number and n values
abbrev Listed : ℕ → Answer → Type 0
Listed n a = length (numbers_of n a) ≡ suc n

-- "A refusal .. every other result is 0": a refused call has as many zeros
unless : (n r : ℕ) (a : Answer) → Listed n a → Listed n (answer_unless r a)
unless n r a h = go (eqb r 0)
  where
    go : (t : Bool) → Listed n (cond t a (Refused r))
    go true = h
    go false = ap suc (length-replicate {A = ℕ} n 0)

-- ---- the accepted calls

wide_listed : (e : WideEffect) (m : List ℕ) → Listed (values_of e) (effect_answer e m)
wide_listed (Shows i) m = refl
wide_listed (Stores i v) m = refl
wide_listed (Advances n) m = refl

-- every output of a step has four numbers
output_length : (o : Output) → length (output_values o) ≡ 4
unfolding output_values
output_length Quiet = refl
output_length (FifoWord w g) = refl
output_length (Message w) = refl
output_length (Null g) = refl
output_length (Async w r) = refl
output_length (Reserved a) = refl
output_length (NullMessage w) = refl

channel_listed : (g : Given) (k : ChannelCall) (b : List ℕ) → Listed (channel_values k) (block_answer g k b)
channel_listed g (Settings (WriteSetting s v)) b = refl
channel_listed g (Settings (ReadSetting s)) b = refl
channel_listed g (Memories (WriteMatch i v)) b = refl
channel_listed g (Memories (ReadMatch i)) b = refl
channel_listed g (Memories (WriteSchedule a v)) b = refl
channel_listed g (Memories (ReadSchedule a)) b = refl
channel_listed g (Memories (WriteMessage a v)) b = refl
channel_listed g (Memories (ReadMessage a)) b = refl
channel_listed g (Status ReadStatus) b = refl
channel_listed g (Status (ClearLatch m)) b = refl
channel_listed g (Status (WriteEnable m)) b = refl
channel_listed g (Status ReadEnable) b = refl
channel_listed g (Status (WriteLevelMask m)) b = refl
channel_listed g (Status ReadLevelMask) b = refl
channel_listed g (Status ReadPending) b = refl
channel_listed g (Tests k) b = refl
channel_listed g (Reads ReadCounts) b = refl
channel_listed g (Reads ReadReceiveLevel) b = refl
channel_listed g (Reads ReadTransmitLevel) b = refl
channel_listed g (Reads ReadAsync) b = refl
channel_listed g (Receive (Arrive w)) b = refl
channel_listed g (Receive ReadFifo) b = refl
channel_listed g (Receive (ReadMailbox i)) b = refl
channel_listed g (Transmit (WriteFifo w)) b = refl
channel_listed g (Transmit (WriteAsync w)) b = refl
channel_listed g (Transmit Trigger) b = refl
channel_listed g (Transmit Pause) b = refl
channel_listed g (Transmit Stop) b = refl
channel_listed g (Transmit Step) b = ap suc (output_length (step_output b))

-- ---- every call

-- the answer's number and the call's values, as many in a refusal as in an accepted call
pub listed : (c : Call) (m : List ℕ) → length (numbers c (answer c m)) ≡ suc (values c)
listed (PowerUp k) m = unless 0 (power_refusal k (length m)) Done refl
listed Reset m = unless 0 (wide_refusal m) Done refl
listed (Wide k) m = unless (wide_values k) (call_refusal k m) (wide_answer k m) (wide_listed (wide_effect k) m)
listed (On ch k) m =
    unless (channel_values k) (on_refusal ch k m) (block_answer (given_of ch k m) k (block m ch)) (channel_listed (given_of ch k m) k (block m ch))
