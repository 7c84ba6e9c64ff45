-- What an accepted call does to a channel, by its answer: one table, which history and ledger go by (paper 01, "Fates").
use Rattle.std.specs.Prelude.{ℕ, List, [], ◌∷◌, cond, eqb, set}
use Rattle.block.specs.Layout.{word, receive_mode, transmit_mode}
use Rattle.block.specs.Modes.{scheduled}
use Rattle.settings.specs.Factory.{factory_settings}
use Rattle.fifos.specs.Fifos.{Change, Stays, Adds, Takes, Clears, Begins}
use Rattle.settings.specs.Kept.{Effect, effect_of}
use Rattle.schedule.specs.declared.Output.{Output}
use Rattle.schedule.specs.declared.Output.TheVariants.{Quiet, FifoWord, Message, Null, Async, Reserved, NullMessage}
use Rattle.receive.specs.Entries.{entry_of}
use Rattle.receive.specs.Fates.{arrival_change}
use Rattle.arrival.specs.declared.Arrival.{Arrival}
use Rattle.channel_calls.specs.Answers.{setting_number}
use Rattle.channel_calls.specs.declared.calls.SettingCall.TheVariants.{WriteSetting, ReadSetting}
use Rattle.channel_calls.specs.declared.calls.TestCall.TheVariants.{Sample, ResetTest, InitiateTest}
use Rattle.channel_calls.specs.declared.calls.ReceiveCall.TheVariants.{Arrive, ReadFifo, ReadMailbox}
use Rattle.channel_calls.specs.declared.calls.TransmitCall.TheVariants.{WriteFifo, WriteAsync, Trigger, Pause, Stop, Step}
use Rattle.channel_calls.specs.declared.calls.ChannelCall.{ChannelCall}
use Rattle.channel_calls.specs.declared.calls.ChannelCall.TheVariants.{Settings, Memories, Status, Tests, Reads, Receive, Transmit}
use Rattle.channel_calls.specs.Answer.{Answer, Done, Refused, Value, Waiting, Fates, Arrived, Entry, Stepped}

-- by what an answer says: an arrival's outcome, an entry, a step's output, or something else
abbrev pub by_answer : {A : Type 0} → A → (Arrival → A) → (List ℕ → A) → (Output → A) → Answer → A
by_answer else arrived entry stepped Done = else
by_answer else arrived entry stepped (Refused r) = else
by_answer else arrived entry stepped (Value x) = else
by_answer else arrived entry stepped (Waiting m w) = else
by_answer else arrived entry stepped (Fates a r c o t s d) = else
by_answer else arrived entry stepped (Arrived a) = arrived a
by_answer else arrived entry stepped (Entry s w t) = entry (s ∷ w ∷ t ∷ [])
by_answer else arrived entry stepped (Stepped o) = stepped o

-- "A change of receive mode clears the receive FIFO; writing the same mode doesn't.": setting s written with v
abbrev pub setting_change : ℕ → ℕ → List ℕ → Change
setting_change s v l = cond (eqb s receive_mode) (cond (eqb (word l receive_mode) v) Stays Clears) Stays

-- "Arrival answered as appended: the entry of Receive, by this state, is added; as overwriting: the oldest is overwritten first, then the same."
abbrev pub arrive_change : List ℕ → Answer → Change
arrive_change e a = by_answer Stays (λ o. arrival_change o e) (λ x. Stays) (λ o. Stays) a

-- "FIFO read: the oldest is taken out, and is the answer's entry."
abbrev pub read_change : Answer → Change
read_change a = by_answer Stays (λ o. Stays) Takes (λ o. Stays) a

-- "Immediate or triggered step that gives a word: the oldest is taken out, and is that word, D31 aside.": by the transmit mode and the output
abbrev pub output_change : ℕ → Output → Change
output_change mode Quiet = Stays
output_change mode (FifoWord w gap) = cond (eqb mode scheduled) Stays (Takes (w ∷ []))
output_change mode (Message w) = Stays
output_change mode (Null g) = Stays
output_change mode (Async w rest) = Stays
output_change mode (Reserved at) = Stays
output_change mode (NullMessage w) = Stays

abbrev pub step_change : ℕ → Answer → Change
step_change mode a = by_answer Stays (λ o. Stays) (λ x. Stays) (output_change mode) a

-- "Any other call .. nothing"
abbrev pub nothing : List ℕ → Effect
nothing l = effect_of l Stays Stays

-- what an accepted call does at a stamp, by its answer and the settings l before it; "Transmit FIFO write: the word is added."
abbrev pub effect : ℕ → ChannelCall → Answer → List ℕ → Effect
effect stamp (Settings (WriteSetting s v)) a l = effect_of (set l (setting_number s) v) (setting_change (setting_number s) v l) Stays
effect stamp (Settings (ReadSetting s)) a l = nothing l
effect stamp (Memories k) a l = nothing l
effect stamp (Status k) a l = nothing l
effect stamp (Tests (Sample r)) a l = nothing l
effect stamp (Tests ResetTest) a l = nothing l
effect stamp (Tests (InitiateTest r)) a l = effect_of l Clears Clears
effect stamp (Reads k) a l = nothing l
effect stamp (Receive (Arrive w)) a l = effect_of l (arrive_change (entry_of stamp w l) a) Stays
effect stamp (Receive ReadFifo) a l = effect_of l (read_change a) Stays
effect stamp (Receive (ReadMailbox i)) a l = nothing l
effect stamp (Transmit (WriteFifo w)) a l = effect_of l Stays (Adds (w ∷ []))
effect stamp (Transmit (WriteAsync w)) a l = nothing l
effect stamp (Transmit Trigger) a l = nothing l
effect stamp (Transmit Pause) a l = nothing l
effect stamp (Transmit Stop) a l = nothing l
effect stamp (Transmit Step) a l = effect_of l Stays (step_change (word l transmit_mode) a)

-- a module reset, to each channel: "all FIFOs cleared .., settings to factory"; "what they clear counted"
abbrev pub reset_effect : Effect
reset_effect = effect_of factory_settings Clears Clears

-- "Accepted power-up: factory settings, .. counts 0, none held."
abbrev pub power_effect : Effect
power_effect = effect_of factory_settings Begins Begins
