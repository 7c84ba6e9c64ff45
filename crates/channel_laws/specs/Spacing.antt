-- What an accepted call puts on a channel's line, by the call, its answer and the settings before it (paper 02 (i)); the latest first.
use Rattle.std.specs.Prelude.{ℕ, List, [], ◌∷◌, Bool, false, not, cond, eqb}
use Rattle.block.specs.Layout.{word, transmitter, transmit_mode}
use Rattle.schedule.specs.Spacing.{Item, Forgotten, on_line}
use Rattle.channel_calls.specs.Answers.{setting_number}
use Rattle.channel_calls.specs.declared.calls.SettingCall.TheVariants.{WriteSetting, ReadSetting}
use Rattle.channel_calls.specs.declared.calls.TestCall.TheVariants.{Sample, ResetTest, InitiateTest}
use Rattle.channel_calls.specs.declared.calls.ChannelCall.{ChannelCall}
use Rattle.channel_calls.specs.declared.calls.ChannelCall.TheVariants.{Settings, Memories, Status, Tests, Reads, Receive, Transmit}
use Rattle.channel_calls.specs.Answer.{Answer}
use Rattle.channel_laws.specs.Effects.{by_answer}

-- "transmitter off and a change of transmit mode forget it": setting s written with v, by the settings l before
abbrev pub setting_forgets : ℕ → ℕ → List ℕ → Bool
setting_forgets s v l = cond (eqb s transmit_mode) (not (eqb (word l transmit_mode) v)) (cond (eqb s transmitter) (eqb v 0) false)

abbrev pub forgotten_if : Bool → List Item
forgotten_if t = cond t (Forgotten ∷ []) []

-- a step puts its output there; "initiated test, transmitter off and a change of transmit mode forget it"; any other call: nothing
abbrev pub line_of : ChannelCall → Answer → List ℕ → List Item
line_of (Settings (WriteSetting s v)) a l = forgotten_if (setting_forgets (setting_number s) v l)
line_of (Settings (ReadSetting s)) a l = []
line_of (Memories k) a l = []
line_of (Status k) a l = []
line_of (Tests (Sample r)) a l = []
line_of (Tests ResetTest) a l = []
line_of (Tests (InitiateTest r)) a l = Forgotten ∷ []
line_of (Reads k) a l = []
line_of (Receive k) a l = []
line_of (Transmit k) a l = by_answer [] (λ o. []) (λ e. []) on_line a
