-- What a channel's schedule puts on the line over a list of accesses and answers, the latest first (paper 02 (i)).
use Rattle.std.specs.Prelude.{ℕ, List, [], ◌∷◌, ◌++◌, cond, eqb}
use Rattle.schedule.specs.Spacing.{Item, Forgotten}
use Rattle.channel_calls.specs.Answer.{Answer}
use Rattle.channel_laws.specs.Spacing.{line_of}
use Rattle.module.specs.declared.calls.Call.{Call}
use Rattle.module.specs.declared.calls.Call.TheVariants.{PowerUp, Reset, Wide, On}
use Rattle.fates.specs.History.{History, Telling, Silent, Performed, history}

-- an accepted call, for channel ch: "Power-up, module reset .. forget it"; by the settings that the history has before the call
abbrev pub accepted_line : ℕ → Call → Answer → History → List Item
accepted_line ch (PowerUp n) a h = Forgotten ∷ []
accepted_line ch Reset a h = Forgotten ∷ []
accepted_line ch (Wide k) a h = []
accepted_line ch (On ch' k) a h = cond (eqb ch' ch) (line_of k a (h.kept ch).settings) []

-- an access that tells nothing puts nothing there
abbrev pub line_by : ℕ → Telling → History → List Item
line_by ch Silent h = []
line_by ch (Performed c a) h = accepted_line ch c a h

-- a list of accesses, by what they tell
abbrev pub line : ℕ → List Telling → List Item
line ch [] = []
line ch (t ∷ before) = line_by ch t (history before) ++ line ch before
