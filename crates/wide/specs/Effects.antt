-- What each module-wide call does to the module part (paper 01, "Receive", "Channel settings" and "Faults and status").
use Rattle.std.specs.Prelude.{ℕ, ◌<◌}
use Rattle.frame.specs.Layout.{count, stamp, resolution, threshold, module_words}
use Rattle.wide.specs.declared.calls.WideCall.{WideCall}
use Rattle.wide.specs.declared.calls.WideCall.TheVariants.{AdvanceStamp, ZeroStamp, ReadStamp, WriteResolution, ReadResolution, WriteThreshold, ReadThreshold}
use Rattle.wide.specs.declared.calls.WideEffect.{WideEffect}
use Rattle.wide.specs.declared.calls.WideEffect.TheVariants.{Shows, Stores, Advances}

-- "An advance by any 32-bit number .. It can be zeroed."; "stamp resolution, whole module", "fault threshold, whole module"
abbrev pub wide_effect : WideCall → WideEffect
wide_effect (AdvanceStamp n) = Advances n
wide_effect ZeroStamp = Stores stamp 0
wide_effect ReadStamp = Shows stamp
wide_effect (WriteResolution x) = Stores resolution x
wide_effect ReadResolution = Shows resolution
wide_effect (WriteThreshold x) = Stores threshold x
wide_effect ReadThreshold = Shows threshold

-- the word that is shown or stored
abbrev pub place_of : WideEffect → ℕ
place_of (Shows i) = i
place_of (Stores i v) = i
place_of (Advances n) = stamp

-- how many values it answers beside the number
abbrev pub values_of : WideEffect → ℕ
values_of (Shows i) = 1
values_of (Stores i v) = 0
values_of (Advances n) = 0

-- a word of the module part behind the count
pub record PartWord (i : ℕ) : Type 0 where
  pub low : count < i
  pub high : i < module_words
