-- What a history keeps of the module part, and what an answer to a module-wide call is by it (paper 01, "Fates").
use Rattle.std.specs.Prelude.{◌≡◌, ℕ, List}
use Rattle.block.specs.Layout.{word}
use Rattle.frame.specs.Layout.{stamp, resolution, threshold}
use Rattle.channel_calls.specs.Answers.{answer_unless}
use Rattle.channel_calls.specs.Answer.{Answer, Done, Value}
use Rattle.wide.specs.Refusals.{argument_refusal}
use Rattle.wide.specs.declared.calls.WideCall.{WideCall}
use Rattle.wide.specs.declared.calls.WideCall.TheVariants.{AdvanceStamp, ZeroStamp, ReadStamp, WriteResolution, ReadResolution, WriteThreshold, ReadThreshold}

-- "the stamp", and the settings of the whole module
pub record Part : Type 0 where
  pub stamp : ℕ
  pub resolution : ℕ
  pub threshold : ℕ

-- what a memory has of it
abbrev pub part_of : List ℕ → Part
part_of m = record { stamp = word m stamp; resolution = word m resolution; threshold = word m threshold }

-- a read answers the value kept; "an argument outside its range": 4
abbrev pub WideTold : Part → WideCall → Answer → Type 0
WideTold p (AdvanceStamp n) a = a ≡ Done
WideTold p ZeroStamp a = a ≡ Done
WideTold p ReadStamp a = a ≡ Value p.stamp
WideTold p (WriteResolution x) a = a ≡ answer_unless (argument_refusal resolution x) Done
WideTold p ReadResolution a = a ≡ Value p.resolution
WideTold p (WriteThreshold x) a = a ≡ answer_unless (argument_refusal threshold x) Done
WideTold p ReadThreshold a = a ≡ Value p.threshold
