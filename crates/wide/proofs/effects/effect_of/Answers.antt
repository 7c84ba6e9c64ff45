-- `wide::effects::effect_of` meets its contract: each call is a row of the definition.
-- Assumes nothing.
use Rattle.std.proofs.Common.{refl}
use Rattle.wide.proofs.effects.effect_of.Goals as goal

pub returns-in-AdvanceStamp : goal.returns-in-AdvanceStamp
returns-in-AdvanceStamp c = rw c.in-AdvanceStamp.is refl

pub returns-in-ZeroStamp : goal.returns-in-ZeroStamp
returns-in-ZeroStamp c = rw c.in-ZeroStamp.is refl

pub returns-in-ReadStamp : goal.returns-in-ReadStamp
returns-in-ReadStamp c = rw c.in-ReadStamp.is refl

pub returns-in-WriteResolution : goal.returns-in-WriteResolution
returns-in-WriteResolution c = rw c.in-WriteResolution.is refl

pub returns-in-ReadResolution : goal.returns-in-ReadResolution
returns-in-ReadResolution c = rw c.in-ReadResolution.is refl

pub returns-in-WriteThreshold : goal.returns-in-WriteThreshold
returns-in-WriteThreshold c = rw c.in-WriteThreshold.is refl

pub returns-in-ReadThreshold : goal.returns-in-ReadThreshold
returns-in-ReadThreshold c = rw c.in-ReadThreshold.is refl
