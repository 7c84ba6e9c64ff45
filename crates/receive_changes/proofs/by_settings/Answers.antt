-- `receive_changes::by_settings` meets its contract: each case is one of the definition.
-- Assumes nothing.
use mathlib.Core.Path.{refl}
use Rattle.receive_changes.proofs.by_settings.Goals as goal

pub returns-in-WriteSetting : goal.returns-in-WriteSetting
returns-in-WriteSetting c = rw (c.in-WriteSetting.is, c.by_setting.ensures) refl

pub returns-in-ReadSetting : goal.returns-in-ReadSetting
returns-in-ReadSetting c = rw (c.in-ReadSetting.is, c.left.ensures) refl
