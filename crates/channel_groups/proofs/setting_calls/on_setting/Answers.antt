-- `channel_groups::setting_calls::on_setting` meets its contract: each call from what its callee ensures.
-- Assumes nothing.
use mathlib.Core.Path.{refl}
use Rattle.channel_groups.proofs.setting_calls.on_setting.Goals as goal

pub returns-in-WriteSetting : goal.returns-in-WriteSetting
returns-in-WriteSetting c = rw (c.in-WriteSetting.is, ← c.setting_number.ensures.value) (record { answer = refl; after = c.write.ensures })

pub returns-in-ReadSetting : goal.returns-in-ReadSetting
returns-in-ReadSetting c = rw (c.in-ReadSetting.is, ← c.setting_number-at.ensures.value) (record { answer = refl; after = refl })
