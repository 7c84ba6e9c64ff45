-- What a history keeps of a channel (paper 01, "Fates"), and what a block has of it.
use Rattle.std.specs.Prelude.{ℕ, List, take}
use Rattle.block.specs.Layout.{word, settings, receive_overwritten}
use Rattle.settings.specs.Factory.{factory_settings}
use Rattle.fifos.specs.Fifos.{Fifo, fifo, receive_offsets, transmit_offsets, no_entries, Change, changed, overwritten_after}

-- "all settings and, for each FIFO, the held entries and .. counts"; the overwritten of the receive FIFO are counted beside it
pub record Kept : Type 0 where
  pub settings : List ℕ
  pub receive : Fifo
  pub overwritten : ℕ
  pub transmit : Fifo

-- what a block has of it
abbrev pub kept_of : List ℕ → Kept
kept_of b =
    record {
      settings = take settings b;
      receive = fifo receive_offsets b;
      overwritten = word b receive_overwritten;
      transmit = fifo transmit_offsets b;
    }

-- "Accepted power-up: factory settings, .. counts 0, none held."
abbrev pub kept_first : Kept
kept_first = record { settings = factory_settings; receive = no_entries; overwritten = 0; transmit = no_entries }

-- what a call does to a channel: the settings that it leaves, and the change of each FIFO
pub record Effect : Type 0 where
  pub settings : List ℕ
  pub receive : Change
  pub transmit : Change

abbrev pub effect_of : List ℕ → Change → Change → Effect
effect_of l r t = record { settings = l; receive = r; transmit = t }

-- what is kept after it, over the way in which a count grows: the stored counts roll over, a history's are whole numbers
abbrev pub kept_by : (ℕ → ℕ → ℕ) → Effect → Kept → Kept
kept_by plus e h =
    record {
      settings = e.settings;
      receive = changed plus e.receive h.receive;
      overwritten = overwritten_after plus e.receive h.overwritten;
      transmit = changed plus e.transmit h.transmit;
    }
