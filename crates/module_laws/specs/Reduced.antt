-- What is kept of a channel with its counts as 32-bit words hold them (paper 01, "Fates").
use Rattle.fifos.specs.Counts.{rolled}
use Rattle.fifos.specs.Fifos.{Fifo}
use Rattle.settings.specs.Kept.{Kept}

abbrev pub reduced_fifo : Fifo → Fifo
reduced_fifo f = record { held = f.held; accepted = rolled f.accepted; taken = rolled f.taken; cleared = rolled f.cleared }

-- every count as its word holds it
abbrev pub reduced : Kept → Kept
reduced h =
    record {
      settings = h.settings;
      receive = reduced_fifo h.receive;
      overwritten = rolled h.overwritten;
      transmit = reduced_fifo h.transmit;
    }
