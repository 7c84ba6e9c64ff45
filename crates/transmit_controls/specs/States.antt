-- The calls that change the transmitter's state (paper 01, "Transmit").
use Rattle.std.specs.Prelude.{ℕ, cond, List, ◌==◌, slice_set}
use Rattle.block.specs.Layout.{word, state, transmit_mode}
use Rattle.block.specs.Modes.{immediate}
use Rattle.schedule.specs.Codes.{idle, running, paused}

-- "Trigger: idle or paused to running"; a running one runs on
abbrev pub after_trigger : List ℕ → List ℕ
after_trigger b = slice_set b state running

-- "Pause: running to paused; house: in immediate mode idle to paused too"; "In other states these do nothing."
unfoldable pub after_pause : List ℕ → List ℕ
after_pause b =
    cond (word b state == running) (slice_set b state paused)
    (cond (word b transmit_mode == immediate) (cond (word b state == idle) (slice_set b state paused) b) b)
