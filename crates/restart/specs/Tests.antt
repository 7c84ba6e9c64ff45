-- The initiated test and a block's part of a module reset (paper 01, "Faults and status").
use Rattle.std.specs.Prelude.{ℕ, ◌+◌, ◌%◌, List, cond, eqb, set}
use Rattle.block.specs.Layout.{word, latch, enable, level_mask}
use Rattle.fifos.specs.Clearing.{receive_fifo_cleared, transmit_fifo_cleared, stopped, unmarked, forgotten}
use Rattle.settings.specs.Factory.{settings_to_factory}
use Rattle.status.specs.Status.{fault_weight}

-- "both FIFOs are cleared"
abbrev pub fifos_cleared : List ℕ → List ℕ
fifos_cleared b = transmit_fifo_cleared (receive_fifo_cleared b)

-- "both FIFOs are cleared, transmitter idle at command 0, the async word stays; a failing result also latches bit 6"; paper 02 (i), of the
-- mark: "initiated test .. forget it"
unfoldable pub tested : ℕ → List ℕ → List ℕ
tested result b =
    cond (eqb result 0) (unmarked (stopped (fifos_cleared b)))
    (set (unmarked (stopped (fifos_cleared b))) latch (word b latch % fault_weight + fault_weight))

-- "all FIFOs cleared, async words dropped, transmitters idle at command 0, settings to factory, .. latches and enables 0, all edge"
unfoldable pub block_reset : List ℕ → List ℕ
block_reset b = set (set (set (settings_to_factory (forgotten (fifos_cleared b))) latch 0) enable 0) level_mask 0
