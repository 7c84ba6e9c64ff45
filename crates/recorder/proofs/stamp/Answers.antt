-- `recorder::stamp` meets its contract: the second number of a stamp read, which changes nothing.
-- Assumes nothing.
use mathlib.Core.Path.{◌∙◌}
use Rattle.items.specs.Items.{decoded}
use Rattle.calls.specs.Performed.{item_numbers}
use Rattle.recorder.specs.Recorded.{read_stamp, stamp_of}
use Rattle.recorder.proofs.Kept.{listed, unchanged}
use Rattle.recorder.proofs.stamp.Goals as goal

pub returns : goal.returns
unfolding stamp_of
returns c = let m = c.args.mem.now in
    (record { answer = listed c.perform_item.result (item_numbers (decoded read_stamp 0 0 0) m) 1 c.perform_item.ensures.answer; after = c.perform_item.ensures.after ∙ unchanged m })
