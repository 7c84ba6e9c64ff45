-- `capture::kinds::is_known` meets its contract: a number is known if a kind has it.
-- Assumes nothing.
use Rattle.std.proofs.Common.{◌∙◌}
use Rattle.capture.proofs.Known.{found}
use Rattle.capture.proofs.kinds.is_known.Goals as goal

pub returns : goal.returns
returns c = c.is_ok.ensures.value ∙ found c.args.kind c.try_from.result c.try_from.ensures
