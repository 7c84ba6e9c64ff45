-- `capture::kinds::Kind::try_from` meets its contract: no kind has another number.
-- Assumes nothing.
use Rattle.std.proofs.Common.{refl, arith, rules}
use Rattle.capture.proofs.Known.{not_known}
use Rattle.capture.proofs.kinds.KindTryFromU32.try_from.Goals as goal

pub returns-in_default : goal.returns-in_default
returns-in_default c = (refl, not_known c.args.number (search rules) (λ e. omega arith) (search rules))
