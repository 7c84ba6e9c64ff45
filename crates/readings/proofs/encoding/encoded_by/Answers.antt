-- `readings::encoding::encoded_by` meets its contract: each kind is a case of the definition.
-- Assumes nothing.
use Rattle.std.proofs.Common.{arith}
use Rattle.std.proofs.lemmas.Bool.Decides.{nat_tests}
use Rattle.std.proofs.lemmas.Int.{to_z-of_z}
use Rattle.std.proofs.lemmas.Result.{err_from_is_err_and}
use Rattle.label_list.specs.declared.kinds.Kind.TheVariants.{Binary, Decimal, BitField}
use Rattle.readings.specs.Encoding.{encoded_by}
use Rattle.readings.proofs.encoding.encoded_by.Goals as goal

pub returns-in_err-try_from : goal.returns-in_err-try_from
unfolding encoded_by
returns-in_err-try_from c =
    let p = err_from_is_err_and c.from_residual.result c.from_residual.ensures.1 in
    rw (p.1, p.2) (grind (arith, nat_tests, c.in_err-try_from.ensures Binary, c.in_err-try_from.ensures Decimal, c.in_err-try_from.ensures BitField))

pub returns-in-Binary : goal.returns-in-Binary
unfolding encoded_by
returns-in-Binary c = grind (arith, nat_tests, to_z-of_z)

pub returns-in-Decimal : goal.returns-in-Decimal
unfolding encoded_by
returns-in-Decimal c = grind (arith, nat_tests, to_z-of_z)

pub returns-in-BitField : goal.returns-in-BitField
unfolding encoded_by
returns-in-BitField c = grind (arith, nat_tests, to_z-of_z)
