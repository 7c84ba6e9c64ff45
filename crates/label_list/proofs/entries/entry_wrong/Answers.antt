-- `label_list::entries::entry_wrong` meets its contract: each branch is a case of the definition.
-- Assumes nothing.
use Rattle.word.proofs.Branches.{branches}
use Rattle.label_list.specs.declared.kinds.Kind.TheVariants.{Binary, Decimal, BitField}
use Rattle.label_list.specs.Entries.{entry_wrong}
use Rattle.label_list.proofs.entries.entry_wrong.Goals as goal

pub returns-then-label-gt-GREATEST_LABEL : goal.returns-then-label-gt-GREATEST_LABEL
unfolding entry_wrong
returns-then-label-gt-GREATEST_LABEL c = search branches

pub returns-in-Ok-Binary : goal.returns-in-Ok-Binary
unfolding entry_wrong
returns-in-Ok-Binary c = search (branches, c.is_divisor.ensures)

pub returns-in-Ok-Decimal : goal.returns-in-Ok-Decimal
unfolding entry_wrong
returns-in-Ok-Decimal c = search branches

pub returns-in-Ok-BitField : goal.returns-in-Ok-BitField
unfolding entry_wrong
returns-in-Ok-BitField c = search branches

pub returns-in-Err : goal.returns-in-Err
unfolding entry_wrong
returns-in-Err c = search (branches, c.in-Err.ensures Binary, c.in-Err.ensures Decimal, c.in-Err.ensures BitField)
