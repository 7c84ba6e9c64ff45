-- `label_list::entries::list_wrong` meets its contract: numbers behind the last whole entry are one that is cut short.
-- Assumes nothing.
use Rattle.std.proofs.Common.{◌<◌, ◌%◌, ◌/◌, length, rules, tests, arith, ◌≡◌, ◌∙◌, sym, ◌*◌}
use Rattle.std.proofs.lemmas.Iterator.{YieldsList-from_slice}
use Rattle.std.proofs.lemmas.Iterator.Search.{any_from_yields_List}
use Rattle.label_list.proofs.Lists.{wrong, cut_short, any_wrong}
use Rattle.label_list.proofs.entries.list_wrong.Goals as goal

pub returns-then-not-is_empty : goal.returns-then-not-is_empty
returns-then-not-is_empty c =
    let h : 0 < length c.args.list.now % 3 = grind arith in rw c.if-not-is_empty.true (sym (cut_short c.args.list.now h))

pub returns-else-not-is_empty : goal.returns-else-not-is_empty
returns-else-not-is_empty c =
    let h : length c.args.list.now ≡ 3 * (length c.args.list.now / 3) = grind arith in
    any_from_yields_List wrong _ _ _ c.any.ensures.ran (YieldsList-from_slice c.as_chunks.result.0.now cc) (λ x b q k. search (rules, tests))
    ∙ rw c.as_chunks.ensures.front (any_wrong (length c.args.list.now / 3) c.args.list.now h)
