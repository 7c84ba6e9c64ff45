-- `label_list::entries::find` meets its contract: the first three numbers for the label are the entry that counts.
-- Assumes nothing.
use Rattle.std.proofs.Common.{◌/◌, length, refl, rules, tests, ◌∙◌, ap}
use Rattle.std.specs.List.{find}
use Rattle.std.specs.Option.{option_map}
use Rattle.std.proofs.lemmas.Iterator.{YieldsList-from_slice}
use Rattle.std.proofs.lemmas.Iterator.Search.{find_from_yields_List}
use Rattle.label_list.proofs.Lists.{is_for, entry_of, first_for}
use Rattle.label_list.proofs.entries.find.Goals as goal

pub returns-in_err-entry : goal.returns-in_err-entry
returns-in_err-entry c =
    let e = find_from_yields_List (is_for c.args.label) _ _ c.find.result c.find.ensures.ran (YieldsList-from_slice c.as_chunks.result.0.now cc) (λ x b q k. search (rules, tests)) in
    let f = first_for c.args.label (length c.args.list.now / 3) c.args.list.now refl in
    c.from_residual.ensures ∙ rw c.in_err-entry.was at (ap (option_map entry_of) (e ∙ ap (find (is_for c.args.label)) c.as_chunks.ensures.front)) ∙ f

pub returns : goal.returns
returns c =
    let e = find_from_yields_List (is_for c.args.label) _ _ c.find.result c.find.ensures.ran (YieldsList-from_slice c.as_chunks.result.0.now cc) (λ x b q k. search (rules, tests)) in
    let f = first_for c.args.label (length c.args.list.now / 3) c.args.list.now refl in
    rw c.in_ok-entry.was at (ap (option_map entry_of) (e ∙ ap (find (is_for c.args.label)) c.as_chunks.ensures.front)) ∙ f
