-- `reset::reset` meets its contract: refused, or every channel and then the module part.
-- Assumes nothing.
use Prim.Native.Nat.{ℕ, ◌<◌}
use mathlib.Core.Path.{◌≡◌, refl, sym, ap, ◌∙◌}
use mathlib.Core.List.{List, ◌++◌}
use native.Mathlib.Omega.{arith}
use lib.ListN.{drop}
use Rattle.block.specs.Layout.{word}
use Rattle.frame.specs.Layout.{count, layout, module_words}
use Rattle.frame.specs.Refusals.{wide_refusal}
use Rattle.frame.proofs.Each.{each_word}
use Rattle.frame.proofs.Refused.{wide_framed}
use Rattle.power.specs.Power.{part_with}
use Rattle.reset.specs.Reset.{reset_to, module_reset}
use Rattle.reset.proofs.Laws.{reset_own}
use borrow.Author.Rules.{rules}
use Rattle.reset.proofs.reset.Goals as goal

pub reset_channels-requires : goal.reset_channels-requires
reset_channels-requires c = wide_framed _ (sym c.in_ok-wide_refusal.ensures)

pub fill_part-requires : goal.fill_part-requires
fill_part-requires c = let f = wide_framed _ (sym c.in_ok-wide_refusal.ensures) in
    search rules

-- the words of the module part as the reset channels leave them
part_kept : (m : List ℕ) → wide_refusal m ≡ 0 → (i : ℕ) → i < module_words → word (reset_to (word m count) m) i ≡ word m i
part_kept m e i h = each_word reset_own m (wide_framed m e) (word m count) i (omega arith) h

pub returns-clause-after : goal.returns-clause-after
unfolding module_reset
returns-clause-after c = let m = c.args.mem.now in
    let z : wide_refusal m ≡ 0 = sym c.in_ok-wide_refusal.ensures in
    rw z
    (c.fill_part.ensures
    ∙ ap (λ (t : List ℕ). part_with (word t count) (word t layout) ++ drop module_words t) c.reset_channels.ensures
    ∙ rw (part_kept m z count (omega arith), part_kept m z layout (omega arith)) refl)
