-- The initiated test and a module reset leave a usable block usable.
-- Assumes nothing.
use mathlib.Core.Path.{◌≡◌, refl, ◌∙◌}
use mathlib.Core.Bool.{Bool, true, false, cond}
use mathlib.Core.List.{List}
use Prim.Native.Nat.{ℕ, ◌+◌, ◌%◌, zero-le}
use native.Mathlib.Omega.{arith}
use lib.Dec.{eqb}
use lib.ListN.{set}
use Rattle.block.specs.Layout.{word, receive_level, latch, enable, level_mask, Whole}
use Rattle.block.specs.Ranges.{leasts, greatests, Usable}
use Rattle.fifos.specs.Mailboxes.{unlisted}
use Rattle.fifos.specs.Clearing.{stopped, unmarked, forgotten}
use Rattle.block.proofs.Words.{words}
use Rattle.fifos.proofs.Marks.{unlist_length}
use Rattle.block.proofs.Sound.{in_range_lem}
use Rattle.settings.proofs.Keeps.{usable_store, receive_cleared_lem, transmit_cleared_lem, stop_keeps, unmark_keeps, forget_keeps, factory_keeps}
use Rattle.restart.specs.Tests.{fifos_cleared, tested, block_reset}

module _ {b : List ℕ} (u : Usable b) where
  pub fifos_cleared_lem : Usable (fifos_cleared b)
  fifos_cleared_lem = transmit_cleared_lem (receive_cleared_lem u)

  -- the initiated test
  pub test_keeps : (result : ℕ) → Usable (tested result b)
  unfolding tested leasts greatests
  test_keeps result = go (eqb result 0)
    where
      go : (t : Bool) → Usable (cond t (unmarked (stopped (fifos_cleared b))) (set (unmarked (stopped (fifos_cleared b))) latch (word b latch % 64 + 64)))
      go true = unmark_keeps (stop_keeps fifos_cleared_lem)
      go false = usable_store (unmark_keeps (stop_keeps fifos_cleared_lem)) latch _ (omega arith) (in_range_lem latch (word b latch % 64 + 64) zero-le (omega arith))

pub reset_keeps : {b : List ℕ} → Usable b → Usable (block_reset b)
unfolding block_reset leasts greatests
reset_keeps {b} u =
    let f = factory_keeps (forget_keeps (fifos_cleared_lem u)) (none_held b u.whole) in
    usable_store (usable_store (usable_store f latch 0 (omega arith) refl) enable 0 (omega arith) refl) level_mask 0 (omega arith) refl
  where
    none_held : (b : List ℕ) → Whole b → word (forgotten (fifos_cleared b)) receive_level ≡ 0
    none_held b w = let l : Whole (unlisted (word b receive_level) b) = unlist_length (word b receive_level) b ∙ w in search words depth 12
