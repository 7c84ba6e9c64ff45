-- A word of the module part stored behind the count.
-- Assumes nothing.
use Rattle.std.proofs.Common.{◌≡◌, ℕ, ◌<◌, List, length, set, arith, length-set, get_or-set_other}
use Rattle.block.specs.Layout.{word}
use Rattle.frame.specs.Layout.{count, Framed}

module _ (m : List ℕ) (at x : ℕ) (h : count < at) where
  pub count_kept : word (set m at x) count ≡ word m count
  count_kept = get_or-set_other m at count x 0 (omega arith)

  pub stored_framed : Framed (length m) (word m count) → Framed (length (set m at x)) (word (set m at x) count)
  stored_framed f = rw (length-set, count_kept) f
