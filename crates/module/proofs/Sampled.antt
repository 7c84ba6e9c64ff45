-- A channel's counter, out of the twelve that pass as one array.
-- Assumes nothing.
use Prim.Native.Nat.{ℕ, ◌-◌, ◌≤◌, ◌<◌}
use mathlib.Core.Path.{◌≡◌, ap, ◌∙◌}
use mathlib.Core.List.{List}
use native.Mathlib.Omega.{arith}
use lib.ListN.{length, get_or, drop, length-take, length-drop}
use lib.Seq.{get_or-set_same, get_or-take, get_or-drop}
use Rattle.block.specs.Layout.{word}
use Rattle.frame.specs.Layout.{counters, module_words, most}
use Rattle.frame.specs.Counters.{sampled, counters_of, sampled_at}
use Rattle.module.specs.OnChannel.{counter_at}

pub sampled_counter : (m cs next : List ℕ) (ch r : ℕ) → module_words ≤ length m → 1 ≤ ch → ch ≤ most → cs ≡ counters_of m → next ≡ sampled_at ch r cs
    → get_or next (ch - 1) 0 ≡ sampled r (word m (counter_at ch))
sampled_counter m cs next ch r long l h p q =
    ap (λ (x : List ℕ). get_or x (ch - 1) 0) (q ∙ ap (sampled_at ch r) p)
    ∙ get_or-set_same (counters_of m) (ch - 1) _ 0 inside
    ∙ ap (sampled r) (get_or-take most (drop counters m) (ch - 1) 0 (omega arith) ∙ get_or-drop counters m (ch - 1) 0)
  where
    inside : ch - 1 < length (counters_of m)
    inside = simp (length-take, length-drop) (omega arith)
