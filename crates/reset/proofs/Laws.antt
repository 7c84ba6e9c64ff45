-- The laws of a memory after an accepted module reset: its length, the words of the module part, and each channel's block.
-- Assumes nothing.
use Prim.Native.Nat.{ℕ, ◌≤◌, ◌<◌}
use mathlib.Core.Path.{◌≡◌, refl, ◌∙◌}
use mathlib.Core.List.{List}
use native.Mathlib.Omega.{arith}
use lib.ListN.{length, drop, length-drop, length-set, get_or-append}
use Rattle.block.specs.Layout.{word}
use Rattle.fifos.proofs.Marks.{unlist_length}
use Rattle.restart.specs.Tests.{block_reset}
use Rattle.frame.specs.Layout.{count, layout, module_words, Framed, block}
use Rattle.frame.proofs.Blocks.{block-length, block_behind}
use Rattle.frame.proofs.Each.{Own, each_length, each_block}
use Rattle.power.specs.Power.{part_with}
use Rattle.reset.specs.Reset.{reset_channel, reset_to, module_reset}

-- a channel's new block goes by its own block alone
pub reset_own : Own reset_channel
unfolding block_reset
reset_own = record { whole = λ m ch room. simp (length-set, unlist_length) (block-length m ch room); same = λ m m' ch p q w e. rw e refl }

module _ (m : List ℕ) where
  -- "stamp and counters 0", threshold and resolution as from the factory, and the count and the layout number as they were
  pub reset_word : (i : ℕ) → i < module_words → word (module_reset m) i ≡ word (part_with (word m count) (word m layout)) i
  unfolding module_reset
  reset_word i h = get_or-append (part_with (word m count) (word m layout)) (drop module_words (reset_to (word m count) m)) 0 i h

  module _ (f : Framed (length m) (word m count)) where
    pub reset_length : length (module_reset m) ≡ length m
    unfolding module_reset
    reset_length =
        let e = each_length reset_own m f (word m count) (omega arith) in
        simp length-drop (omega (arith, e, f.room))

    pub reset_framed : Framed (length (module_reset m)) (word (module_reset m) count)
    reset_framed = rw (reset_length, reset_word count (omega arith)) f

    -- each channel as its part of the reset leaves it
    pub reset_block : (ch : ℕ) → 1 ≤ ch → ch ≤ word m count → block (module_reset m) ch ≡ block_reset (block m ch)
    unfolding module_reset
    reset_block ch l h =
        block_behind (part_with (word m count) (word m layout)) (reset_to (word m count) m) ch refl
        ∙ each_block reset_own m f (word m count) ch l h (omega arith)
