-- What an accepted module reset leaves of the module's memory.
-- Assumes nothing.
use Prim.Native.Nat.{ℕ, ◌≤◌, ◌<◌}
use mathlib.Core.Path.{◌≡◌, sym, ap, ◌∙◌, subst}
use mathlib.Core.List.{List}
use native.Mathlib.Omega.{arith}
use Rattle.block.specs.Layout.{word}
use Rattle.fifos.specs.Counts.{counted}
use Rattle.block.specs.Ranges.{Usable}
use Rattle.block.proofs.Sound.{each_in}
use Rattle.settings.specs.Kept.{kept_of, kept_by}
use Rattle.channel_laws.specs.Effects.{reset_effect}
use Rattle.channel_laws.proofs.Resets.{reset_left}
use Rattle.frame.specs.Layout.{count, module_words, block}
use Rattle.frame.proofs.Refused.{layout_is}
use Rattle.frame.specs.Refusals.{part_leasts, part_greatests}
use Rattle.power.specs.Power.{part_with, factory_part}
use Rattle.reset.specs.Reset.{module_reset}
use Rattle.reset.proofs.Laws as laws
use Rattle.module_laws.specs.Sane.{Sane}
use Rattle.module_laws.proofs.Power.{factory_in}

module _ {m : List ℕ} (s : Sane m) where
  -- the module part is the factory's, with the count that was stored
  pub reset_word : (i : ℕ) → i < module_words → word (module_reset m) i ≡ word (factory_part (word m count)) i
  reset_word i h = laws.reset_word m i h ∙ ap (λ (n : ℕ). word (part_with (word m count) n) i) (layout_is m s.part)

  -- "all FIFOs cleared .., settings to factory": each channel, its cleared entries counted
  pub reset_kept : (ch : ℕ) → 1 ≤ ch → ch ≤ word m count → kept_of (block (module_reset m) ch) ≡ kept_by counted reset_effect (kept_of (block m ch))
  reset_kept ch l h = ap kept_of (laws.reset_block m s.frame ch l h) ∙ (reset_left (s.usable ch l h)).is

  pub reset_sane : Sane (module_reset m)
  reset_sane =
      record {
        frame = laws.reset_framed m s.frame;
        part =
            each_in part_leasts part_greatests (module_reset m) module_words
            (λ i h. rw (reset_word i h) (factory_in (word m count) i s.frame.low s.frame.high h));
        usable =
            λ ch l h. let h' : ch ≤ word m count = rw (reset_word count (omega arith)) at h in
            subst Usable (sym (laws.reset_block m s.frame ch l h')) (reset_left (s.usable ch l h')).usable;
      }
