-- What the changes of a block that several calls share make of what is kept: stops, clears and written settings.
-- Assumes nothing.
use mathlib.Core.Path.{◌≡◌, refl, sym, ap, ◌∙◌}
use mathlib.Core.Bool.{Bool, true, false, cond}
use mathlib.Core.List.{List, [], ◌∷◌}
use Prim.Native.Nat.{ℕ, suc, ◌+◌, ◌≤◌, ◌<◌}
use native.Mathlib.Omega.{arith}
use borrow.Author.Tests.{eqb-true}
use lib.Dec.{eqb}
use lib.ListN.{length, take, set}
use lib.Seq.{sets, get_or-set_other, take-set-le, take-set-lt, set-get_or}
use Rattle.block.specs.Layout.{word, settings, receive_mode, transmit_mode, transmitter, receive_level, receive_cleared, receive_overwritten, transmit_level, transmit_cleared, state, address, async_mark, message_mark, Whole}
use Rattle.fifos.specs.Mailboxes.{unlisted}
use Rattle.fifos.specs.Clearing.{cleared, receive_fifo_cleared, transmit_fifo_cleared, stopped, unmarked, forgotten}
use Rattle.fifos.specs.Counts.{counted}
use Rattle.settings.specs.Settings.{receive_mode_written, transmit_mode_written, transmitter_written, written}
use Rattle.restart.specs.Tests.{fifos_cleared}
use Rattle.fifos.specs.Fifos.{receive_offsets, transmit_offsets, Stays, Clears}
use Rattle.block.proofs.Words.{words}
use Rattle.fifos.proofs.Marks.{unlist_length, unlist_before, unlist_fifo}
use Rattle.fifos.proofs.Fifos.{receive_proper, transmit_proper, store_apart, clear_law}
use Rattle.settings.specs.Kept.{Kept, kept_of, kept_by, effect_of}
use Rattle.channel_laws.specs.Effects.{setting_change}
use Rattle.channel_laws.proofs.Holds.{with_settings, with_setting, parts, kept_setting, store_kept, same-settings}

-- ---- the transmitter stopped

pub stop_kept : (b : List ℕ) → kept_of (stopped b) ≡ kept_of b
stop_kept b = store_kept (set b state 0) address 0 (omega arith) ∙ store_kept b state 0 (omega arith)

pub unmark_kept : (b : List ℕ) → kept_of (unmarked b) ≡ kept_of b
unmark_kept b = store_kept b message_mark 0 (omega arith)

pub forget_kept : (b : List ℕ) → kept_of (forgotten b) ≡ kept_of b
forget_kept b = store_kept (unmarked (stopped b)) async_mark 0 (omega arith) ∙ unmark_kept (stopped b) ∙ stop_kept b

-- ---- the FIFOs cleared

-- a FIFO's level and its cleared count, stored, leave the settings
cleared-settings : (b : List ℕ) (i j v : ℕ) → settings ≤ i → settings ≤ j → take settings (set (set b i v) j 0) ≡ take settings b
cleared-settings b i j v h l = take-set-le settings (set b i v) j 0 l ∙ take-set-le settings b i v h

-- marks taken from mailboxes leave it
pub unlist_kept : (n : ℕ) (b : List ℕ) → Whole b → kept_of (unlisted n b) ≡ kept_of b
unlist_kept n b w =
    parts (same-settings b (unlisted n b) w (unlist_length n b ∙ w) (λ i h. unlist_before n b i (omega arith)))
    (unlist_fifo n b receive_offsets (omega arith) (λ i h. omega arith)) (unlist_before n b receive_overwritten (omega arith))
    (unlist_fifo n b transmit_offsets (omega arith) (λ i h. omega arith))

module _ (b : List ℕ) (w : Whole b) where
  -- the level and the count stored, whatever marks were taken before
  level_clear_kept : kept_of (cleared receive_level receive_cleared b) ≡ kept_by counted (effect_of (take settings b) Clears Stays) (kept_of b)
  level_clear_kept =
      parts (cleared-settings b receive_cleared receive_level _ (omega arith) (omega arith)) (clear_law receive_offsets receive_proper b w)
      (search words)
      (store_apart transmit_offsets (set b receive_cleared _) receive_level 0 (omega arith) (omega arith)
      ∙ store_apart transmit_offsets b receive_cleared _ (omega arith) (omega arith))

  transmit_clear_kept : kept_of (transmit_fifo_cleared b) ≡ kept_by counted (effect_of (take settings b) Stays Clears) (kept_of b)
  transmit_clear_kept =
      parts (cleared-settings b transmit_cleared transmit_level _ (omega arith) (omega arith))
      (store_apart receive_offsets (set b transmit_cleared _) transmit_level 0 (omega arith) (omega arith)
      ∙ store_apart receive_offsets b transmit_cleared _ (omega arith) (omega arith))
      (search words) (clear_law transmit_offsets transmit_proper b w)

receive_clear_kept : (b : List ℕ) → Whole b → kept_of (receive_fifo_cleared b) ≡ kept_by counted (effect_of (take settings b) Clears Stays) (kept_of b)
receive_clear_kept b w =
    let n : ℕ = word b receive_level in
    level_clear_kept (unlisted n b) (unlist_length n b ∙ w)
    ∙ ap (λ (h : Kept). kept_by counted (effect_of h.settings Clears Stays) h) (unlist_kept n b w)

pub both_clear_kept : (b : List ℕ) → Whole b → kept_of (fifos_cleared b) ≡ kept_by counted (effect_of (take settings b) Clears Clears) (kept_of b)
both_clear_kept b w =
    transmit_clear_kept (receive_fifo_cleared b) (let l : Whole (unlisted (word b receive_level) b) = unlist_length (word b receive_level) b ∙ w in search words)
    ∙ ap (λ (h : Kept). kept_by counted (effect_of h.settings Stays Clears) h) (receive_clear_kept b w)

-- ---- a setting written

module _ (b : List ℕ) (s v : ℕ) (h : s < settings) where
  -- stored
  setting_kept : kept_of (set b s v) ≡ with_setting (kept_of b) s v
  setting_kept =
      parts (take-set-lt settings b s v h) (store_apart receive_offsets b s v (omega arith) (omega arith))
      (get_or-set_other b s receive_overwritten v 0 (omega arith)) (store_apart transmit_offsets b s v (omega arith) (omega arith))

  -- or held already
  already : word b s ≡ v → kept_of b ≡ with_setting (kept_of b) s v
  already e =
      ap (with_settings (kept_of b))
      (sym (set-get_or (take settings b) s 0) ∙ ap (set (take settings b) s) (kept_setting b s h ∙ e))

-- several stored, one after another
pub settings_kept : (b : List ℕ) (s : ℕ) (e : List ℕ) → s + length e ≤ settings
    → kept_of (sets b s e) ≡ with_settings (kept_of b) (take settings (sets b s e))
settings_kept b s [] h = refl
settings_kept b s (v ∷ e) h =
    settings_kept (set b s v) (suc s) e (omega arith)
    ∙ ap (λ (k : Kept). with_settings k (take settings (sets (set b s v) (suc s) e))) (setting_kept b s v (omega arith))

module _ (b : List ℕ) (v : ℕ) where
  receive_mode_kept : Whole b → kept_of (receive_mode_written v b)
      ≡ kept_by counted (effect_of (set (take settings b) receive_mode v) (cond (eqb (word (take settings b) receive_mode) v) Stays Clears) Stays) (kept_of b)
  receive_mode_kept w = rw (kept_setting b receive_mode (omega arith)) (go (eqb (word b receive_mode) v) refl)
    where
      go : (t : Bool) → eqb (word b receive_mode) v ≡ t
          → kept_of (cond t b (set (receive_fifo_cleared b) receive_mode v))
          ≡ kept_by counted (effect_of (set (take settings b) receive_mode v) (cond t Stays Clears) Stays) (kept_of b)
      go true e = already b receive_mode v (omega arith) (eqb-true (word b receive_mode) v e)
      go false e =
          setting_kept (receive_fifo_cleared b) receive_mode v (omega arith) ∙ ap (λ (h : Kept). with_setting h receive_mode v) (receive_clear_kept b w)

  forgotten_kept : (s : ℕ) → s < settings → kept_of (set (forgotten b) s v) ≡ with_setting (kept_of b) s v
  forgotten_kept s h = setting_kept (forgotten b) s v h ∙ ap (λ (k : Kept). with_setting k s v) (forget_kept b)

  transmit_mode_kept : kept_of (transmit_mode_written v b) ≡ with_setting (kept_of b) transmit_mode v
  transmit_mode_kept = go (eqb (word b transmit_mode) v) refl
    where
      go : (t : Bool) → eqb (word b transmit_mode) v ≡ t → kept_of (cond t b (set (forgotten b) transmit_mode v)) ≡ with_setting (kept_of b) transmit_mode v
      go true e = already b transmit_mode v (omega arith) (eqb-true (word b transmit_mode) v e)
      go false e = forgotten_kept transmit_mode (omega arith)

  transmitter_kept : kept_of (transmitter_written v b) ≡ with_setting (kept_of b) transmitter v
  transmitter_kept = go (eqb v 0)
    where
      go : (t : Bool) → kept_of (cond t (set (forgotten b) transmitter v) (set b transmitter v)) ≡ with_setting (kept_of b) transmitter v
      go true = forgotten_kept transmitter (omega arith)
      go false = setting_kept b transmitter v (omega arith)

  pub write_kept : Whole b → (s : ℕ) → s < settings
      → kept_of (written s v b) ≡ kept_by counted (effect_of (set (take settings b) s v) (setting_change s v (take settings b)) Stays) (kept_of b)
  unfolding written
  write_kept w s h = go (eqb s receive_mode) (eqb s transmit_mode) (eqb s transmitter) refl refl refl
    where
      go : (p q r : Bool) → eqb s receive_mode ≡ p → eqb s transmit_mode ≡ q → eqb s transmitter ≡ r
          → kept_of (cond p (receive_mode_written v b) (cond q (transmit_mode_written v b) (cond r (transmitter_written v b) (set b s v))))
          ≡ kept_by counted (effect_of (set (take settings b) s v) (cond p (cond (eqb (word (take settings b) receive_mode) v) Stays Clears) Stays) Stays) (kept_of b)
      go true q r x y z = rw (eqb-true s receive_mode x) (receive_mode_kept w)
      go false true r x y z = rw (eqb-true s transmit_mode y) transmit_mode_kept
      go false false true x y z = rw (eqb-true s transmitter z) transmitter_kept
      go false false false x y z = setting_kept b s v h
