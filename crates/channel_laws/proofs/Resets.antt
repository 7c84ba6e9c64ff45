-- What a module reset leaves of a block, and what is kept of a block at first.
-- Assumes nothing.
use mathlib.Core.Path.{◌≡◌, refl, ap, ◌∙◌}
use mathlib.Core.Bool.{true}
use mathlib.Core.List.{List, [], ◌∷◌, ◌++◌}
use Prim.Native.Nat.{ℕ, zero, suc, ◌-◌, ◌≤◌, ◌<◌, zero-le}
use native.Mathlib.Omega.{arith}
use lib.ListN.{get_or, take, replicate, length-append, length-replicate, get_or-eq_default}
use Rattle.word.proofs.Computed.{passes}
use Rattle.ring.proofs.Laws.{none_held}
use Rattle.block.specs.Layout.{word, settings, receive_level, receive_size, receive_overwritten, latch, enable, level_mask, ranged, block_words, Whole}
use Rattle.block.specs.Ranges.{leasts, greatests, in_range, Usable}
use Rattle.fifos.specs.Mailboxes.{unlisted}
use Rattle.fifos.specs.Clearing.{forgotten}
use Rattle.fifos.specs.Counts.{counted}
use Rattle.settings.specs.Factory.{factory_settings, factory_of, settings_to_factory}
use Rattle.restart.specs.Tests.{fifos_cleared, block_reset}
use Rattle.fifos.specs.Fifos.{Offsets, receive_offsets, transmit_offsets, fifo, no_entries}
use Rattle.block.proofs.Words.{words}
use Rattle.fifos.proofs.Marks.{unlist_length}
use Rattle.block.proofs.Sound.{usable_words}
use Rattle.settings.proofs.Keeps.{factory_parts}
use Rattle.restart.proofs.Restarts.{reset_keeps}
use Rattle.settings.specs.Kept.{Kept, kept_of, kept_first, kept_by}
use Rattle.channel_laws.specs.Effects.{reset_effect}
use Rattle.channel_laws.proofs.Holds.{Holds, with_settings, parts, store_kept}
use Rattle.channel_laws.proofs.Changes.{forget_kept, both_clear_kept, settings_kept}

-- ---- a module reset

factory_kept : (b : List ℕ) → Whole b → kept_of (settings_to_factory b) ≡ with_settings (kept_of b) factory_settings
factory_kept b w =
    settings_kept b 0 factory_settings (omega arith)
    ∙ ap (λ (l : List ℕ). with_settings (kept_of b) (take settings l)) (factory_parts b (omega (arith, w)))

pub reset_left : {b : List ℕ} → Usable b → Holds (block_reset b) (kept_by counted reset_effect (kept_of b))
unfolding block_reset
reset_left {b} u =
    record {
      usable = reset_keeps u;
      is =
          store_kept _ level_mask 0 (omega arith) ∙ store_kept _ enable 0 (omega arith) ∙ store_kept _ latch 0 (omega arith)
          ∙ factory_kept (forgotten (fifos_cleared b)) (still b u.whole)
          ∙ ap (λ (h : Kept). with_settings h factory_settings) (forget_kept (fifos_cleared b) ∙ both_clear_kept b u.whole);
    }
  where
    still : (b : List ℕ) → Whole b → Whole (forgotten (fifos_cleared b))
    still b w = let l : Whole (unlisted (word b receive_level) b) = unlist_length (word b receive_level) b ∙ w in search words depth 12

-- ---- the factory block, of n words so that none of them is computed

zeros_read : (m i : ℕ) → get_or (replicate {A = ℕ} m 0) i 0 ≡ 0
zeros_read zero i = refl
zeros_read (suc m) zero = refl
zeros_read (suc m) (suc i) = zeros_read m i

-- zeros behind a list read as if they were not there
zeros_behind : (l : List ℕ) (m i : ℕ) → get_or (l ++ replicate m 0) i 0 ≡ get_or l i 0
zeros_behind [] m i = zeros_read m i
zeros_behind (x ∷ l) m zero = refl
zeros_behind (x ∷ l) m (suc i) = zeros_behind l m i

first_word : (n i : ℕ) → word (factory_of n) i ≡ get_or factory_settings i 0
first_word n i = zeros_behind factory_settings (n - settings) i

pub first-zero : (n i : ℕ) → settings ≤ i → word (factory_of n) i ≡ 0
first-zero n i h = first_word n i ∙ get_or-eq_default factory_settings 0 h

-- each word is in its range
first_in : (n i : ℕ) → i < ranged → in_range i (word (factory_of n) i) ≡ true
unfolding leasts greatests
first_in n i h =
    rw (first_word n i)
    (passes (λ j. in_range j (get_or factory_settings j 0)) ranged tt i h)

-- a FIFO whose numbers are no settings
first_fifo : (p : Offsets) (n : ℕ) → settings ≤ p.level → settings ≤ p.accepted → settings ≤ p.taken → settings ≤ p.cleared
    → fifo p (factory_of n) ≡ no_entries
first_fifo p n l a t c =
    let none : (fifo p (factory_of n)).held ≡ [] = rw (first-zero n p.level l) (none_held p.ring (factory_of n) _) in
    λ i. record { held = none i; accepted = first-zero n p.accepted a i; taken = first-zero n p.taken t i; cleared = first-zero n p.cleared c i }

pub first_holds : (n : ℕ) → n ≡ block_words → Holds (factory_of n) kept_first
first_holds n e =
    record {
      usable = usable_words long (first_in n) (rw (first_word n receive_level, first_word n receive_size) zero-le);
      is =
          parts refl (first_fifo receive_offsets n (omega arith) (omega arith) (omega arith) (omega arith)) (first_word n receive_overwritten)
          (first_fifo transmit_offsets n (omega arith) (omega arith) (omega arith) (omega arith));
    }
  where
    long : Whole (factory_of n)
    long = omega (arith, length-append factory_settings (replicate (n - settings) 0), length-replicate {A = ℕ} (n - settings) 0)
