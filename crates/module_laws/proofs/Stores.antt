-- A store of a word in range, of a usable block, or of one in every channel's place, leaves a sane memory sane.
-- Assumes nothing.
use Prim.Native.Nat.{ℕ, ◌+◌, ◌≤◌, ◌<◌}
use mathlib.Core.Path.{◌≡◌}
use mathlib.Core.Bool.{true}
use mathlib.Core.List.{List}
use native.Mathlib.Decide.{dec_lt, ℕ_discrete}
use native.Mathlib.Omega.{arith}
use lib.ListN.{length, set}
use lib.Seq.{get_or-set_same, get_or-set_other}
use Rattle.block.specs.Layout.{word, block_words}
use Rattle.block.specs.Ranges.{within, Usable}
use Rattle.block.proofs.Sound.{in_each, each_in}
use Rattle.frame.specs.Layout.{count, module_words, base, block, with_block}
use Rattle.frame.specs.Each.{each_to}
use Rattle.frame.specs.Refusals.{part_leasts, part_greatests}
use Rattle.frame.proofs.Blocks.{channel_room, block-set, with_length, with_word, block_same, block_other}
use Rattle.frame.proofs.Each.{Own, each_word, each_framed, each_beyond, each_block}
use Rattle.wide.proofs.Stored.{count_kept, stored_framed}
use Rattle.module_laws.specs.Sane.{Sane}

-- a number is in the range of word i of the module part
abbrev pub in_part : ℕ → ℕ → Type 0
in_part i x = within part_leasts part_greatests i x ≡ true

module _ {m : List ℕ} (s : Sane m) where
  pub part_in : (i : ℕ) → i < module_words → in_part i (word m i)
  part_in i h = in_each part_leasts part_greatests m module_words i s.part h

  pub store_sane : (i v : ℕ) → count < i → i < module_words → in_part i v → Sane (set m i v)
  store_sane i v l h r =
      record {
        frame = stored_framed m i v l s.frame;
        part = each_in part_leasts part_greatests (set m i v) module_words (λ j q. go j q (ℕ_discrete j i));
        usable = λ ch p q. rw (block-set m ch i v (omega arith)) (s.usable ch p (rw (count_kept m i v l) at q));
      }
    where
      go : (j : ℕ) → j < module_words → Dec (j ≡ i) → in_part j (word (set m i v) j)
      go j q (yes e) =
          let same : word (set m i v) i ≡ v = get_or-set_same m i v 0 (omega (arith, s.frame)) in
          rw (e, same) r
      go j q (no e) = rw (get_or-set_other m i j v 0 e) (part_in j q)

  pub with_sane : (ch : ℕ) (b : List ℕ) → 1 ≤ ch → ch ≤ word m count → Usable b → Sane (with_block m ch b)
  with_sane ch b l h u =
      record {
        frame = rw (with_length m b ch u.whole room, same count (omega arith)) s.frame;
        part = each_in part_leasts part_greatests (with_block m ch b) module_words (λ i q. rw (same i q) (part_in i q));
        usable = λ ch' p q. go ch' p (rw (same count (omega arith)) at q) (ℕ_discrete ch ch');
      }
    where
      room : base ch + block_words ≤ length m
      room = channel_room (length m) (word m count) ch s.frame l h

      same : (i : ℕ) → i < module_words → word (with_block m ch b) i ≡ word m i
      same i q = with_word m b ch u.whole room i q

      go : (ch' : ℕ) → 1 ≤ ch' → ch' ≤ word m count → Dec (ch ≡ ch') → Usable (block (with_block m ch b) ch')
      go ch' p q (yes e) = rw (← e, block_same m b ch u.whole room) u
      go ch' p q (no e) = rw (block_other m b ch u.whole room ch' l p e) (s.usable ch' p q)

  -- another usable block in the place of each of channels 1 to n
  pub each_sane : {f : List ℕ → ℕ → List ℕ} → Own f → ((ch : ℕ) → 1 ≤ ch → ch ≤ word m count → Usable (f m ch))
      → (n : ℕ) → n ≤ word m count → Sane (each_to f n m)
  each_sane {f} own keeps n h =
      record {
        frame = each_framed own m s.frame n h;
        part = each_in part_leasts part_greatests (each_to f n m) module_words (λ i q. rw (same i q) (part_in i q));
        usable = λ ch p q. go ch p (rw (same count (omega arith)) at q) (dec_lt n ch);
      }
    where
      same : (i : ℕ) → i < module_words → word (each_to f n m) i ≡ word m i
      same i q = each_word own m s.frame n i h q

      go : (ch : ℕ) → 1 ≤ ch → ch ≤ word m count → Dec (n < ch) → Usable (block (each_to f n m) ch)
      go ch p q (yes l) = rw (each_beyond own m s.frame n ch l q) (s.usable ch p q)
      go ch p q (no l) = rw (each_block own m s.frame n ch p (omega arith) h) (keeps ch p q)
