-- A sane memory is never refused as short or unsound.
-- Assumes nothing.
use Prim.Native.Nat.{ℕ, zero, suc, ◌≤◌}
use mathlib.Core.Path.{◌≡◌, refl, ap₂}
use mathlib.Core.Bool.{Bool, true, ◌&&◌}
use mathlib.Core.List.{List}
use native.Mathlib.Omega.{arith}
use borrow.Author.Tests.{eq-eqb, le-ltb}
use lib.ListN.{length}
use Rattle.block.specs.Layout.{word}
use Rattle.frame.specs.Layout.{count, module_words, most, need, Framed}
use Rattle.frame.specs.Refusals.{frame_of, frame_refusal, part_refusal, channel_of, address_refusal, sound_to, wide_refusal}
use Rattle.frame.proofs.Refused.{Standing}
use Rattle.module_laws.specs.Sane.{Sane}

not_short : (n k : ℕ) → Framed n k → frame_of n k ≡ 0
unfolding frame_of
not_short n k f =
    let p : module_words ≤ n = omega (arith, f.room) in
    rw (le-ltb n module_words p, le-ltb k 1 f.low, le-ltb most k f.high, le-ltb n (need k) f.room) refl

on_count : (part k ch : ℕ) (ok : Bool) → part ≡ 0 → 1 ≤ ch → ch ≤ k → ok ≡ true → channel_of part k ch ok ≡ 0
unfolding channel_of
on_count part k ch ok z l h e = rw (eq-eqb part 0 z, le-ltb ch 1 l, le-ltb k ch h, e) refl

-- a memory that stands is not refused for its module part
pub standing_part : {m : List ℕ} → Standing m → part_refusal m ≡ 0
unfolding part_refusal
standing_part {m} s = rw (eq-eqb (frame_refusal m) 0 (not_short (length m) (word m count) s.frame), s.part) refl

module _ {m : List ℕ} (s : Sane m) where
  pub sane_part : part_refusal m ≡ 0
  sane_part = standing_part (record { frame = s.frame; part = s.part })

  pub sane_address : {ch : ℕ} → 1 ≤ ch → ch ≤ word m count → address_refusal m ch ≡ 0
  sane_address {ch} l h = on_count (part_refusal m) (word m count) ch _ sane_part l h (s.usable ch l h).sound

  all_sound : (n : ℕ) → n ≤ word m count → sound_to m n ≡ true
  unfolding sound_to
  all_sound zero h = refl
  all_sound (suc n) h = ap₂ ◌&&◌ (all_sound n (omega arith)) (s.usable (suc n) (omega arith) h).sound

  pub sane_wide : wide_refusal m ≡ 0
  unfolding wide_refusal
  sane_wide = rw (eq-eqb (part_refusal m) 0 sane_part, all_sound (word m count) (omega arith)) refl
