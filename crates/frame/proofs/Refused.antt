-- What a refusal of 0 says of a module's memory.
-- Assumes nothing.
use Prim.Native.Nat.{ℕ, suc, ◌≤◌}
use mathlib.Core.Path.{◌≡◌, refl}
use mathlib.Core.Bool.{Bool, true, false, cond}
use mathlib.Core.List.{List}
use native.Mathlib.Omega.{arith}
use borrow.Author.Tests.{ltb-false}
use lib.Dec.{ltb}
use lib.ListN.{length}
use Rattle.block.specs.Layout.{word}
use Rattle.block.specs.Refusals.{first}
use Rattle.block.proofs.Refusals.{past, neither}
use Rattle.block.proofs.Sound.{in_each, no_less, no_more}
use Rattle.frame.specs.Layout.{count, layout, layout_number, module_words, most, need, Framed}
use Rattle.frame.specs.Refusals.{frame_of, frame_refusal, part_leasts, part_greatests, part_sound, part_refusal, channel_of, sound_to, wide_refusal}

holds : (t : Bool) (k : ℕ) → cond t 0 (suc k) ≡ 0 → t ≡ true
holds true k e = refl
holds false k e = absurd (omega arith)

pub framed : (n k : ℕ) → frame_of n k ≡ 0 → Framed n k
unfolding frame_of
framed n k e =
    let a = past (ltb n module_words) 0 _ e in
    let b = past (ltb k 1) 1 _ a.1 in
    let d = past (ltb most k) 1 _ b.1 in
    let f = past (ltb n (need k)) 0 _ d.1 in
    record { low = ltb-false _ _ b.0; high = ltb-false _ _ d.0; room = ltb-false _ _ f.0 }

-- a memory that is not refused for its module part
pub record Standing (m : List ℕ) : Type 0 where
  pub frame : Framed (length m) (word m count)
  pub part : part_sound m ≡ true

pub standing : (m : List ℕ) → part_refusal m ≡ 0 → Standing m
unfolding part_refusal
standing m e =
    let a = neither (frame_refusal m) _ e in
    record { frame = framed (length m) (word m count) a.0; part = holds (part_sound m) 1 a.1 }

-- "any other value there is unsound": a sound module part has the number of this layout
pub layout_is : (m : List ℕ) → part_sound m ≡ true → word m layout ≡ layout_number
unfolding part_leasts part_greatests
layout_is m e =
    let p = in_each part_leasts part_greatests m module_words layout e (omega arith) in
    omega (arith, no_less part_leasts part_greatests layout (word m layout) p, no_more part_leasts part_greatests layout (word m layout) p)

-- and one with another number is refused as short or unsound
pub other_layout : (m : List ℕ) → (word m layout ≡ layout_number → ⊥) → (1 ≤ part_refusal m) × (part_refusal m ≤ 2)
unfolding part_refusal frame_of
other_layout m n = of (part_sound m) refl (ltb (length m) module_words) (ltb (word m count) 1) (ltb most (word m count)) (ltb (length m) (need (word m count)))
  where
    of : (t : Bool) → part_sound m ≡ t → (a b d e : Bool)
        → (1 ≤ first (cond a 1 (cond b 2 (cond d 2 (cond e 1 0)))) (cond t 0 2)) × (first (cond a 1 (cond b 2 (cond d 2 (cond e 1 0)))) (cond t 0 2) ≤ 2)
    of true s a b d e = absurd (n (layout_is m s))
    of false s true b d e = (omega arith, omega arith)
    of false s false true d e = (omega arith, omega arith)
    of false s false false true e = (omega arith, omega arith)
    of false s false false false true = (omega arith, omega arith)
    of false s false false false false = (omega arith, omega arith)

-- a channel that is not refused
pub record Addressed (p k ch : ℕ) (ok : Bool) : Type 0 where
  pub part : p ≡ 0
  pub low : 1 ≤ ch
  pub high : ch ≤ k
  pub sound : ok ≡ true

pub addressed : (part k ch : ℕ) (ok : Bool) → channel_of part k ch ok ≡ 0 → Addressed part k ch ok
unfolding channel_of
addressed part k ch ok e =
    let z = neither part _ e in
    let a = past (ltb ch 1) 2 _ z.1 in
    let b = past (ltb k ch) 2 _ a.1 in
    record { part = z.0; low = ltb-false _ _ a.0; high = ltb-false _ _ b.0; sound = holds ok 1 b.1 }

pub wide : (m : List ℕ) → wide_refusal m ≡ 0 → (part_refusal m ≡ 0) × (sound_to m (word m count) ≡ true)
unfolding wide_refusal
wide m e = let a = neither (part_refusal m) _ e in (a.0, holds (sound_to m (word m count)) 1 a.1)

-- memory that a module-wide call accepts holds its channels
pub wide_framed : (m : List ℕ) → wide_refusal m ≡ 0 → Framed (length m) (word m count)
wide_framed m e = (standing m (wide m e).0).frame
