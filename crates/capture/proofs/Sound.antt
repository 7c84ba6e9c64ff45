-- What is known of a record whose refusal is 0.
-- Assumes nothing.
use Prim.Native.Nat.{ℕ, ◌+◌, ◌-◌, ◌≤◌}
use mathlib.Core.Path.{◌≡◌, refl}
use mathlib.Core.Bool.{Bool, true, false, cond}
use mathlib.Core.List.{List}
use native.Mathlib.Omega.{arith}
use borrow.Author.Tests.{ltb-false, eqb-true, eqb-false}
use lib.Dec.{eqb, ltb}
use lib.ListN.{length}
use Rattle.capture.specs.Format.{known, length_of, half}
use Rattle.capture.specs.Read.{length_at, kind_at, channel_at, cut_of, kind_refusal, channel_refusal, or_else, refusal_at}

pub or_else_lem : (m n : ℕ) → or_else m n ≡ 0 → (m ≡ 0) × (n ≡ 0)
or_else_lem m n = of (eqb m 0) refl
  where
    of : (t : Bool) → eqb m 0 ≡ t → cond t n m ≡ 0 → (m ≡ 0) × (n ≡ 0)
    of true e h = (eqb-true m 0 e, h)
    of false e h = absurd (eqb-false m 0 e h)

pub not_cut : (rest long : ℕ) → cut_of rest long ≡ 0 → (long ≤ rest) × (half ≤ long)
unfolding cut_of
not_cut rest long = of (ltb rest long) refl (ltb long half) refl
  where
    of : (t : Bool) → ltb rest long ≡ t → (s : Bool) → ltb long half ≡ s → ◌≡◌ {A = ℕ} (cond t 20 (cond s 21 0)) 0 → (long ≤ rest) × (half ≤ long)
    of true e s f h = absurd (omega (arith, h))
    of false e true f h = absurd (omega (arith, h))
    of false e false f h = (ltb-false rest long e, ltb-false long half f)

pub of_kind : (long kind : ℕ) → kind_refusal long kind ≡ 0 → (known kind ≡ true) × (long ≡ length_of kind)
unfolding kind_refusal
of_kind long kind = of (known kind) refl (eqb long (length_of kind)) refl
  where
    of : (t : Bool) → known kind ≡ t → (s : Bool) → eqb long (length_of kind) ≡ s → ◌≡◌ {A = ℕ} (cond t (cond s 0 21) 22) 0 → (known kind ≡ true) × (long ≡ length_of kind)
    of true e true f h = (e, eqb-true long (length_of kind) f)
    of true e false f h = absurd (omega (arith, h))
    of false e s f h = absurd (omega (arith, h))

pub of_channel : (channel : ℕ) → channel_refusal channel ≡ 0 → (1 ≤ channel) × (channel ≤ 12)
unfolding channel_refusal
of_channel channel = of (ltb channel 1) refl (ltb 12 channel) refl
  where
    of : (t : Bool) → ltb channel 1 ≡ t → (s : Bool) → ltb 12 channel ≡ s → ◌≡◌ {A = ℕ} (cond t 23 (cond s 23 0)) 0 → (1 ≤ channel) × (channel ≤ 12)
    of true e s f h = absurd (omega (arith, h))
    of false e true f h = absurd (omega (arith, h))
    of false e false f h = (ltb-false channel 1 e, ltb-false 12 channel f)

pub record Sound (b : List ℕ) (at : ℕ) : Type 0 where
  pub room : at + half + length_at b at ≤ length b
  pub is_known : known (kind_at b at) ≡ true
  pub long : length_at b at ≡ length_of (kind_at b at)
  pub low : 1 ≤ channel_at b at
  pub high : channel_at b at ≤ 12

pub sound : (b : List ℕ) (at : ℕ) → refusal_at b at ≡ 0 → Sound b at
unfolding refusal_at
sound b at = of (ltb (length b - at) half) refl
  where
    of : (t : Bool) → ltb (length b - at) half ≡ t
        → cond t 20 (or_else (cut_of (length b - at - half) (length_at b at)) (or_else (kind_refusal (length_at b at) (kind_at b at)) (channel_refusal (channel_at b at)))) ≡ 0
        → Sound b at
    of true e h = absurd (omega (arith, h))
    of false e h =
        let l = ltb-false (length b - at) half e in
        let p = or_else_lem (cut_of (length b - at - half) (length_at b at)) (or_else (kind_refusal (length_at b at) (kind_at b at)) (channel_refusal (channel_at b at))) h in
        let q = or_else_lem (kind_refusal (length_at b at) (kind_at b at)) (channel_refusal (channel_at b at)) p.1 in
        let c = not_cut (length b - at - half) (length_at b at) p.0 in
        let k = of_kind (length_at b at) (kind_at b at) q.0 in
        let ch = of_channel (channel_at b at) q.1 in
        record { room = omega arith; is_known = k.0; long = k.1; low = ch.0; high = ch.1 }
