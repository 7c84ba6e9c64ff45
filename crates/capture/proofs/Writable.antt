-- What is known of a record that is refused for nothing on writing, and what a writing does by its refusal.
-- Assumes nothing.
use Prim.Native.Nat.{ℕ, ◌+◌, ◌-◌, ◌≤◌}
use mathlib.Core.Path.{◌≡◌, refl, sym, ◌∙◌}
use mathlib.Core.Bool.{Bool, true, false, cond}
use mathlib.Core.List.{List}
use native.Mathlib.Omega.{arith}
use borrow.Author.Tests.{ltb-false, eqb-true, eq-eqb, ne_eqb}
use lib.Dec.{eqb, ltb}
use lib.ListN.{length}
use lib.Seq.{sets}
use Rattle.capture.specs.Format.{Record, commands_of, known, length_of, half, bytes_of}
use Rattle.capture.specs.Read.{channel_refusal, or_else}
use Rattle.capture.specs.Write.{Written, count_refusal, room_refusal, write_refusal, refusal_of, written, bytes_after}
use Rattle.capture.proofs.Sound.{or_else_lem, of_channel}

pub of_count : (kind count : ℕ) → count_refusal kind count ≡ 0 → (known kind ≡ true) × (count ≡ commands_of kind)
unfolding count_refusal
of_count kind count = of (known kind) refl (eqb count (commands_of kind)) refl
  where
    of : (t : Bool) → known kind ≡ t → (s : Bool) → eqb count (commands_of kind) ≡ s → ◌≡◌ {A = ℕ} (cond t (cond s 0 21) 22) 0
        → (known kind ≡ true) × (count ≡ commands_of kind)
    of true e true f h = (e, eqb-true count (commands_of kind) f)
    of true e false f h = absurd (omega (arith, h))
    of false e s f h = absurd (omega (arith, h))

pub of_room : (room kind : ℕ) → room_refusal room kind ≡ 0 → half + length_of kind ≤ room
unfolding room_refusal
of_room room kind = of (ltb room (half + length_of kind)) refl
  where
    of : (t : Bool) → ltb room (half + length_of kind) ≡ t → ◌≡◌ {A = ℕ} (cond t 24 0) 0 → half + length_of kind ≤ room
    of true e h = absurd (omega (arith, h))
    of false e h = ltb-false room (half + length_of kind) e

pub record Writable (room kind channel count : ℕ) : Type 0 where
  pub is_known : known kind ≡ true
  pub counted : count ≡ commands_of kind
  pub low : 1 ≤ channel
  pub high : channel ≤ 12
  pub fits : half + length_of kind ≤ room

pub writable : (room kind channel count : ℕ) → write_refusal room kind channel count ≡ 0 → Writable room kind channel count
unfolding write_refusal
writable room kind channel count h =
    let p = or_else_lem (count_refusal kind count) (or_else (channel_refusal channel) (room_refusal room kind)) h in
    let q = or_else_lem (channel_refusal channel) (room_refusal room kind) p.1 in
    let k = of_count kind count p.0 in
    let ch = of_channel channel q.0 in
    record { is_known = k.0; counted = k.1; low = ch.0; high = ch.1; fits = of_room room kind q.1 }

-- what a writing answers, and what it leaves of the bytes
abbrev pub Writes : List ℕ → ℕ → Record → Written → List ℕ → Type 0
Writes b at r w c = (w ≡ written (length b) at r) × (c ≡ bytes_after b at r)

pub refused : (b : List ℕ) (at : ℕ) (r : Record) (room number : ℕ) → room ≡ length b - at → number ≡ write_refusal room r.kind r.channel (length r.commands)
    → (number ≡ 0 → ⊥) → Writes b at r (record { number = number; next = record { offset = 0 } }) b
unfolding written bytes_after
refused b at r room number e is n =
    let i : number ≡ refusal_of (length b) at r = rw e at is in
    rw (i, ne_eqb (refusal_of (length b) at r) 0 (λ z. n (i ∙ z))) (refl, refl)

pub done : (b c : List ℕ) (at : ℕ) (r : Record) (room number long : ℕ) → room ≡ length b - at
    → number ≡ write_refusal room r.kind r.channel (length r.commands) → number ≡ 0 → long ≡ length_of r.kind → c ≡ sets b at (bytes_of r)
    → Writes b at r (record { number = 0; next = record { offset = at + half + long } }) c
unfolding written bytes_after
done b c at r room number long e is z l s =
    let i : refusal_of (length b) at r ≡ 0 = sym (rw e at is) ∙ z in
    rw (s, l, eq-eqb (refusal_of (length b) at r) 0 i) (refl, refl)
