-- An old reader answers 22 to kind 3, and to every other kind what is answered now.
-- Assumes nothing.
use Prim.Native.Nat.{ℕ, ◌-◌, ◌≤◌}
use mathlib.Core.Path.{◌≡◌, refl}
use native.Mathlib.Omega.{arith}
use borrow.Author.Tests.{ne_eqb, le-ltb}
use lib.ListN.{length}
use Rattle.capture.specs.Format.{image, commands_of, known, length_of, half}
use Rattle.capture.specs.Read.{length_at, kind_at, cut_of, kind_refusal, refusal_at}
use Rattle.capture.specs.Old.{old_commands_of, old_known, old_length_of, old_kind_refusal, old_refusal_at, OldReader}
use Rattle.capture.proofs.Sizes.{covers}
use Rattle.capture.proofs.Sound.{sound}

-- what it says of a kind
unknown : (long kind : ℕ) → kind ≡ image → old_kind_refusal long kind ≡ 22
unfolding old_kind_refusal old_known old_commands_of
unknown long kind e = rw e refl

same_kind : (long kind : ℕ) → (kind ≡ image → ⊥) → old_kind_refusal long kind ≡ kind_refusal long kind
unfolding old_kind_refusal old_known old_length_of old_commands_of kind_refusal known length_of commands_of
same_kind long kind n = rw (ne_eqb kind image n) refl

pub old_reader : OldReader
unfolding OldReader old_refusal_at refusal_at cut_of
old_reader b at = (
  λ z k.
      let s = sound b at z in
      let c = covers (kind_at b at) in
      let e₁ : half ≤ length b - at = omega (arith, s.room, s.long) in
      let e₂ : length_at b at ≤ length b - at - half = omega (arith, s.room) in
      let e₃ : half ≤ length_at b at = omega (arith, s.long) in
      rw (
        le-ltb (length b - at) half e₁,
        le-ltb (length b - at - half) (length_at b at) e₂,
        le-ltb (length_at b at) half e₃,
        unknown (length_at b at) (kind_at b at) k,
      ) refl,
  λ n. rw (same_kind (length_at b at) (kind_at b at) n) refl,
)
