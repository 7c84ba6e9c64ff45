-- The reader of the time before (vii), by the definitions that it was proved to equal; it knew kinds 1 and 2.
use Rattle.std.specs.Prelude.{ℕ, ◌+◌, ◌*◌, ◌-◌, ◌≡◌, Bool, true, cond, List, eqb, ltb, length}
use Rattle.capture.specs.Format.{arrival, old_image, old_image_commands, image, half, whole}
use Rattle.capture.specs.Read.{length_at, kind_at, channel_at, cut_of, channel_refusal, or_else, refusal_at}

unfoldable pub old_commands_of : ℕ → ℕ
old_commands_of kind = cond (eqb kind old_image) old_image_commands 0

unfoldable pub old_known : ℕ → Bool
unfolding old_commands_of
old_known kind = cond (eqb kind arrival) true (ltb 0 (old_commands_of kind))

unfoldable pub old_length_of : ℕ → ℕ
unfolding old_commands_of
old_length_of kind = half + half + cond (eqb kind arrival) (whole + whole) (whole * old_commands_of kind)

unfoldable pub old_kind_refusal : ℕ → ℕ → ℕ
old_kind_refusal long kind = cond (old_known kind) (cond (eqb long (old_length_of kind)) 0 21) 22

unfoldable pub old_refusal_at : List ℕ → ℕ → ℕ
unfolding cut_of old_kind_refusal channel_refusal
old_refusal_at b at =
    cond (ltb (length b - at) half) 20
    (or_else (cut_of (length b - at - half) (length_at b at)) (or_else (old_kind_refusal (length_at b at) (kind_at b at)) (channel_refusal (channel_at b at))))

-- "an old reader answers 22 to kind 3": to every such record that is read now; and of any other kind it says what is said now
unfoldable pub OldReader : Type 0
OldReader = (b : List ℕ) (at : ℕ)
    → (refusal_at b at ≡ 0 → kind_at b at ≡ image → old_refusal_at b at ≡ 22)
    × ((kind_at b at ≡ image → ⊥) → old_refusal_at b at ≡ refusal_at b at)
