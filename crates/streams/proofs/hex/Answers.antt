use Rattle.std.proofs.Common.{◌≡◌, ℕ, zero, suc, ◌-◌, ◌/◌, ◌%◌, ◌<◌, ◌≤◌, List, [], ◌∷◌, ◌++◌, arith, length, take, drop, set, length-set, refl, sym, ap, subst, ◌∙◌}
use lib.Seq.{slice, length-take-le, take-set-lt, append_snoc}
use native.Mathlib.Nat.{le_of_suc-le-suc, not-suc-le-zero}
use native.Mathlib.Numerals.{sub-one}
use Rattle.streams.specs.Digits.{hex_glyph, hex_text}
use Rattle.streams.proofs.hex.Goals as goal

-- after a store at j, the list from j on begins with what was stored
drop-set : (t : List ℕ) (j g : ℕ) → j < length t → drop j (set t j g) ≡ g ∷ drop (suc j) t
drop-set [] j g h = absurd (not-suc-le-zero h)
drop-set (x ∷ xs) zero g h = refl
drop-set (x ∷ xs) (suc j) g h = drop-set xs j g (le_of_suc-le-suc h)

-- a turn moves the last of the digits that are still to write to the front of those that are written
step : (i k rest g : ℕ) (out : List ℕ) → 0 < i → i ≤ k → k ≤ length out → g ≡ hex_glyph (rest % 16)
    → hex_text (i - 1) (rest / 16) ++ slice (i - 1) k (set out (i - 1) g) ≡ hex_text i rest ++ slice i k out
step zero k rest g out some h room e = absurd (not-suc-le-zero some)
step (suc j) k rest g out some h room e =
    let todo = hex_text j (rest / 16) in
    let done = slice (suc j) k out in
    let within : j < length (take k out) = subst (λ (n : ℕ). j < n) (sym (length-take-le k out room)) h in
    ap (λ (m : ℕ). hex_text m (rest / 16) ++ slice m k (set out m g)) (sub-one (suc j))
    ∙ ap (λ (l : List ℕ). todo ++ drop j l) (take-set-lt k out j g h)
    ∙ ap (λ (l : List ℕ). todo ++ l) (drop-set (take k out) j g within)
    ∙ ap (λ (x : ℕ). todo ++ x ∷ done) e
    ∙ sym (append_snoc todo (hex_glyph (rest % 16)) done)

pub loop-place-preserved : goal.loop-place-preserved
loop-place-preserved c =
    let l = c.loop-place in (
      simp length-set l.invariant.0,
      step l.place 8 l.rest c.hex_digit.result l.digits c.loop-place-test.true l.auto.place (omega arith) c.hex_digit.ensures ∙ l.invariant.1,
    )
