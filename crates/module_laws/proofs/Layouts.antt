-- Memory of another layout is refused by every call but power-up.
-- Assumes nothing.
use Prim.Native.Nat.{ℕ, ◌≤◌}
use mathlib.Core.Path.{◌≡◌, refl, sym}
use mathlib.Core.List.{List}
use native.Mathlib.Omega.{arith}
use borrow.Author.Tests.{ne_eqb}
use Rattle.block.specs.Layout.{word}
use Rattle.block.specs.Refusals.{leave_unless}
use Rattle.block.proofs.Refusals.{is_one}
use Rattle.channel_calls.specs.Answers.{answer_unless}
use Rattle.channel_calls.specs.Answer.{Answer, Refused}
use Rattle.channel_calls.specs.declared.calls.ChannelCall.{ChannelCall}
use Rattle.frame.specs.Layout.{layout, layout_number}
use Rattle.frame.specs.Refusals.{part_refusal, channel_of, address_refusal, wide_refusal}
use Rattle.frame.proofs.Refused.{other_layout}
use Rattle.wide.specs.Refusals.{call_refusal}
use Rattle.wide.specs.declared.calls.WideCall.{WideCall}
use Rattle.module.specs.OnChannel.{on_refusal}
use Rattle.module.specs.declared.calls.Call.TheVariants.{PowerUp, Reset, Wide, On}
use Rattle.module_laws.specs.Layouts.{OtherLayoutRefused}

-- what a refusal answers and leaves
refuses : (r n : ℕ) (a : Answer) (m' m : List ℕ) → r ≡ n → (n ≡ 0 → ⊥) → (answer_unless r a ≡ Refused n) × (leave_unless r m' m ≡ m)
refuses r n a m' m e z = rw (e, ne_eqb n 0 z) (refl, refl)

module _ (m : List ℕ) (n : word m layout ≡ layout_number → ⊥) where
  some : part_refusal m ≡ 0 → ⊥
  some z = omega (arith, other_layout m n)

  -- each refusal is that of the module part
  wide_is : wide_refusal m ≡ part_refusal m
  unfolding wide_refusal
  wide_is = sym (is_one (part_refusal m) _ (part_refusal m) refl some)

  call_is : (k : WideCall) → call_refusal k m ≡ part_refusal m
  unfolding call_refusal
  call_is k = sym (is_one (wide_refusal m) _ (part_refusal m) (sym wide_is) some)

  address_is : (ch : ℕ) → address_refusal m ch ≡ part_refusal m
  unfolding channel_of
  address_is ch = sym (is_one (part_refusal m) _ (part_refusal m) refl some)

  on_is : (ch : ℕ) (k : ChannelCall) → on_refusal ch k m ≡ part_refusal m
  unfolding on_refusal
  on_is ch k = sym (is_one (address_refusal m ch) _ (part_refusal m) (sym (address_is ch)) some)

  told : {a : Answer} {m' : List ℕ} → (a ≡ Refused (part_refusal m)) × (m' ≡ m)
      → (1 ≤ part_refusal m) × (part_refusal m ≤ 2) × (a ≡ Refused (part_refusal m)) × (m' ≡ m)
  told e = ((other_layout m n).0, (other_layout m n).1, e.0, e.1)

pub other_layout_refused : OtherLayoutRefused
unfolding OtherLayoutRefused
other_layout_refused (PowerUp k) m p n = absurd (p k refl)
other_layout_refused Reset m p n = told m n (refuses (wide_refusal m) (part_refusal m) _ _ m (wide_is m n) (some m n))
other_layout_refused (Wide k) m p n = told m n (refuses (call_refusal k m) (part_refusal m) _ _ m (call_is m n k) (some m n))
other_layout_refused (On ch k) m p n = told m n (refuses (on_refusal ch k m) (part_refusal m) _ _ m (on_is m n ch k) (some m n))
