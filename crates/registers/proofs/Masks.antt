-- The mask of the channels that refused.
-- Assumes nothing.
use Prim.Native.Nat.{ℕ, zero, suc, ◌+◌, ◌-◌, ◌^◌, ◌≤◌, ◌<◌}
use mathlib.Core.Path.{◌≡◌, refl, sym, ap, ◌∙◌}
use mathlib.Core.Bool.{Bool, true, false, cond}
use mathlib.Core.List.{List}
use native.Mathlib.Nat.{pow-suc}
use native.Mathlib.Numerals.{add-one}
use native.Mathlib.Omega.{arith}
use borrow.Author.Tests.{ne_eqb}
use Rattle.bits.specs.Bits.{bit_at}
use Rattle.channel_calls.specs.Answers.{is_refused}
use Rattle.channel_calls.specs.Answer.{Answer}
use Rattle.channel_calls.specs.declared.calls.ChannelCall.{ChannelCall}
use Rattle.module.specs.OnChannel.{on_answer, on_after}
use Rattle.registers.specs.Masked.{control_call, is_named, tried_on, refused_on, tried_to, refused_to}
use Rattle.register_map.specs.declared.map.Control.{Control}

module _ (c : Control) (mask : ℕ) where
  -- a channel that is named and tried with answer a
  pub tried : (ch : ℕ) (m m' : List ℕ) (k : ChannelCall) (a : Answer) → (bit_at mask (ch - 1) ≡ 0 → ⊥) → k ≡ control_call c → a ≡ on_answer ch k m
      → m' ≡ on_after ch k m → (refused_on c mask ch m ≡ cond (is_refused a) (2 ^ (ch - 1)) 0) × (m' ≡ tried_on c mask ch m)
  unfolding refused_on tried_on
  tried ch m m' k a n e f g =
      rw (ne_eqb (bit_at mask (ch - 1)) 0 n)
      (ap (λ (x : Answer). cond (is_refused x) (2 ^ (ch - 1)) 0) (sym (f ∙ ap (λ (x : ChannelCall). on_answer ch x m) e)), g ∙ ap (λ (x : ChannelCall). on_after ch x m) e)

  bit_fits : (ch : ℕ) (m : List ℕ) → refused_on c mask ch m ≤ 2 ^ (ch - 1)
  unfolding refused_on
  bit_fits ch m = go (2 ^ (ch - 1)) (is_named mask ch) (is_refused (on_answer ch (control_call c) m))
    where
      go : (w : ℕ) (s t : Bool) → cond s (cond t w 0) 0 ≤ w
      go w true true = omega arith
      go w true false = omega arith
      go w false t = omega arith

  -- the bits of channels 1 to n
  pub refused_fits : (n : ℕ) (m : List ℕ) → refused_to c mask n m < 2 ^ n
  unfolding refused_to
  refused_fits zero m = omega arith
  refused_fits (suc n) m =
      let e : suc n - 1 ≡ n = omega arith in
      rw pow-suc (omega (arith, refused_fits n m, rw e at (bit_fits (suc n) (tried_to c mask n m))))

  -- the next channel behind channels 1 to n
  pub next : (n r x : ℕ) (m m' m'' : List ℕ) → r ≡ refused_to c mask n m → m' ≡ tried_to c mask n m → x ≡ refused_on c mask (n + 1) m'
      → m'' ≡ tried_on c mask (n + 1) m' → (r + x ≡ refused_to c mask (n + 1) m) × (m'' ≡ tried_to c mask (n + 1) m)
  unfolding refused_to tried_to
  next n r x m m' m'' e f g h = rw (g, h, e, f, add-one) (refl, refl)
