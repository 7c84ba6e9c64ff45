-- Where the refusals that hang on what a FIFO holds and on the transmitter are given, and where not.
-- Assumes nothing.
use Prim.Native.Nat.{ℕ, ◌≤◌, ◌<◌}
use mathlib.Core.Path.{◌≡◌, refl, ap}
use mathlib.Core.Bool.{Bool, true, false, cond}
use mathlib.Core.List.{List, [], ◌∷◌}
use native.Mathlib.Omega.{arith}
use borrow.Author.Tests.{eqb-true, eqb-false, le-ltb, lt-ltb}
use lib.Dec.{eqb, ltb}
use Rattle.ring.specs.Ring.{slots, last_slot}
use Rattle.block.specs.Layout.{word, transmitter, transmit_mode, receive_level, transmit_level}
use Rattle.block.specs.Modes.{scheduled}
use Rattle.block.specs.Ranges.{leasts, greatests, Usable}
use Rattle.block.proofs.Sound.{at_most}
use Rattle.channel_calls.specs.Answers.{numbers_of}
use Rattle.channel_calls.specs.Refusals.{above, below, receive_call_refusal, transmit_call_refusal}
use Rattle.channel_calls.specs.declared.calls.ReceiveCall.TheVariants.{ReadFifo}
use Rattle.channel_calls.specs.declared.calls.TransmitCall.TheVariants.{WriteFifo, WriteAsync, Trigger}
use Rattle.channel_calls.specs.Answer.{Fates}

-- below 1 is 0
below_one : (x : ℕ) → ltb x 1 ≡ eqb x 0
below_one x = go (eqb x 0) refl
  where
    go : (t : Bool) → eqb x 0 ≡ t → ltb x 1 ≡ t
    go true e = rw (eqb-true x 0 e) refl
    go false e = let n : 1 ≤ x = omega (arith, eqb-false x 0 e) in le-ltb x 1 n

-- "7 empty: receive FIFO read with none held"
pub read_refusal : (b : List ℕ) → receive_call_refusal ReadFifo b ≡ cond (eqb (word b receive_level) 0) 7 0
unfolding below
read_refusal b = ap (λ (t : Bool). cond t 7 0) (below_one (word b receive_level))

-- "6 full: transmit FIFO written while it holds 255"
pub write_refusal_lem : (w : ℕ) {b : List ℕ} → Usable b → transmit_call_refusal (WriteFifo w) b ≡ cond (eqb (word b transmit_level) slots) 6 0
unfolding above leasts greatests
write_refusal_lem w {b} u = ap (λ (t : Bool). cond t 6 0) (go (eqb (word b transmit_level) slots) refl)
  where
    go : (t : Bool) → eqb (word b transmit_level) slots ≡ t → ltb last_slot (word b transmit_level) ≡ t
    go true e = rw (eqb-true (word b transmit_level) slots e) refl
    go false e =
        let n : word b transmit_level ≤ last_slot = omega (arith, eqb-false (word b transmit_level) slots e, at_most u transmit_level (omega arith)) in
        le-ltb last_slot (word b transmit_level) n

-- a trigger is "refused with 5 if the transmitter is off"
pub trigger_refusal : (b : List ℕ) → transmit_call_refusal Trigger b ≡ cond (eqb (word b transmitter) 0) 5 0
unfolding below
trigger_refusal b = ap (λ (t : Bool). cond t 5 0) (below_one (word b transmitter))

-- "Async is refused with 5 outside scheduled mode"
pub async_refusal : (w : ℕ) {b : List ℕ} → Usable b → eqb (word b transmit_mode) scheduled ≡ false → transmit_call_refusal (WriteAsync w) b ≡ 5
unfolding below leasts greatests
async_refusal w {b} u e =
    let less : word b transmit_mode < scheduled = omega (arith, at_most u transmit_mode (omega arith), eqb-false (word b transmit_mode) scheduled e) in
    rw (lt-ltb (word b transmit_mode) scheduled less) refl

-- the numbers of a counts read, in the order in which the answer names them
pub counts_listed : (n a r c o t s d : ℕ) → numbers_of n (Fates a r c o t s d) ≡ 0 ∷ a ∷ r ∷ c ∷ o ∷ t ∷ s ∷ d ∷ []
counts_listed n a r c o t s d = refl
