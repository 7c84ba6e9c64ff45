-- What stands in the words of an answer: a refusal's zeros, a step's four numbers; and the list read back.
-- Assumes nothing.
use Prim.Native.Nat.{ℕ, suc, ◌+◌, ◌-◌, ◌≤◌}
use mathlib.Core.Path.{◌≡◌, refl, sym, ap, ◌∙◌}
use mathlib.Core.List.{List, [], ◌∷◌, ◌++◌}
use native.Mathlib.Omega.{arith}
use lib.ListN.{length, replicate, get_or, length-append, length-replicate, replicate-append-replicate}
use Rattle.schedule.specs.Output.{values}
use Rattle.schedule.specs.declared.Output.{Output}
use Rattle.schedule.specs.declared.Output.TheVariants.{Quiet, FifoWord, Message, Null, Async, Reserved, NullMessage}
use Rattle.channel_calls.specs.Answer.{accepted}
use Rattle.channel_calls.specs.Answers.{numbers_of}
use Rattle.channel_calls.specs.declared.calls.Reply.{Reply}
use Rattle.channel_calls.specs.declared.calls.Reply.TheVariants as reply
use Rattle.calls.specs.Listed.{Lists}
use Rattle.calls.specs.declared.answers.Numbers.{Numbers}

-- some zeros and the rest of seven
zeros : (n : ℕ) → n ≤ 7 → replicate {A = ℕ} 7 0 ≡ replicate {A = ℕ} n 0 ++ replicate {A = ℕ} (8 - suc n) 0
zeros n h =
    let e : n + (8 - suc n) ≡ 7 = omega (arith, h) in
    sym (replicate-append-replicate {A = ℕ} n (8 - suc n) 0 ∙ ap (λ (k : ℕ). replicate {A = ℕ} k 0) e)

pub refused : (r n v : ℕ) → (v ≡ n) × (v ≤ 7) → (1 + v ≡ length (r ∷ replicate {A = ℕ} n 0)) × (r ∷ replicate {A = ℕ} 7 0 ≡ (r ∷ replicate {A = ℕ} n 0) ++ replicate {A = ℕ} (8 - length (r ∷ replicate {A = ℕ} n 0)) 0)
refused r n v (e, h) = rw (length-replicate {A = ℕ} n 0, ← e) (omega arith, ap {B = List ℕ} (λ t. r ∷ t) (zeros v h))

pub stepped : (o : Output) (v : List ℕ) → v ≡ values o → (5 ≡ length (0 ∷ values o)) × (0 ∷ get_or v 0 0 ∷ get_or v 1 0 ∷ get_or v 2 0 ∷ get_or v 3 0 ∷ 0 ∷ 0 ∷ 0 ∷ [] ≡ (0 ∷ values o) ++ replicate {A = ℕ} (8 - length (0 ∷ values o)) 0)
unfolding values
stepped Quiet v e = rw e (refl, refl)
stepped (FifoWord w g) v e = rw e (refl, refl)
stepped (Message w) v e = rw e (refl, refl)
stepped (Null g) v e = rw e (refl, refl)
stepped (Async w g) v e = rw e (refl, refl)
stepped (Reserved a) v e = rw e (refl, refl)
stepped (NullMessage w) v e = rw e (refl, refl)

-- the count is at most the number of words
pub within : (n : Numbers) (l : List ℕ) → Lists n l → n.count ≤ length n.words
within n l (c, w) = rw (c, w, length-append l (replicate {A = ℕ} (8 - length l) 0)) (omega arith)

-- a reply has its own values, whatever a refusal of the same access would have
pub any_values : (n : ℕ) (r : Reply) → numbers_of 0 (accepted r) ≡ numbers_of n (accepted r)
any_values n reply.Done = refl
any_values n (reply.Value x) = refl
any_values n (reply.Waiting m w) = refl
any_values n (reply.Fates a r c o t s d) = refl
any_values n (reply.Arrived a) = refl
any_values n (reply.Entry s w t) = refl
any_values n (reply.Stepped o) = refl
