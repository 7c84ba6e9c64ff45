-- Every arrival gets a reason, and the reason says what was done.
-- Assumes nothing.
use Prim.Native.Nat.{ℕ, zero, suc, ◌*◌}
use mathlib.Core.Path.{◌≡◌, refl, sym, ap, ◌∙◌, subst}
use mathlib.Core.List.{List, [], ◌∷◌}
use native.Mathlib.Omega.{arith}
use borrow.Author.Tests.{eq-eqb}
use lib.ListN.{length, take}
use lib.Seq.{length-take-le}
use Rattle.frame.specs.Layout.{need}
use Rattle.power.specs.Power.{power_refusal}
use Rattle.registers.specs.declared.accesses.Access.{Access}
use Rattle.std.proofs.Common.{Option, None, Some, Ok}
use Rattle.sessions.specs.Sessions.{item_bytes, item_at}
use Rattle.fates.specs.Theorem.{Started}
use Rattle.following.specs.Follows.{Explains}
use Rattle.following.proofs.Unique.{unique}
use Rattle.reasons.specs.Question as question
use Rattle.reasons.specs.Explained.{joined, accesses_to, working, reason_for, explained}
use Rattle.reasons.specs.Theorem.{told, answer, AlwaysOneReason}
use Rattle.reasons.proofs.Refusing.{accepted, asked}
use Rattle.reasons.proofs.Reason.{reason_is}

-- the list starts with an accepted power-up
started_more : (m : List ℕ) (k : ℕ) (i : Option Access) (before : List (ℕ × Access)) → Started m before → Started m (joined k i before)
started_more m k None before s = s
started_more m k (Some x) [] s = absurd s
started_more m k (Some x) (y ∷ before) s = s

started_to : (count : ℕ) (bytes m : List ℕ) → power_refusal count (length (take (need count) m)) ≡ 0 → (n : ℕ) → Started m (accesses_to count bytes n)
started_to count bytes m e zero = rw (eq-eqb _ 0 e) refl
started_to count bytes m e (suc n) = started_more m (need count) (item_at bytes (item_bytes * n)) (accesses_to count bytes n) (started_to count bytes m e n)

module _ (count : ℕ) (bytes : List ℕ) (place : ℕ) (m : List ℕ) (e : question.question_refusal count bytes place (length m) ≡ 0) where
  is_given : explained count bytes place m ≡ Ok (reason_for count bytes place (working count m))
  unfolding explained
  is_given = rw (eq-eqb (question.question_refusal count bytes place (length m)) 0 e) refl

pub always_one_reason : AlwaysOneReason
always_one_reason count bytes place m e =
    let q = asked count bytes place (length m) e in
    let size : length (working count m) ≡ need count = length-take-le (need count) m q.0 in
    let again : length (take (need count) (working count m)) ≡ need count = length-take-le (need count) (working count m) (rw size (omega arith)) in
    let r = reason_is count bytes place (working count m) size q.1 in
    record {
      started =
          started_to count bytes (working count m) (accepted count q.1.some q.1.most (length (take (need count) (working count m))) again) (question.whole_count bytes);
      reason = reason_for count bytes place (working count m);
      accepted = is_given count bytes place m e;
      explains =
          subst (Explains (answer count bytes place m) (question.channel_at bytes place) (suc place) (told count bytes place m)) r.is r.explains;
      no_other = λ other x. unique (answer count bytes place m) (question.channel_at bytes place) (suc place) (told count bytes place m) other x;
    }
