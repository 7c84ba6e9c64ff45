-- What a refused call answers, the number of its refusal; and a reply is no refusal.
-- Assumes nothing.
use Prim.Native.Nat.{ℕ}
use mathlib.Core.Path.{◌≡◌, refl, sym, ap, ◌∙◌}
use mathlib.Core.Bool.{Bool, false, cond}
use borrow.Author.Tests.{ne_eqb}
use Rattle.block.specs.Refusals.{refusal_number}
use Rattle.block.specs.declared.refusal.Refusal.{Refusal}
use Rattle.block.proofs.Refusals.{numbered}
use Rattle.channel_calls.specs.Answer.{Answer, Refused, accepted}
use Rattle.channel_calls.specs.Answers.{answer_unless, is_refused}
use Rattle.channel_calls.specs.declared.calls.Reply.{Reply}
use Rattle.channel_calls.specs.declared.calls.Reply.TheVariants as reply

pub refused : (r : Refusal) (n : ℕ) (a : Answer) → refusal_number r ≡ n → Refused (refusal_number r) ≡ answer_unless n a
refused r n a e = ap Refused e ∙ sym (ap (λ (t : Bool). cond t a (Refused n)) (ne_eqb n 0 (λ q. numbered r (e ∙ q))))

pub not_refused : (r : Reply) → is_refused (accepted r) ≡ false
not_refused reply.Done = refl
not_refused (reply.Value x) = refl
not_refused (reply.Waiting m w) = refl
not_refused (reply.Fates a r c o t s d) = refl
not_refused (reply.Arrived a) = refl
not_refused (reply.Entry s w t) = refl
not_refused (reply.Stepped o) = refl
