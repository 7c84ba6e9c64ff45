-- What one reading leaves, by what it answered.
-- Assumes nothing.
use Rattle.std.proofs.Common.{◌≡◌, ℕ, ◌<◌, ◌≤◌, List, length, Ok, Some, ap, ◌∙◌}
use Rattle.capture.specs.Laws.{MovesOn}
use Rattle.capture.specs.Numbers.{answer_of}
use Rattle.capture.specs.declared.reading.Answer.{Answer}
use Rattle.capture.specs.Read.{read_at}
use Rattle.capture.specs.declared.reading.Found.{Found}
use Rattle.capture.proofs.Known.{some_kind}
use Rattle.capture.proofs.Theorems.{moves_on}

pub moved : (bytes : List ℕ) (at lent : ℕ) (found : Found) → answer_of at (Ok (Some found)) ≡ read_at bytes at lent
    → (at < found.next.offset) × (found.next.offset ≤ length bytes)
unfolding MovesOn
moved bytes at lent found e =
    rw (ap (λ (x : Answer). x.next.offset) e) (moves_on bytes at lent (λ z. some_kind found.kind (ap (λ (x : Answer). x.kind) e ∙ z)))
