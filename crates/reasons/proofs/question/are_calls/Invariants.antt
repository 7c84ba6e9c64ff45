-- The items passed are calls.
use Rattle.std.proofs.Common.{◌≡◌, true}
use Rattle.reasons.specs.Question.{calls_to}
use Rattle.reasons.proofs.question.are_calls.Given as goal

abbrev pub invariant-loop-done : goal.invariant-loop-done
invariant-loop-done l = calls_to l.done l.bytes ≡ true
