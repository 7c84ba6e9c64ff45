-- `word_text::digits` meets its contract: so many digits are taken, and what is left to take are those behind them.
-- Assumes nothing.
use Rattle.std.proofs.Common.{◌≤◌}
use Rattle.word_text.proofs.Laws.{Taken}
use Rattle.word_text.proofs.digits.Given as goal

abbrev pub invariant-loop-count : goal.invariant-loop-count
invariant-loop-count l = record { few : l.count ≤ 8; taken : Taken l.text l.count l.value }
