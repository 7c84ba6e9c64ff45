-- The bytes from the index on give what the whole text gives.
use Rattle.std.proofs.Common.{◌≡◌, drop}
use Rattle.explain.specs.Number.{read_on, number_in}
use Rattle.explain.proofs.number_in.Given as goal

abbrev pub invariant-loop-byte : goal.invariant-loop-byte
invariant-loop-byte l = read_on l.token (drop l.byte-index l.text) ≡ number_in l.text
