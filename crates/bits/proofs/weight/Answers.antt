-- `bits::bits::weight` meets its contract: a power of two below 2 ^ 32.
-- Assumes nothing.
use native.Mathlib.Nat.{one-mul, mod-eq_of_lt}
use lib.Pow.{pow-lt}
use borrow.Author.Rules.{rules}
use Rattle.bits.proofs.weight.Goals as goal

pub returns : goal.returns
returns c = rw one-mul (mod-eq_of_lt (pow-lt {j = 32} (search rules)))
