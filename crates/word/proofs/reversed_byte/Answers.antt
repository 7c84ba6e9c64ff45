-- `word::reversed_byte` meets its contract: one test over the whole table, computed, and carried to the entry that is read.
-- Assumes nothing.
use Rattle.std.proofs.Common.{Bool, ℕ, get_or}
use lib.Dec.{eqb, eqb→eq}
use borrow.Author.Rules.{rules}
use Rattle.word.specs.Word.{reversed}
use Rattle.word.specs.declared.labels.TheConstants.{REVERSED}
use Rattle.word.proofs.Computed.{at}
use Rattle.word.proofs.reversed_byte.Goals as goal

abbrev right : ℕ → Bool
right byte = eqb (get_or REVERSED byte 0) (reversed byte)

pub returns : goal.returns
unfolding reversed
returns c = rw c.from.ensures (eqb→eq (get_or REVERSED c.args.byte 0) (reversed c.args.byte) (at right 256 tt c.args.byte (search rules)))
