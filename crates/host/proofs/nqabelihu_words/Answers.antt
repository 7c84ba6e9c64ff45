-- `host::nqabelihu_words` meets its contract: each branch is a case of the definition.
-- Assumes nothing.
use Rattle.word.proofs.Branches.{branches}
use Rattle.host.specs.Host.{host_words}
use borrow.Author.Rules.{rules}
use Rattle.host.proofs.nqabelihu_words.Goals as goal

pub returns : goal.returns
unfolding host_words
returns c = search (branches, c.need.ensures)

pub returns-then-count-lt1 : goal.returns-then-count-lt1
unfolding host_words
returns-then-count-lt1 c = search branches

pub returns-then-count-gt-MOST : goal.returns-then-count-gt-MOST
unfolding host_words
returns-then-count-gt-MOST c = search branches

pub need-requires : goal.need-requires
unfolding host_words
need-requires c = search rules
