-- `reasons::items_of::item_at` meets its contract: the item is made of the four words.
-- Assumes nothing.
use mathlib.Core.Path.{◌∙◌}
use Rattle.sessions.proofs.Items.{made_of}
use borrow.Author.Rules.{rules}
use Rattle.reasons.proofs.items_of.item_at.Goals as goal

pub returns : goal.returns
returns c = let a = c.args in
    c.decode.ensures
    ∙ made_of a.bytes.now a.at c.word_at.result c.word_at-2.result c.word_at-3.result c.word_at-4.result
    c.word_at.ensures c.word_at-2.ensures c.word_at-3.ensures c.word_at-4.ensures
