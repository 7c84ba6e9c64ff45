-- `sessions::perform_at` meets its contract: the item is made of the four words.
-- Assumes nothing.
use Rattle.sessions.proofs.Items.{made_of}
use Rattle.sessions.proofs.perform_at.Goals as goal

pub returns : goal.returns
returns c = let a = c.args in
    let item =
    made_of a.bytes.now a.at c.word_at.result c.word_at-2.result c.word_at-3.result c.word_at-4.result
    c.word_at.ensures c.word_at-2.ensures c.word_at-3.ensures c.word_at-4.ensures in
    rw (← item) (record { answer = c.perform_item.ensures.answer; after = c.perform_item.ensures.after })
