-- `capture::writing::put_arrival` meets its contract: the head, the word and the stamp are the bytes of an arrival.
-- Assumes nothing.
use native.Mathlib.Omega.{arith}
use Rattle.capture.proofs.Put.{put_arrival}
use Rattle.capture.specs.Format.{length_of}
use Rattle.capture.proofs.writing.put_arrival.Goals as goal

pub put_head-requires : goal.put_head-requires
unfolding length_of
put_head-requires c = omega arith

pub put_word-requires : goal.put_word-requires
unfolding length_of
put_word-requires c = omega arith

pub put_word-requires-2 : goal.put_word-requires-2
unfolding length_of
put_word-requires-2 c = omega arith

pub returns : goal.returns
unfolding length_of
returns c = let a = c.args in
    put_arrival a.bytes.now _ _ _ a.at a.channel a.word a.stamp
    (rw c.into.ensures at c.put_head.ensures)
    c.put_word.ensures c.put_word-2.ensures
