-- `capture::writing::put_commands` meets its contract: each turn writes one command more.
-- Assumes nothing.
use Rattle.std.proofs.Common.{arith}
use Rattle.capture.proofs.Put.{one_command}
use Rattle.capture.proofs.writing.put_commands.Goals as goal

pub loop-i-preserved : goal.loop-i-preserved
loop-i-preserved c = let a = c.args in
    one_command a.bytes.now c.loop-i.bytes _ a.commands.now a.at c.loop-i.i (omega arith) c.loop-i.invariant c.put_word.ensures
