-- The rule on every channel after a module-wide write (paper 01, "Faults and status").
use Rattle.std.specs.Prelude.{ℕ, ◌+◌, ◌-◌, List}
use Rattle.block.specs.Layout.{word}
use Rattle.status.specs.Status.{faulty, holding, ruled}
use Rattle.frame.specs.Layout.{count, threshold, counters, block}
use Rattle.frame.specs.Each.{each_to}

-- "6 counter above threshold": the rule on a channel's block, by the threshold before the write and now; no other condition changes
abbrev pub ruled_block : ℕ → ℕ → ℕ → List ℕ → List ℕ
ruled_block counter old now' b = ruled (holding (faulty counter old) b) (holding (faulty counter now') b) b

-- "Each channel has a fault counter, kept in the module part": the rule on a channel's block, by its counter and the threshold in the memory
unfoldable pub ruled_channel : ℕ → List ℕ → ℕ → List ℕ
ruled_channel old m ch = ruled_block (word m (counters + (ch - 1))) old (word m threshold) (block m ch)

-- "Module-wide writes apply the rule to every channel": on channels 1 to n
abbrev pub ruled_to : ℕ → ℕ → List ℕ → List ℕ
ruled_to old n m = each_to (ruled_channel old) n m

-- "did not before the call": on every channel of a memory after a write, with the threshold and the count as they were before it
abbrev pub ruled_all : List ℕ → List ℕ → List ℕ
ruled_all m m' = ruled_to (word m threshold) (word m count) m'
