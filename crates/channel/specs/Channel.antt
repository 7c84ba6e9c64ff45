-- A call on one channel: what it answers and what it leaves, with the rule (paper 01, "Faults and status").
use Rattle.std.specs.Prelude.{ℕ, ◌+◌, List}
use Rattle.status.specs.Status.{holding, ruled}
use Rattle.channel_groups.specs.Groups.{did_answer, did_leave, did_signal, status_shown}
use Rattle.channel_calls.specs.declared.calls.ChannelCall.{ChannelCall}
use Rattle.channel_calls.specs.declared.calls.ChannelCall.TheVariants.{Settings, Memories, Status, Tests, Reads, Receive, Transmit}
use Rattle.channel_calls.specs.declared.calls.Given.{Given}
use Rattle.channel_calls.specs.Answer.{Answer}

-- "After every accepted call on a channel": the rule, on what the call left
abbrev pub block_after : Given → ChannelCall → List ℕ → List ℕ
block_after g k b = ruled (holding g.before b) (holding g.after (did_leave g.stamp k b) + did_signal k b) (did_leave g.stamp k b)

abbrev pub answer_shown : ChannelCall → List ℕ → Answer → Answer
answer_shown (Settings k) b a = a
answer_shown (Memories k) b a = a
answer_shown (Status k) b a = status_shown k b a
answer_shown (Tests k) b a = a
answer_shown (Reads k) b a = a
answer_shown (Receive k) b a = a
answer_shown (Transmit k) b a = a

abbrev pub block_answer : Given → ChannelCall → List ℕ → Answer
block_answer g k b = answer_shown k (block_after g k b) (did_answer k b)
