-- A call on one channel of a module's memory (paper 01, "Memory and answer numbers" and "Faults and status").
use Rattle.std.specs.Prelude.{ℕ, ◌+◌, ◌-◌, ◌≤◌, List, length, set}
use Rattle.block.specs.Layout.{word, block_words}
use Rattle.block.specs.Refusals.{first, leave_unless}
use Rattle.status.specs.Status.{faulty}
use Rattle.channel_calls.specs.Refusals.{channel_refusal}
use Rattle.channel_calls.specs.Answers.{answer_unless}
use Rattle.channel.specs.Channel.{block_answer, block_after}
use Rattle.channel_calls.specs.Answer.{Answer}
use Rattle.channel_calls.specs.declared.calls.ChannelCall.{ChannelCall}
use Rattle.channel_calls.specs.declared.calls.ChannelCall.TheVariants.{Settings, Memories, Status, Tests, Reads, Receive, Transmit}
use Rattle.channel_calls.specs.declared.calls.TestCall.{TestCall}
use Rattle.channel_calls.specs.declared.calls.TestCall.TheVariants.{Sample, ResetTest, InitiateTest}
use Rattle.channel_calls.specs.declared.calls.Given.{Given}
use Rattle.frame.specs.Layout.{stamp, threshold, counters, module_words, most, base, block, with_block}
use Rattle.frame.specs.Counters.{sampled}
use Rattle.frame.specs.Refusals.{address_refusal}

-- "Tested in number order; the first that applies is given": the memory and the channel, then the call
unfoldable pub on_refusal : ℕ → ChannelCall → List ℕ → ℕ
on_refusal ch k m = first (address_refusal m ch) (channel_refusal k (block m ch))

-- a channel that stands in the memory
pub record Room (m : List ℕ) (ch : ℕ) : Type 0 where
  pub low : 1 ≤ ch
  pub high : ch ≤ most
  pub part : module_words ≤ length m
  pub end : base ch + block_words ≤ length m

-- a channel's fault counter, "kept in the module part"
abbrev pub counter_at : ℕ → ℕ
counter_at ch = counters + (ch - 1)

-- "A reset of a channel's test zeroes its counter."
abbrev pub test_counter : TestCall → ℕ → ℕ
test_counter (Sample r) x = sampled r x
test_counter ResetTest x = 0
test_counter (InitiateTest r) x = x

-- the counter after a call
abbrev pub counter_after : ChannelCall → ℕ → ℕ
counter_after (Settings k) x = x
counter_after (Memories k) x = x
counter_after (Status k) x = x
counter_after (Tests k) x = test_counter k x
counter_after (Reads k) x = x
counter_after (Receive k) x = x
counter_after (Transmit k) x = x

-- what the call needs from the module part: the stamp, and condition 6 before and after
abbrev pub given_of : ℕ → ChannelCall → List ℕ → Given
given_of ch k m =
    record {
      stamp = word m stamp;
      before = faulty (word m (counter_at ch)) (word m threshold);
      after = faulty (counter_after k (word m (counter_at ch))) (word m threshold);
    }

-- what an accepted call leaves: the counter and the channel's block, and every other word as it was
abbrev pub accepted_after : ℕ → ChannelCall → List ℕ → List ℕ
accepted_after ch k m =
    with_block (set m (counter_at ch) (counter_after k (word m (counter_at ch)))) ch (block_after (given_of ch k m) k (block m ch))

abbrev pub on_answer : ℕ → ChannelCall → List ℕ → Answer
on_answer ch k m = answer_unless (on_refusal ch k m) (block_answer (given_of ch k m) k (block m ch))

abbrev pub on_after : ℕ → ChannelCall → List ℕ → List ℕ
on_after ch k m = leave_unless (on_refusal ch k m) (accepted_after ch k m) m
