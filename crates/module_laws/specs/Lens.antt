-- A channel's share of a module's memory: what a call on it sees, and what it puts back.
use Rattle.std.specs.Prelude.{ℕ, List, set}
use Rattle.block.specs.Layout.{word}
use Rattle.block.specs.Ranges.{sound}
use Rattle.block.specs.Refusals.{first, leave_unless}
use Rattle.status.specs.Status.{faulty}
use Rattle.channel_calls.specs.Refusals.{channel_refusal}
use Rattle.channel_calls.specs.Answers.{answer_unless}
use Rattle.channel_calls.specs.Answer.{Answer}
use Rattle.channel_calls.specs.declared.calls.ChannelCall.{ChannelCall}
use Rattle.channel_calls.specs.declared.calls.Given.{Given}
use Rattle.channel.specs.Channel.{block_answer, block_after}
use Rattle.frame.specs.Layout.{count, stamp, threshold, block, with_block}
use Rattle.frame.specs.Refusals.{part_refusal, channel_of}
use Rattle.module.specs.OnChannel.{counter_at, counter_after}

-- the refusal of the module part, its count, stamp and threshold, the channel's fault counter and its block
pub record Share : Type 0 where
  pub part : ℕ
  pub count : ℕ
  pub stamp : ℕ
  pub threshold : ℕ
  pub counter : ℕ
  pub block : List ℕ

abbrev pub seen : ℕ → List ℕ → Share
seen ch m =
    record {
      part = part_refusal m;
      count = word m count;
      stamp = word m stamp;
      threshold = word m threshold;
      counter = word m (counter_at ch);
      block = block m ch;
    }

abbrev pub put : ℕ → ℕ → List ℕ → List ℕ → List ℕ
put ch counter b m = with_block (set m (counter_at ch) counter) ch b

-- what a call does, by what it sees
module _ (ch : ℕ) (k : ChannelCall) (s : Share) where
  unfoldable pub refusal_by : ℕ
  unfolding channel_of
  refusal_by = first (channel_of s.part s.count ch (sound s.block)) (channel_refusal k s.block)

  abbrev pub given_by : Given
  given_by =
      record {
        stamp = s.stamp;
        before = faulty s.counter s.threshold;
        after = faulty (counter_after k s.counter) s.threshold;
      }

  abbrev pub answer_by : Answer
  answer_by = answer_unless refusal_by (block_answer given_by k s.block)

  abbrev pub accepted_by : List ℕ → List ℕ
  accepted_by m = put ch (counter_after k s.counter) (block_after given_by k s.block) m

  abbrev pub after_by : List ℕ → List ℕ
  after_by m = leave_unless refusal_by (accepted_by m) m
