-- What a call on a channel answers, by what a history keeps of the channel before it: what the rule leaves is shown by status calls alone.
-- Assumes nothing.
use mathlib.Core.Path.{◌≡◌}
use mathlib.Core.List.{List}
use Prim.Native.Nat.{ℕ}
use Rattle.block.specs.Ranges.{Usable}
use Rattle.fifos.specs.Fifos.{receive_offsets, fifo}
use Rattle.settings.specs.Kept.{kept_of}
use Rattle.receive_reads.specs.Reading.{shown}
use Rattle.channel_calls.specs.Answers.{answer_unless}
use Rattle.channel_calls.specs.Refusals.{channel_refusal}
use Rattle.channel_calls.specs.declared.calls.ChannelCall.{ChannelCall}
use Rattle.channel_calls.specs.declared.calls.ChannelCall.TheVariants.{Settings, Memories, Status, Tests, Reads, Receive, Transmit}
use Rattle.channel_calls.specs.declared.calls.Given.{Given}
use Rattle.channel.specs.Channel.{block_answer}
use Rattle.channel_groups.specs.Told.{oldest_of, Told}
use Rattle.channel_groups.proofs.Told.{told}

pub block-told : (b : List ℕ) (g : Given) (k : ChannelCall) → Usable b
    → shown (oldest_of (fifo receive_offsets b)) ≡ oldest_of (fifo receive_offsets b)
    → Told (kept_of b) k (answer_unless (channel_refusal k b) (block_answer g k b))
block-told b g (Settings k) u r = told b (Settings k) u r
block-told b g (Memories k) u r = tt
block-told b g (Status k) u r = tt
block-told b g (Tests k) u r = told b (Tests k) u r
block-told b g (Reads k) u r = told b (Reads k) u r
block-told b g (Receive k) u r = told b (Receive k) u r
block-told b g (Transmit k) u r = told b (Transmit k) u r
