-- `capture::reading::channel_refusal` meets its contract: each branch is a case of the definition.
-- Assumes nothing.
use Rattle.word.proofs.Branches.{branches}
use Rattle.capture.specs.Read.{channel_refusal}
use Rattle.capture.proofs.reading.channel_refusal.Goals as goal
use Rattle.capture.proofs.reading.channel_refusal.Goals.{then-channel-lt1-via-then-channel-lt1, then-channel-lt1-via-else-channel-lt1+then-channel-gt-CHANNELS}

pub returns-then-channel-lt1 : goal.returns-then-channel-lt1
unfolding channel_refusal
returns-then-channel-lt1 c = elim c.then-channel-lt1.branch [
  | then-channel-lt1-via-then-channel-lt1 w ↦ search branches
  | then-channel-lt1-via-else-channel-lt1+then-channel-gt-CHANNELS w ↦ search branches
]

pub returns : goal.returns
unfolding channel_refusal
returns c = search branches
