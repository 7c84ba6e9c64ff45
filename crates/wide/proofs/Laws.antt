-- The rule on every channel: a channel's new block goes by the module part and its own block alone, so the laws of `frame` hold of it.
-- Assumes nothing.
use Rattle.std.proofs.Common.{ℕ, ◌+◌, ◌-◌, refl, arith, length-set}
use Rattle.frame.specs.Layout.{threshold, counters}
use Rattle.frame.proofs.Blocks.{block-length}
use Rattle.frame.proofs.Each.{Own}
use Rattle.wide.specs.Rule.{ruled_channel}

pub ruled_own : (old : ℕ) → Own (ruled_channel old)
unfolding ruled_channel
ruled_own old =
    record {
      whole = λ m ch room. simp length-set (block-length m ch room);
      same = λ m m' ch p q w e. rw (w (counters + (ch - 1)) (omega arith), w threshold (omega arith), e) refl;
    }
