-- A call on a block from its parts: the call itself, the rule, and what is shown.
-- Assumes nothing.
use Prim.Native.Nat.{ℕ, ◌+◌}
use mathlib.Core.Path.{◌≡◌, ap, ap₂, ◌∙◌}
use mathlib.Core.List.{List}
use Rattle.status.specs.Status.{holding, ruled}
use Rattle.channel_groups.specs.Groups.{did_answer, did_leave, did_signal}
use Rattle.channel.specs.Channel.{answer_shown, block_answer, block_after}
use Rattle.channel_calls.specs.declared.calls.ChannelCall.{ChannelCall}
use Rattle.channel_calls.specs.declared.calls.Given.{Given}
use Rattle.channel_calls.specs.Answer.{Answer}

-- `d` is the block that the call left, `m` the block that the rule left
pub performed : (g : Given) (k : ChannelCall) (b d m : List ℕ) (before holds signal : ℕ) (did result : Answer)
    → before ≡ holding g.before b → did ≡ did_answer k b → signal ≡ did_signal k b → d ≡ did_leave g.stamp k b → holds ≡ holding g.after d
    → m ≡ ruled before (holds + signal) d → result ≡ answer_shown k m did
    → (result ≡ block_answer g k b) × (m ≡ block_after g k b)
performed g k b d m before holds signal did result p q s e h r t = (t ∙ ap₂ (answer_shown k) after q, after)
  where
    now : holds + signal ≡ holding g.after (did_leave g.stamp k b) + did_signal k b
    now = ap₂ ◌+◌ (h ∙ ap (holding g.after) e) s

    after : m ≡ block_after g k b
    after = r ∙ ap (λ (x : ℕ). ruled x (holds + signal) d) p ∙ ap₂ (ruled (holding g.before b)) now e
