-- "Trigger, pause and stop take a channel mask" (paper 02 (vi)).
use Rattle.std.specs.Prelude.{ℕ, zero, suc, ◌+◌, ◌-◌, ◌^◌, List, Bool, cond, not, eqb}
use Rattle.bits.specs.Bits.{bit_at}
use Rattle.block.specs.Refusals.{leave_unless}
use Rattle.channel_calls.specs.Answers.{answer_unless, is_refused}
use Rattle.channel_calls.specs.declared.calls.TransmitCall.TheVariants.{Trigger, Pause, Stop}
use Rattle.channel_calls.specs.declared.calls.ChannelCall.{ChannelCall}
use Rattle.channel_calls.specs.declared.calls.ChannelCall.TheVariants.{Transmit}
use Rattle.channel_calls.specs.Answer.{Answer, Value}
use Rattle.frame.specs.Layout.{most}
use Rattle.frame.specs.Refusals.{part_refusal}
use Rattle.module.specs.OnChannel.{on_answer, on_after}
use Rattle.register_map.specs.declared.map.Control.{Control}
use Rattle.register_map.specs.declared.map.Control.TheVariants.{TriggerEach, PauseEach, StopEach}

abbrev pub control_call : Control → ChannelCall
control_call TriggerEach = Transmit Trigger
control_call PauseEach = Transmit Pause
control_call StopEach = Transmit Stop

-- "bits 0 to 11, other bits ignored": bit 0 names channel 1
abbrev pub is_named : ℕ → ℕ → Bool
is_named mask ch = not (eqb (bit_at mask (ch - 1)) 0)

-- the bit "of those that refused" that a channel has where it is named and refuses
abbrev pub bit_if : ℕ → ℕ → Bool → ℕ
bit_if mask ch refuses = cond (is_named mask ch) (cond refuses (2 ^ (ch - 1)) 0) 0

module _ (c : Control) (mask : ℕ) where
  -- "each named channel is tried": what a channel's try leaves, and its bit
  unfoldable pub tried_on : ℕ → List ℕ → List ℕ
  tried_on ch m = cond (is_named mask ch) (on_after ch (control_call c) m) m

  unfoldable pub refused_on : ℕ → List ℕ → ℕ
  refused_on ch m = bit_if mask ch (is_refused (on_answer ch (control_call c) m))

  -- "in order": channels 1 to n
  unfoldable pub tried_to : ℕ → List ℕ → List ℕ
  tried_to zero m = m
  tried_to (suc n) m = tried_on (suc n) (tried_to n m)

  unfoldable pub refused_to : ℕ → List ℕ → ℕ
  refused_to zero m = 0
  refused_to (suc n) m = refused_to n m + refused_on (suc n) (tried_to n m)

  -- "Short memory or an unsound module part refuses the whole write. Else .. the answer is 0 with the mask of those that refused."
  abbrev pub masked_answer : List ℕ → Answer
  masked_answer m = answer_unless (part_refusal m) (Value (refused_to most m))

  abbrev pub masked_after : List ℕ → List ℕ
  masked_after m = leave_unless (part_refusal m) (tried_to most m) m
