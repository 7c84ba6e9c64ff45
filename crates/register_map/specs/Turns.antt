-- What a register access is turned into (paper 02 (vi)): a refusal with its number, a call on a channel, or a call on each channel that a mask names.
use Rattle.std.specs.Prelude.{ℕ, Result, Ok, Err}
use Rattle.block.specs.Refusals.{refusal_number}
use Rattle.block.specs.declared.refusal.Refusal.{Refusal}
use Rattle.channel_calls.specs.declared.calls.ChannelCall.{ChannelCall}
use Rattle.register_map.specs.declared.map.Control.{Control}
use Rattle.register_map.specs.declared.shown.Bits.{Bits}
use Rattle.register_map.specs.declared.turned.Asked.{Asked}
use Rattle.register_map.specs.declared.turned.Asked.TheVariants as asked

pub data Turned : Type 0 where
  -- the refusal's number
  NotTurned : ℕ → Turned
  -- a channel, the call on it, and the bits that the register shows
  OneCall : ℕ → ChannelCall → Bits → Turned
  -- what is asked of each channel, and the mask that names them
  EachNamed : Control → ℕ → Turned

-- what an access asks for, refused or not
abbrev pub turned_to : Result Asked Refusal → Turned
turned_to (Ok (asked.OneCall ch k bits)) = OneCall ch k bits
turned_to (Ok (asked.EachNamed c mask)) = EachNamed c mask
turned_to (Err r) = NotTurned (refusal_number r)
