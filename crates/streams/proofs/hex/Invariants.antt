-- The digits still to write, and then those written, are the digits of the number.
use Rattle.std.proofs.Common.{◌≡◌, ◌++◌, length}
use lib.Seq.{slice}
use Rattle.streams.specs.Digits.{hex_text}
use Rattle.streams.proofs.hex.Given as goal

abbrev pub invariant-loop-place : goal.invariant-loop-place
invariant-loop-place l = (length l.digits ≡ 8) × (hex_text l.place l.rest ++ slice l.place 8 l.digits ≡ hex_text 8 l.number)
