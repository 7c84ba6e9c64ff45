-- What a refusal of 0 says of a number: it is within its limit; and a setting's number is that of a setting.
-- Assumes nothing.
use Prim.Native.Nat.{ℕ, suc, ◌≤◌, ◌<◌}
use mathlib.Core.Path.{◌≡◌}
use native.Mathlib.Omega.{arith}
use borrow.Author.Tests.{ltb-false}
use lib.Dec.{ltb}
use Rattle.block.specs.Layout.{settings}
use Rattle.block.proofs.Refusals.{past}
use Rattle.channel_calls.specs.Answers.{setting_number}
use Rattle.channel_calls.specs.Refusals.{above, below}
use Rattle.channel_calls.specs.declared.calls.Setting.{Setting}
use Rattle.channel_calls.specs.declared.calls.Setting.TheVariants.{Receiver, Transmitter, Parity, Match, Stamps, ReceiveMode, FifoKind, TransmitMode, ReceiveSize, AlmostFull, AlmostEmpty, Rate}

pub not_above : (limit x k : ℕ) → above limit x (suc k) ≡ 0 → x ≤ limit
unfolding above
not_above limit x k e = ltb-false limit x (past (ltb limit x) k 0 e).0

pub not_below : (limit x k : ℕ) → below limit x (suc k) ≡ 0 → limit ≤ x
unfolding below
not_below limit x k e = ltb-false x limit (past (ltb x limit) k 0 e).0

pub setting_in : (s : Setting) → setting_number s < settings
setting_in Receiver = omega arith
setting_in Transmitter = omega arith
setting_in Parity = omega arith
setting_in Match = omega arith
setting_in Stamps = omega arith
setting_in ReceiveMode = omega arith
setting_in FifoKind = omega arith
setting_in TransmitMode = omega arith
setting_in ReceiveSize = omega arith
setting_in AlmostFull = omega arith
setting_in AlmostEmpty = omega arith
setting_in Rate = omega arith
