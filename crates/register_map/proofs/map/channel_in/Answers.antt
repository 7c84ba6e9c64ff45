-- `register_map::map::channel_in` meets its contract: each branch is a case of the definition.
-- Assumes nothing.
use Prim.Native.Nat.{◌-◌, ◌/◌, ◌<◌}
use native.Mathlib.Nat.{div-lt_iff_lt-mul}
use native.Mathlib.Omega.{arith}
use Rattle.word.proofs.Branches.{branches}
use Rattle.frame.specs.Layout.{most}
use Rattle.register_map.specs.Map.{channel_in}
use Rattle.register_map.proofs.map.channel_in.Goals as goal

pub returns-then-address-first : goal.returns-then-address-first
unfolding channel_in
returns-then-address-first c = search branches

pub returns-then-step-address : goal.returns-then-step-address
unfolding channel_in
returns-then-step-address c = search branches

pub returns-then-size-address : goal.returns-then-size-address
unfolding channel_in
returns-then-size-address c = search branches

pub overflow_add-result : goal.overflow_add-result
overflow_add-result c = let args = c.args in
    let q : (args.address - args.first) / args.step < most = (div-lt_iff_lt-mul c.requires.0).1 (omega arith) in
    omega (arith, q)

pub returns : goal.returns
unfolding channel_in
returns c = search branches
