-- Counts that roll over are the whole numbers' counts modulo 2 ^ 32.
-- Assumes nothing.
use mathlib.Core.Path.{◌≡◌, refl}
use mathlib.Core.List.{[]}
use Prim.Native.Nat.{ℕ, ◌+◌}
use native.Mathlib.Omega.{arith}
use lib.ListN.{length}
use Rattle.fifos.specs.Counts.{rolled, counted}
use Rattle.fifos.specs.Fifos.{Fifo, accepts, gives, overwrites, Change, Stays, Adds, Overwrites, Takes, Clears, Begins, changed, overwritten_after}
use Rattle.settings.specs.Kept.{Kept, Effect, kept_by}
use Rattle.channel_laws.proofs.Holds.{parts}
use Rattle.module_laws.specs.Reduced.{reduced_fifo, reduced}

roll : (n x : ℕ) → rolled (n + x) ≡ counted (rolled n) x
roll n x = omega arith

-- a FIFO's counts
fifo_rolls : (c : Change) (f : Fifo) → reduced_fifo (changed ◌+◌ c f) ≡ changed counted c (reduced_fifo f)
fifo_rolls Stays f = refl
fifo_rolls (Adds e) f = λ i. record { held = (accepts ◌+◌ f e).held; accepted = roll f.accepted 1 i; taken = rolled f.taken; cleared = rolled f.cleared }
fifo_rolls (Overwrites e) f = λ i. record { held = (overwrites ◌+◌ f e).held; accepted = roll f.accepted 1 i; taken = rolled f.taken; cleared = rolled f.cleared }
fifo_rolls (Takes e) f = λ i. record { held = (gives ◌+◌ f).held; accepted = rolled f.accepted; taken = roll f.taken 1 i; cleared = rolled f.cleared }
fifo_rolls Clears f = λ i. record { held = []; accepted = rolled f.accepted; taken = rolled f.taken; cleared = roll f.cleared (length f.held) i }
fifo_rolls Begins f = refl

overwritten_rolls : (c : Change) (n : ℕ) → rolled (overwritten_after ◌+◌ c n) ≡ overwritten_after counted c (rolled n)
overwritten_rolls Stays n = refl
overwritten_rolls (Adds e) n = refl
overwritten_rolls (Overwrites e) n = roll n 1
overwritten_rolls (Takes e) n = refl
overwritten_rolls Clears n = refl
overwritten_rolls Begins n = refl

-- every count of a channel, whatever was done to it
pub rolls : (e : Effect) (h : Kept) → reduced (kept_by ◌+◌ e h) ≡ kept_by counted e (reduced h)
rolls e h = parts refl (fifo_rolls e.receive h.receive) (overwritten_rolls e.receive h.overwritten) (fifo_rolls e.transmit h.transmit)
