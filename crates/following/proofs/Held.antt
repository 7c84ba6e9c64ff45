-- One access adds at most one entry to those held before the arrival.
-- Assumes nothing.
use Prim.Native.Nat.{ℕ, suc, ◌-◌, ◌≤◌}
use mathlib.Core.Bool.{Bool, true, false, cond}
use native.Mathlib.Omega.{arith}
use lib.Dec.{eqb}
use Rattle.arrival.specs.declared.Arrival.{Arrival}
use Rattle.arrival.specs.declared.Arrival.TheVariants.{Ignored, Filtered, Appended, Dropped, Overwriting, AlreadyListed}
use Rattle.channel_calls.specs.Answer.{Answer, Done, Refused, Value, Waiting, Fates, Arrived, Entry, Stepped}
use Rattle.registers.specs.declared.accesses.Access.{Access}
use Rattle.receive_changes.specs.Changes.{by_access}
use Rattle.following.specs.Course.{held_before, gone, passed, entered_by, entered_with, arrived, next}
use Rattle.receive_changes.specs.declared.Happening.{Happening}
use Rattle.receive_changes.specs.declared.Happening.TheVariants.{Nothing, Enters, EntersOverOldest, OldestRead, AllCleared, AllBegun}
use Rattle.following.specs.declared.course.Reason.{Reason}
use Rattle.following.specs.declared.course.Reason.TheVariants.{ReadAt, OverwrittenAt}
use Rattle.following.specs.declared.course.Course.{Course}
use Rattle.following.specs.declared.course.Course.TheVariants as course
use Rattle.following.specs.declared.course.Watch.{Watch}

-- a course that is no longer coming counts none
gone_none : (n : ℕ) (r : Reason) (k : ℕ) → held_before (gone n r) ≤ k
gone_none n r k = go (eqb n 0)
  where
    go : (t : Bool) → held_before (cond t (course.Known r) (course.Waiting (n - 1))) ≤ k
    go true = omega arith
    go false = omega arith

passed_held : (c : Course) (h : Happening) (at : ℕ) → held_before (passed c h at) ≤ suc (held_before c)
passed_held (course.Coming n) Nothing at = omega arith
passed_held (course.Coming n) Enters at = omega arith
passed_held (course.Coming n) EntersOverOldest at = omega arith
passed_held (course.Coming n) OldestRead at = omega arith
passed_held (course.Coming n) AllCleared at = omega arith
passed_held (course.Coming n) AllBegun at = omega arith
passed_held (course.Waiting n) Nothing at = omega arith
passed_held (course.Waiting n) Enters at = omega arith
passed_held (course.Waiting n) EntersOverOldest at = gone_none n (OverwrittenAt at) 1
passed_held (course.Waiting n) OldestRead at = gone_none n (ReadAt at) 1
passed_held (course.Waiting n) AllCleared at = omega arith
passed_held (course.Waiting n) AllBegun at = omega arith
passed_held (course.Known r) h at = omega arith

outcome-held : (n : ℕ) (o : Arrival) (k : ℕ) → held_before (entered_by n o) ≤ k
outcome-held n Ignored k = omega arith
outcome-held n Filtered k = omega arith
outcome-held n Appended k = omega arith
outcome-held n Dropped k = omega arith
outcome-held n Overwriting k = omega arith
outcome-held n AlreadyListed k = omega arith

entered_held : (n : ℕ) (a : Answer) (k : ℕ) → held_before (entered_with n a) ≤ k
entered_held n Done k = omega arith
entered_held n (Refused r) k = omega arith
entered_held n (Value x) k = omega arith
entered_held n (Waiting m w) k = omega arith
entered_held n (Fates a r c o t s d) k = omega arith
entered_held n (Arrived o) k = outcome-held n o k
entered_held n (Entry s w t) k = omega arith
entered_held n (Stepped o) k = omega arith

arrived_held : (c : Course) (a : Answer) → held_before (arrived c a) ≤ suc (held_before c)
arrived_held (course.Coming n) a = entered_held n a (suc n)
arrived_held (course.Waiting n) a = omega arith
arrived_held (course.Known r) a = omega arith

pub held_next : (ch place at : ℕ) (x : Access) (a : Answer) (w : Watch) → held_before (next ch place at x a w).course ≤ suc (held_before w.course)
held_next ch place at x a w = go (eqb at place)
  where
    go : (t : Bool) → held_before (cond t (arrived w.course a) (passed w.course (by_access ch w.mode x a).happening at)) ≤ suc (held_before w.course)
    go true = arrived_held w.course a
    go false = passed_held w.course (by_access ch w.mode x a).happening at
