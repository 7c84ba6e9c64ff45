-- What becomes of one arrival, followed from access to access, in the shape of the code.
use Rattle.std.specs.Prelude.{ℕ, ◌+◌, ◌-◌, cond, eqb}
use Rattle.block.specs.Modes.{fifo_mode}
use Rattle.arrival.specs.declared.Arrival.{Arrival}
use Rattle.arrival.specs.declared.Arrival.TheVariants.{Ignored, Filtered, Appended, Dropped, Overwriting, AlreadyListed}
use Rattle.channel_calls.specs.Answer.{Answer, Done, Refused, Value, Waiting, Fates, Arrived, Entry, Stepped}
use Rattle.registers.specs.declared.accesses.Access.{Access}
use Rattle.receive_changes.specs.Changes.{by_access}
use Rattle.receive_changes.specs.declared.Happening.{Happening}
use Rattle.receive_changes.specs.declared.Happening.TheVariants.{Nothing, Enters, EntersOverOldest, OldestRead, AllCleared, AllBegun}
use Rattle.following.specs.declared.course.Reason.{Reason}
use Rattle.following.specs.declared.course.Reason.TheVariants.{NoReason, RefusedBy, ReceiverOff, FilteredOut, DroppedOnFull, ListedAlready, StillHeld, ReadAt, ClearedAt, OverwrittenAt}
use Rattle.following.specs.declared.course.Course.{Course}
use Rattle.following.specs.declared.course.Course.TheVariants as course
use Rattle.following.specs.declared.course.Watch.{Watch}

-- below what a count of 32 bits holds
abbrev pub most_held : ℕ
most_held = 4294967295

abbrev pub begun : Watch
begun = record { mode = fifo_mode; course = course.Coming 0 }

-- how many are held before the arrival
abbrev pub held_before : Course → ℕ
held_before (course.Coming n) = n
held_before (course.Waiting n) = 0
held_before (course.Known r) = 0

abbrev pub one_less : ℕ → ℕ
one_less n = n - 1

abbrev pub level_after : ℕ → Happening → ℕ
level_after n Nothing = n
level_after n Enters = n + 1
level_after n EntersOverOldest = one_less n + 1
level_after n OldestRead = one_less n
level_after n AllCleared = 0
level_after n AllBegun = 0

-- the oldest is gone: the entry itself, or one of those ahead of it
abbrev pub gone : ℕ → Reason → Course
gone n r = cond (eqb n 0) (course.Known r) (course.Waiting (n - 1))

abbrev pub waiting_after : ℕ → Happening → ℕ → Course
waiting_after n Nothing at = course.Waiting n
waiting_after n Enters at = course.Waiting n
waiting_after n EntersOverOldest at = gone n (OverwrittenAt at)
waiting_after n OldestRead at = gone n (ReadAt at)
waiting_after n AllCleared at = course.Known (ClearedAt at)
waiting_after n AllBegun at = course.Known (ClearedAt at)

abbrev pub passed : Course → Happening → ℕ → Course
passed (course.Coming n) h at = course.Coming (level_after n h)
passed (course.Waiting n) h at = waiting_after n h at
passed (course.Known r) h at = course.Known r

abbrev pub entered_by : ℕ → Arrival → Course
entered_by n Ignored = course.Known ReceiverOff
entered_by n Filtered = course.Known FilteredOut
entered_by n Appended = course.Waiting n
entered_by n Dropped = course.Known DroppedOnFull
entered_by n Overwriting = course.Waiting (one_less n)
entered_by n AlreadyListed = course.Known ListedAlready

abbrev pub entered_with : ℕ → Answer → Course
entered_with n Done = course.Known NoReason
entered_with n (Refused r) = course.Known (RefusedBy r)
entered_with n (Value x) = course.Known NoReason
entered_with n (Waiting m w) = course.Known NoReason
entered_with n (Fates a r c o t s d) = course.Known NoReason
entered_with n (Arrived o) = entered_by n o
entered_with n (Entry s w t) = course.Known NoReason
entered_with n (Stepped o) = course.Known NoReason

abbrev pub arrived : Course → Answer → Course
arrived (course.Coming n) a = entered_with n a
arrived (course.Waiting n) a = course.Waiting n
arrived (course.Known r) a = course.Known r

abbrev pub course_after : Course → Happening → ℕ → ℕ → Answer → Course
course_after c h place at a = cond (eqb at place) (arrived c a) (passed c h at)

-- the access at place at, where the arrival is at place
abbrev pub next : ℕ → ℕ → ℕ → Access → Answer → Watch → Watch
next ch place at x a w =
    record {
      mode = (by_access ch w.mode x a).mode;
      course = course_after w.course (by_access ch w.mode x a).happening place at a;
    }

-- "held" where the entry is held at the end
abbrev pub course_reason : Course → Reason
course_reason (course.Coming n) = NoReason
course_reason (course.Waiting n) = StillHeld
course_reason (course.Known r) = r

abbrev pub reason_by : Watch → Reason
reason_by w = course_reason w.course
