-- "The rules, with exactly the memory that count needs, must give that reason" (paper 02, (viii)): the answer to a question, and the working
-- memory afterwards.
use Rattle.std.specs.Prelude.{ℕ, zero, suc, ◌*◌, ◌-◌, List, [], ◌∷◌, ◌++◌, cond, eqb, length, take, drop, Option, None, Some, Result, Ok, Err}
use Rattle.block.specs.Refusals.{leave_unless}
use Rattle.channel_calls.specs.declared.calls.ReceiveCall.TheVariants.{Arrive}
use Rattle.channel_calls.specs.declared.calls.ChannelCall.TheVariants.{Receive}
use Rattle.channel_calls.specs.Answer.{Answer}
use Rattle.frame.specs.Layout.{need}
use Rattle.module.specs.declared.calls.Call.TheVariants.{PowerUp, On}
use Rattle.registers.specs.declared.accesses.Access.{Access}
use Rattle.registers.specs.declared.accesses.Access.TheVariants.{Direct}
use Rattle.sessions.specs.Sessions.{item_bytes, item_at}
use Rattle.fates.specs.Run.{run, answer_behind, told_by}
use Rattle.fates.specs.History.{Telling}
use Rattle.following.specs.Reasons.{reason_of}
use Rattle.following.specs.declared.course.Reason.{Reason}
use Rattle.following.specs.declared.course.Reason.TheVariants.{NoReason, RefusedBy, ReceiverOff, FilteredOut, DroppedOnFull, ListedAlready, StillHeld, ReadAt, ClearedAt, OverwrittenAt}
use Rattle.reasons.specs.Question.{whole_count, channel_at, arriving_at, question_refusal}

-- one item more, lent k words; an item that is no call is refused before (42)
abbrev pub joined : ℕ → Option Access → List (ℕ × Access) → List (ℕ × Access)
joined k None before = before
joined k (Some x) before = (k, x) ∷ before

module _ (count : ℕ) (bytes : List ℕ) where
  -- "the list of calls since power-up", the latest first: the first n items behind that power-up, each lent the words that count needs
  abbrev pub accesses_to : ℕ → List (ℕ × Access)
  accesses_to zero = (need count, Direct (PowerUp count)) ∷ []
  accesses_to (suc n) = joined (need count) (item_at bytes (item_bytes * n)) (accesses_to n)

  -- on words of working memory m
  module _ (m : List ℕ) where
    -- what they tell
    abbrev pub told_to : ℕ → List Telling
    told_to n = told_by m (accesses_to n)

    -- "the state after the whole list"
    abbrev pub state_after : List ℕ
    state_after = run m (accesses_to (whole_count bytes))

    -- the answer of the arrival at a place
    abbrev pub arrival_answer : ℕ → Answer
    arrival_answer place = answer_behind m (accesses_to (place - 1)) (need count) (Direct (On (channel_at bytes place) (Receive (Arrive (arriving_at bytes place)))))

-- the reason of the arrival at a place; the power-up is the ledger's place 1, so place p of the list is p + 1 of the ledger
abbrev pub reason_for : ℕ → List ℕ → ℕ → List ℕ → Reason
reason_for count bytes place m = reason_of (channel_at bytes place) (suc place) (arrival_answer count bytes m place) (told_to count bytes m (whole_count bytes))

-- "with exactly the memory that count needs": the first words of what is lent
abbrev pub working : ℕ → List ℕ → List ℕ
working count m = take (need count) m

-- "refused and by which number"; "for the last three the place of the call that did it"; beside any other reason 0
abbrev pub beside : Reason → ℕ
beside NoReason = 0
beside (RefusedBy n) = n
beside ReceiverOff = 0
beside FilteredOut = 0
beside DroppedOnFull = 0
beside ListedAlready = 0
beside StillHeld = 0
beside (ReadAt p) = p
beside (ClearedAt p) = p
beside (OverwrittenAt p) = p

-- the answer: the reason, or the refusal's number
unfoldable pub explained : ℕ → List ℕ → ℕ → List ℕ → Result Reason ℕ
explained count bytes place m =
    cond (eqb (question_refusal count bytes place (length m)) 0)
    (Ok (reason_for count bytes place (working count m)))
    (Err (question_refusal count bytes place (length m)))

-- the words behind those that count needs stay; a refusal changes nothing
unfoldable pub memory_after : ℕ → List ℕ → ℕ → List ℕ → List ℕ
memory_after count bytes place m =
    leave_unless (question_refusal count bytes place (length m)) (state_after count bytes (working count m) ++ drop (need count) m) m
