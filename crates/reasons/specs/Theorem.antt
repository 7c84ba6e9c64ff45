-- "The rules .. must give that reason, and an arrival always gets one" (paper 02, (viii)).
use Rattle.std.specs.Prelude.{ℕ, suc, ◌≡◌, List, length, Ok}
use Rattle.channel_calls.specs.Answer.{Answer}
use Rattle.fates.specs.History.{Telling}
use Rattle.fates.specs.Theorem.{Started}
use Rattle.following.specs.Follows.{Explains}
use Rattle.following.specs.declared.course.Reason.{Reason}
use Rattle.reasons.specs.Question.{whole_count, channel_at, question_refusal}
use Rattle.reasons.specs.Explained.{accesses_to, told_to, arrival_answer, working, explained}

module _ (count : ℕ) (bytes : List ℕ) (place : ℕ) (m : List ℕ) where
  -- the list of accesses on the words that count needs, the latest first: what they tell, and the arrival's answer
  abbrev pub told : List Telling
  told = told_to count bytes (working count m) (whole_count bytes)

  abbrev pub answer : Answer
  answer = arrival_answer count bytes (working count m) place

  pub record OneReason : Type 0 where
    -- demand 3 speaks of this list: "The first is an accepted power-up."
    pub started : Started (working count m) (accesses_to count bytes (whole_count bytes))
    pub reason : Reason
    pub accepted : explained count bytes place m ≡ Ok reason
    -- the reason is one of the nine, and what it says was done: by the arrival's answer, or by the ledger of demand 3
    pub explains : Explains answer (channel_at bytes place) (suc place) told reason
    -- "say one reason": of no other does that hold
    pub no_other : (r : Reason) → Explains answer (channel_at bytes place) (suc place) told r → r ≡ reason

-- every question that is not refused
abbrev pub AlwaysOneReason : Type 0
AlwaysOneReason =
    (count : ℕ) (bytes : List ℕ) (place : ℕ) (m : List ℕ) → question_refusal count bytes place (length m) ≡ 0 → OneReason count bytes place m
