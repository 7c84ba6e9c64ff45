-- Writing a record at an offset of lent output bytes (paper 02, (ii)).
use Rattle.std.specs.Prelude.{ℕ, ◌+◌, ◌-◌, cond, List, eqb, ltb, length}
use Rattle.std.proofs.lemmas.List.Edits.{sets}
use Rattle.capture.specs.Format.{Record, commands_of, known, length_of, half, bytes_of}
use Rattle.capture.specs.Read.{channel_refusal, or_else}
use Rattle.capture.specs.declared.Cursor.{Cursor}

-- what a writing answers, in numbers: a refusal's number, and the offset behind the record
pub record Written : Type 0 where
  pub number : ℕ
  pub next : Cursor

-- "21 .. (writing: its command count), 22 unknown kind"
unfoldable pub count_refusal : ℕ → ℕ → ℕ
count_refusal kind count = cond (known kind) (cond (eqb count (commands_of kind)) 0 21) 22

-- "24 lent output too short for it": `room` bytes are left behind the offset
unfoldable pub room_refusal : ℕ → ℕ → ℕ
room_refusal room kind = cond (ltb room (half + length_of kind)) 24 0

-- "tested in that order"
unfoldable pub write_refusal : ℕ → ℕ → ℕ → ℕ → ℕ
unfolding count_refusal channel_refusal room_refusal
write_refusal room kind channel count = or_else (count_refusal kind count) (or_else (channel_refusal channel) (room_refusal room kind))

-- the refusal of a record at an offset of `long` bytes
abbrev pub refusal_of : ℕ → ℕ → Record → ℕ
refusal_of long at r = write_refusal (long - at) r.kind r.channel (length r.commands)

-- the number and the offset behind the record; "a refusal changes nothing lent and, where no more is said, hands back zeros"
unfoldable pub written : ℕ → ℕ → Record → Written
unfolding write_refusal
written long at r = cond (eqb (refusal_of long at r) 0)
    (record { number = 0; next = record { offset = at + half + length_of r.kind } })
    (record { number = refusal_of long at r; next = record { offset = 0 } })

-- the output bytes afterwards
unfoldable pub bytes_after : List ℕ → ℕ → Record → List ℕ
unfolding write_refusal bytes_of
bytes_after b at r = cond (eqb (refusal_of (length b) at r) 0) (sets b at (bytes_of r)) b
