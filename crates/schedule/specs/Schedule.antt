-- One command of the schedule (paper 01, "Transmit").
use Rattle.std.specs.Prelude.{ℕ, ◌+◌, ◌-◌, cond, List, eqb, leb, ltb, get_or}
use Rattle.word.specs.Gap.{clamped}
use Rattle.word.specs.Parity.{as_sent}
use Rattle.schedule.specs.Codes.{idle, running, paused, code, message_address, target, stop, message, gap, fixed_gap, pause, interrupt, jump, last, async_gap, async_part}
use Rattle.schedule.specs.declared.Place.{Place}
use Rattle.schedule.specs.declared.Outcome.{Outcome}
use Rattle.schedule.specs.declared.Output.{Output}
use Rattle.schedule.specs.declared.Output.TheVariants.{Quiet, Message, Null, Async, Reserved, NullMessage}

-- a schedule in a state at a command; its async word and its message mark stay
abbrev pub at : Place → ℕ → ℕ → Place
at p state address = record { state = state; address = address; waiting = p.waiting; word = p.word; mark = p.mark }

-- "After command 255, a pause too, it is idle at command 0 in the same step"; paper 02 (vii): "the implied stop moves after 511"
unfoldable pub onward : Place → ℕ → Place
onward p state = cond (leb last p.address) (at p idle 0) (at p state (p.address + 1))

-- an async word that went out waits no more
abbrev pub async_sent : Place → Place
async_sent p = record { state = p.state; address = p.address; waiting = 0; word = p.word; mark = p.mark }

-- paper 02 (i), "The channel record gains this one mark, 0 or 1": 1 where "the last thing sent by the schedule was a message word"
abbrev pub marked : Place → ℕ → Place
marked p mark = record { state = p.state; address = p.address; waiting = p.waiting; word = p.word; mark = mark }

-- a command that signals nothing
abbrev pub gives : Output → Place → Outcome
gives output p = record { output = output; place = p; signal = 0 }

-- 1 message: "sends message RAM at bits 7 to 0, no gap"; paper 02 (i): "A message reached when the last thing sent by the schedule was
-- a message word now sends 4 null first"
unfoldable pub message_step : Place → ℕ → Outcome
message_step p word =
    cond (eqb p.mark 0) (gives (Message word) (onward (marked p 1) running))
    (gives (NullMessage word) (onward (marked p 1) running))

-- 2 gap: "null time g from message RAM"; "In a gap of 40 or more a waiting async word goes out: 4 null, the word (32), g - 36 null"
unfoldable pub gap_step : Place → ℕ → ℕ → Outcome
gap_step p parity g =
    cond (eqb p.waiting 0) (gives (Null g) (onward p running))
    (cond (ltb g async_gap) (gives (Null g) (onward p running))
    (gives (Async (as_sent parity p.word) (g - async_part)) (onward (async_sent p) running)))

-- 7 to 15: "reserved: idle, command 0, answer names the command's own address"
abbrev pub reserved_step : Place → Outcome
reserved_step p = gives (Reserved p.address) (at p idle 0)

-- 6 jump: "to address in bits 8 to 0"; paper 02 (vii): "Jumps to 256 and above become real"; after the last command "only a jump there goes to its target"
abbrev pub jump_step : Place → ℕ → Outcome
jump_step p to = gives Quiet (at p running to)

-- the table of codes, row by row; "A command that sends nothing gives quiet"
unfoldable pub command_step : Place → ℕ → ℕ → ℕ → Outcome
command_step p parity command value =
    cond (eqb (code command) stop) (gives Quiet (at p idle 0))
    (cond (eqb (code command) message) (message_step p (as_sent parity value))
    (cond (eqb (code command) gap) (gap_step (marked p 0) parity (clamped value))
    (cond (eqb (code command) fixed_gap) (gives (Null (clamped value)) (onward (marked p 0) running))
    (cond (eqb (code command) pause) (gives Quiet (onward p paused))
    (cond (eqb (code command) interrupt) (record { output = Quiet; place = onward p running; signal = 1 })
    (cond (eqb (code command) jump) (jump_step p (target command))
    (reserved_step p)))))))

-- "while running, one command of the schedule RAM"; else quiet
unfoldable pub stepped : Place → ℕ → ℕ → ℕ → Outcome
stepped p parity command value = cond (eqb p.state running) (command_step p parity command value) (gives Quiet p)

-- the same over the two RAMs: "one command of the schedule RAM", "message RAM at bits 7 to 0"
unfoldable pub step_at : List ℕ → List ℕ → Place → ℕ → Outcome
step_at schedule messages p parity =
    stepped p parity (get_or schedule p.address 0) (get_or messages (message_address (get_or schedule p.address 0)) 0)
