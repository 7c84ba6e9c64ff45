-- `transmit::step::command` meets its contract: the two RAMs are parts of the block.
-- Assumes nothing.
use Rattle.std.proofs.Common.{◌≡◌, ℕ, ◌+◌, ◌<◌, ◌≤◌, List, length, get_or, take, drop, refl, ◌∙◌, mod-lt, arith, length-drop, length-take, get_or-drop, get_or-take}
use Rattle.block.specs.Layout.{word, parity, address, message_ram, schedule_ram}
use Rattle.memories.specs.Memories.{ram_read}
use Rattle.block.specs.Ranges.{Usable}
use Rattle.schedule.specs.Codes.{messages, commands, message_address}
use Rattle.schedule.specs.Schedule.{step_at}
use Rattle.schedule.specs.declared.Outcome.{Outcome}
use Rattle.transmit.specs.Step.{place, command, scheduled_outcome}
use Rattle.transmit_controls.proofs.Bounds.{address_fits}
use Rattle.transmit.proofs.step.command.Goals as goal

-- a part of the block, and its words
part_length : (at n : ℕ) (b : List ℕ) → at + n ≤ length b → length (take n (drop at b)) ≡ n
part_length at n b h = omega (arith, length-take n (drop at b), length-drop at b)

part_word : (at n i : ℕ) (b : List ℕ) → i < n → get_or (take n (drop at b)) i 0 ≡ ram_read at i b
part_word at n i b h = get_or-take n (drop at b) i 0 h ∙ get_or-drop at b i 0

outcome_is : {b : List ℕ} → Usable b → (o : Outcome)
    → o ≡ step_at (take commands (drop schedule_ram b)) (take messages (drop message_ram b)) (place b) (word b parity) → o ≡ scheduled_outcome b
unfolding step_at scheduled_outcome
outcome_is {b} u o e =
    let fits : word b address < commands = omega (arith, address_fits u) in
    e
    ∙ rw (part_word schedule_ram commands (word b address) b fits, part_word message_ram messages (message_address (command b)) b (mod-lt (command b) (omega arith)))
    refl

pub step_at-requires : goal.step_at-requires
step_at-requires c = let b : List ℕ = c.args.block.now in
    let long : schedule_ram + commands ≤ length b = omega (arith, c.requires.whole) in
    let s = part_length schedule_ram commands b long in
    let m = part_length message_ram messages b (omega arith) in
    (omega (arith, address_fits c.requires), omega arith)

pub returns : goal.returns
returns c = outcome_is c.requires c.step_at.result c.step_at.ensures
