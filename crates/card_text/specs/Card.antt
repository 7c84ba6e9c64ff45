-- What the lines of a card add up to: "the parity (0 or 1), then the 768 lines, then lines `async STEP WORD` and `out FORM X Y Z`".
use Rattle.std.specs.Prelude.{ℕ, ◌+◌, ◌-◌, ◌*◌, Bool, true, false, cond, List, length, nat_le, nat_lt, slice_set, Option, None, Some, is_some}
use Rattle.schedule.specs.Codes.{commands, messages}
use Rattle.bench_card.specs.Record.{numbers}
use Rattle.bench_card.specs.Verdict.{most}
use Rattle.card_lines.specs.declared.fields.Entry.{Entry}
use Rattle.card_lines.specs.declared.fields.Entry.TheVariants.{Blank, Word, Async, Out, NoEntry}
use Rattle.card_text.specs.declared.card.Card.{Card}
use Rattle.card_text.specs.declared.faults.Fault.{Fault}
use Rattle.card_text.specs.declared.faults.Fault.TheVariants as fault

-- the room that a program lends: the words of both RAMs, 4,096 async words, and one output more than a card may have
abbrev pub word_room : ℕ
word_room = commands + messages

abbrev pub async_room : ℕ
async_room = 2 * 4096

abbrev pub output_room : ℕ
output_room = most * numbers + numbers

-- 0 and 1
abbrev pub parities : ℕ
parities = 2

abbrev pub card_of : Option ℕ → ℕ → ℕ → ℕ → Bool → Option Fault → Card
card_of parity words asyncs outputs listed f =
    record { parity = parity; words = words; asyncs = asyncs; outputs = outputs; listed = listed; fault = f }

abbrev pub begun : Card
begun = card_of None 0 0 0 false None

abbrev pub is_faulty : Option Fault → Bool
is_faulty f = is_some f

abbrev pub faulty : Card → Fault → Card
faulty c f = card_of c.parity c.words c.asyncs c.outputs c.listed (Some f)

-- the parity is 0 or 1
abbrev pub with_parity : Card → ℕ → Card
with_parity c w = cond (nat_lt w parities) (card_of (Some w) c.words c.asyncs c.outputs c.listed None) (faulty c fault.NoParity)

abbrev pub parity_taken : Card → Entry → Card
parity_taken c Blank = c
parity_taken c (Word w) = with_parity c w
parity_taken c (Async step w) = faulty c fault.NoParity
parity_taken c (Out form x y z) = faulty c fault.NoParity
parity_taken c NoEntry = faulty c fault.NoParity

-- a word of the RAMs behind the others, while there is room and no async word or output was read
unfoldable pub word_card : ℕ → Card → Card
word_card room c =
    cond c.listed (faulty c fault.NoEntry)
    (cond (nat_lt c.words room) (card_of c.parity (c.words + 1) c.asyncs c.outputs false None) (faulty c fault.NoEntry))

unfoldable pub word_list : List ℕ → Card → ℕ → List ℕ
word_list l c w = cond c.listed l (cond (nat_lt c.words (length l)) (slice_set l c.words w) l)

-- an async word, step and word in turn
unfoldable pub async_card : ℕ → Card → Card
async_card room c =
    cond (nat_le room c.asyncs) (faulty c fault.NoRoom)
    (cond (nat_lt (room - c.asyncs) 2) (faulty c fault.NoRoom) (card_of c.parity c.words (c.asyncs + 2) c.outputs true None))

unfoldable pub async_list : List ℕ → Card → ℕ → ℕ → List ℕ
async_list l c step w =
    cond (nat_le (length l) c.asyncs) l (cond (nat_lt (length l - c.asyncs) 2) l (slice_set (slice_set l c.asyncs step) (c.asyncs + 1) w))

-- an output, four numbers; one for which there is no room is one too many
unfoldable pub output_card : ℕ → Card → Card
output_card room c =
    cond (nat_le room c.outputs) (card_of c.parity c.words c.asyncs c.outputs true None)
    (cond (nat_lt (room - c.outputs) 4) (card_of c.parity c.words c.asyncs c.outputs true None)
    (card_of c.parity c.words c.asyncs (c.outputs + 4) true None))

unfoldable pub output_list : List ℕ → Card → ℕ → ℕ → ℕ → ℕ → List ℕ
output_list l c form x y z =
    cond (nat_le (length l) c.outputs) l
    (cond (nat_lt (length l - c.outputs) 4) l (slice_set (slice_set (slice_set (slice_set l c.outputs form) (c.outputs + 1) x) (c.outputs + 2) y) (c.outputs + 3) z))

-- a line that says none of these
abbrev pub wrong_line : Card → ℕ → Card
wrong_line c room = cond c.listed (faulty c fault.NoEntry) (cond (nat_lt c.words room) (faulty c fault.NoWord) (faulty c fault.NoEntry))
