-- Where each word of a channel's block stands (paper 01, "Memory and answer numbers"; docs/MEMORY.md).
-- The numbers with a range come first, so that one table of ranges serves them all: an offset is the one before it and its size.
use Rattle.std.specs.Prelude.{ℕ, ◌+◌, ◌-◌, ◌*◌, ◌/◌, List, ◌≡◌, get_or, length}
use Rattle.ring.specs.Ring.{Ring, end, triples, singles}
use Rattle.schedule.specs.Codes.{messages, commands}

-- a word of a block
abbrev pub word : List ℕ → ℕ → ℕ
word b i = get_or b i 0

-- "Channel settings"
abbrev pub receiver : ℕ
receiver = 0

abbrev pub transmitter : ℕ
transmitter = receiver + 1

abbrev pub parity : ℕ
parity = transmitter + 1

abbrev pub matching : ℕ
matching = parity + 1

abbrev pub stamps : ℕ
stamps = matching + 1

abbrev pub receive_mode : ℕ
receive_mode = stamps + 1

abbrev pub fifo_kind : ℕ
fifo_kind = receive_mode + 1

abbrev pub transmit_mode : ℕ
transmit_mode = fifo_kind + 1

abbrev pub receive_size : ℕ
receive_size = transmit_mode + 1

abbrev pub almost_full : ℕ
almost_full = receive_size + 1

abbrev pub almost_empty : ℕ
almost_empty = almost_full + 1

abbrev pub rate : ℕ
rate = almost_empty + 1

-- how many settings there are
abbrev pub settings : ℕ
settings = rate + 1

-- both FIFOs: how many entries are held, and the slot of the oldest
abbrev pub receive_level : ℕ
receive_level = settings

abbrev pub receive_position : ℕ
receive_position = receive_level + 1

abbrev pub transmit_level : ℕ
transmit_level = receive_position + 1

abbrev pub transmit_position : ℕ
transmit_position = transmit_level + 1

-- "States: idle, running, paused", "command address" and "the async mark"
abbrev pub state : ℕ
state = transmit_position + 1

abbrev pub address : ℕ
address = state + 1

abbrev pub async_mark : ℕ
async_mark = address + 1

-- "latch, enable and level masks"
abbrev pub latch : ℕ
latch = async_mark + 1

abbrev pub enable : ℕ
enable = latch + 1

abbrev pub level_mask : ℕ
level_mask = enable + 1

-- paper 02 (i), "The channel record gains this one mark": 1 where "the last thing sent by the schedule was a message word"
abbrev pub message_mark : ℕ
message_mark = level_mask + 1

-- how many words have a range: those above
abbrev pub ranged : ℕ
ranged = message_mark + 1

-- the async word, which is waiting where its mark is 1
abbrev pub async_word : ℕ
async_word = ranged

-- "Receive FIFO: accepted, read, cleared, overwritten. Transmit FIFO: accepted, sent, cleared."
abbrev pub receive_accepted : ℕ
receive_accepted = async_word + 1

abbrev pub receive_read : ℕ
receive_read = receive_accepted + 1

abbrev pub receive_cleared : ℕ
receive_cleared = receive_read + 1

abbrev pub receive_overwritten : ℕ
receive_overwritten = receive_cleared + 1

abbrev pub transmit_accepted : ℕ
transmit_accepted = receive_overwritten + 1

abbrev pub transmit_sent : ℕ
transmit_sent = transmit_accepted + 1

abbrev pub transmit_cleared : ℕ
transmit_cleared = transmit_sent + 1

-- the rings of both FIFOs
abbrev pub receive_ring_at : ℕ
receive_ring_at = transmit_cleared + 1

abbrev pub transmit_ring_at : ℕ
transmit_ring_at = end (triples receive_ring_at)

abbrev pub receive_ring : Ring
receive_ring = triples receive_ring_at

abbrev pub transmit_ring : Ring
transmit_ring = singles transmit_ring_at

-- "a match index 0 to 1023": the SDI/Label indexes
abbrev pub indexes : ℕ
indexes = 1024

abbrev pub last_index : ℕ
last_index = indexes - 1

-- 1,024 mailboxes of three words, the match set of 1,024 bits, the message RAM and the schedule RAM
abbrev pub mailboxes : ℕ
mailboxes = end (singles transmit_ring_at)

abbrev pub match_set : ℕ
match_set = mailboxes + 3 * indexes

abbrev pub message_ram : ℕ
message_ram = match_set + indexes / 32

abbrev pub schedule_ram : ℕ
schedule_ram = message_ram + messages

-- the words of a channel
abbrev pub block_words : ℕ
block_words = schedule_ram + commands

-- a block has exactly these words
abbrev pub Whole : List ℕ → Type 0
Whole b = length b ≡ block_words
