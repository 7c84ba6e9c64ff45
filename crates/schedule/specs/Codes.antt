-- The numbers of a schedule and what stands in a command (paper 01, "Transmit").
use Rattle.std.specs.Prelude.{ℕ, ◌-◌, ◌/◌, ◌%◌}

-- "States: idle, running, paused"
abbrev pub idle : ℕ
idle = 0

abbrev pub running : ℕ
running = 1

abbrev pub paused : ℕ
paused = 2

-- "bits 15 to 12"; "Other bits are ignored"
abbrev pub code : ℕ → ℕ
code command = command / 4096 % 16

-- "Message RAM is 256 words"
abbrev pub messages : ℕ
messages = 256

abbrev pub last_message : ℕ
last_message = messages - 1

-- paper 02 (vii): "Raise schedule RAM to 512"
abbrev pub commands : ℕ
commands = 512

-- "message RAM at bits 7 to 0"
abbrev pub message_address : ℕ → ℕ
message_address command = command % messages

-- "to address in bits 8 to 0": every address of the schedule RAM (paper 02 (vii), "The manual's jump has nine address bits")
abbrev pub target : ℕ → ℕ
target command = command % commands

-- the codes of the table: "0 stop", "1 message", "2 gap", "3 fixed gap", "4 pause", "5 interrupt", "6 jump"; "7 to 15" are reserved
abbrev pub stop : ℕ
stop = 0

abbrev pub message : ℕ
message = 1

abbrev pub gap : ℕ
gap = 2

abbrev pub fixed_gap : ℕ
fixed_gap = 3

abbrev pub pause : ℕ
pause = 4

abbrev pub interrupt : ℕ
interrupt = 5

abbrev pub jump : ℕ
jump = 6

-- the address of the last command
abbrev pub last : ℕ
last = commands - 1

-- "In a gap of 40 or more a waiting async word goes out: 4 null, the word (32), g - 36 null"
abbrev pub async_gap : ℕ
async_gap = 40

abbrev pub async_part : ℕ
async_part = 36
