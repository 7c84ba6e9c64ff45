-- The numbers of the modes (paper 01, "Channel settings"), in the order in which it names them.
use Rattle.std.specs.Prelude.{ℕ}

-- "receive mode FIFO or mailbox": 0 or 1
abbrev pub fifo_mode : ℕ
fifo_mode = 0

-- "FIFO bounded or circular": 0 or 1
abbrev pub bounded : ℕ
bounded = 0

-- "transmit mode immediate, triggered or scheduled"
abbrev pub immediate : ℕ
immediate = 0

abbrev pub triggered : ℕ
triggered = 1

abbrev pub scheduled : ℕ
scheduled = 2
