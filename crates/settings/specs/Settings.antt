-- The twelve settings and the house rules on writing them (paper 01, "Channel settings").
use Rattle.std.specs.Prelude.{ℕ, List, cond, eqb, ltb, set}
use Rattle.block.specs.Layout.{word, transmitter, receive_mode, transmit_mode, receive_size, receive_level}
use Rattle.block.specs.Ranges.{in_range}
use Rattle.fifos.specs.Clearing.{receive_fifo_cleared, forgotten}

-- "an argument outside its range": 4; "a size below the present level is refused with 5"; else 0
unfoldable pub setting_refusal : ℕ → ℕ → List ℕ → ℕ
setting_refusal s v b = cond (in_range s v) (cond (eqb s receive_size) (cond (ltb v (word b receive_level)) 5 0) 0) 4

-- "A change of receive mode clears the receive FIFO; writing the same mode doesn't."
abbrev pub receive_mode_written : ℕ → List ℕ → List ℕ
receive_mode_written v b = cond (eqb (word b receive_mode) v) b (set (receive_fifo_cleared b) receive_mode v)

-- "A change of transmit mode .. makes it idle at command 0 and drops the async word; its FIFO stays.
-- Writing the transmit mode already held makes none of these changes."
abbrev pub transmit_mode_written : ℕ → List ℕ → List ℕ
transmit_mode_written v b = cond (eqb (word b transmit_mode) v) b (set (forgotten b) transmit_mode v)

-- ".. or writing the transmitter off (also when it is off)"
abbrev pub transmitter_written : ℕ → List ℕ → List ℕ
transmitter_written v b = cond (eqb v 0) (set (forgotten b) transmitter v) (set b transmitter v)

-- a block with setting s written
unfoldable pub written : ℕ → ℕ → List ℕ → List ℕ
written s v b =
    cond (eqb s receive_mode) (receive_mode_written v b)
    (cond (eqb s transmit_mode) (transmit_mode_written v b)
    (cond (eqb s transmitter) (transmitter_written v b)
    (set b s v)))
