-- The seven conditions, the latch and the rule (paper 01, "Faults and status"). A mask has a bit for each condition: bit 0 weighs 1, bit 6 weighs 64.
use Rattle.std.specs.Prelude.{ℕ, ◌+◌, ◌*◌, ◌/◌, ◌%◌, List, Bool, cond, eqb, leb, ltb, set}
use Rattle.block.specs.Layout.{word, receive_level, receive_size, almost_full, transmit_level, almost_empty, latch, enable, level_mask}

-- a weight where a test holds, else 0
abbrev pub flag : Bool → ℕ → ℕ
flag t p = cond t p 0

-- the weights of the conditions that a call may signal, and of the fault
abbrev pub parity_error_signal : ℕ
parity_error_signal = 16

abbrev pub interrupt_signal : ℕ
interrupt_signal = 32

abbrev pub fault_weight : ℕ
fault_weight = 64

-- "0 receive level at or above almost full; 1 level at size; 2 transmit level at or below almost empty; 3 transmit empty"
unfoldable pub conditions : List ℕ → ℕ
conditions b =
    flag (leb (word b almost_full) (word b receive_level)) 1
    + flag (eqb (word b receive_level) (word b receive_size)) 2
    + flag (leb (word b transmit_level) (word b almost_empty)) 4
    + flag (eqb (word b transmit_level) 0) 8

-- "6 counter above threshold": 1 or 0 (004: "fault when the threshold is surpassed")
abbrev pub faulty : ℕ → ℕ → ℕ
faulty counter threshold = flag (ltb threshold counter) 1

-- the conditions that hold of a block, with the fault: 0 or 1
abbrev pub holding : ℕ → List ℕ → ℕ
holding fault b = conditions b + fault_weight * fault

-- the bit of weight p of a mask
abbrev pub bit : ℕ → ℕ → ℕ
bit p mask = mask / p % 2

-- a mask made bit by bit
abbrev pub seven : (ℕ → ℕ) → ℕ
seven f = f 1 + f 2 + f 4 + f 8 + f 16 + f 32 + f 64

-- "each latch bit is set if its condition holds and (edge) did not before the call, or (level) simply holds"; one that is set stays
unfoldable pub latch_bit : ℕ → ℕ → ℕ → ℕ → ℕ → ℕ
latch_bit p old level before holds =
    cond (eqb (bit p old) 1) p
    (cond (eqb (bit p holds) 0) 0
    (cond (eqb (bit p level) 1) p
    (cond (eqb (bit p before) 1) 0 p)))

unfoldable pub latched : ℕ → ℕ → ℕ → ℕ → ℕ
latched old level before holds = seven (λ p. latch_bit p old level before holds)

-- the rule, on the block that a call left, with the conditions before the call and after it
abbrev pub ruled : ℕ → ℕ → List ℕ → List ℕ
ruled before holds b = set b latch (latched (word b latch) (word b level_mask) before holds)

-- the bits of a latch whose bit of a mask is x: 0 for those that the mask does not name, 1 for those that it names
unfoldable pub chosen_bit : ℕ → ℕ → ℕ → ℕ → ℕ
chosen_bit p old mask x = cond (eqb (bit p old) 1) (cond (eqb (bit p mask) x) p 0) 0

unfoldable pub chosen : ℕ → ℕ → ℕ → ℕ
chosen old mask x = seven (λ p. chosen_bit p old mask x)

-- "Writing ones clears those latch bits first"
abbrev pub latch_cleared : ℕ → List ℕ → List ℕ
latch_cleared mask b = set b latch (chosen (word b latch) mask 0)

-- "Interrupt is pending if a latched bit is enabled": 1, else 0
unfoldable pub pending : List ℕ → ℕ
pending b = cond (eqb (chosen (word b latch) (word b enable) 1) 0) 0 1
