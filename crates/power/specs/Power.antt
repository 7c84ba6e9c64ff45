-- Power-up: when it is refused, and the memory that it leaves (paper 01, "Memory and answer numbers", "Channel settings", "Faults and status").
use Rattle.std.specs.Prelude.{ℕ, zero, suc, List, [], ◌∷◌, ◌++◌, cond, ltb, length, drop}
use Rattle.block.specs.Layout.{block_words}
use Rattle.settings.specs.Factory.{factory_of}
use Rattle.block.specs.Refusals.{leave_unless}
use Rattle.frame.specs.Layout.{layout_number, most, need}

-- "at power-up a count outside 1 to 12" is 4; 1 is "below the need of the asked count, where that is 1 to 12"
unfoldable pub power_refusal : ℕ → ℕ → ℕ
power_refusal k n =
    cond (ltb k 1) 4
    (cond (ltb most k) 4
    (cond (ltb n (need k)) 1 0))

-- "stamp and counters 0", the fault threshold 5 and the stamp resolution 0 of the factory, counters "beside those of unused channels (0 from power-up, tested too)"
-- between a count and a layout number
abbrev pub part_with : ℕ → ℕ → List ℕ
part_with k number = k ∷ 0 ∷ 0 ∷ 5 ∷ 0 ∷ 0 ∷ 0 ∷ 0 ∷ 0 ∷ 0 ∷ 0 ∷ 0 ∷ 0 ∷ 0 ∷ 0 ∷ 0 ∷ number ∷ []

-- the module part from power-up
abbrev pub factory_part : ℕ → List ℕ
factory_part k = part_with k layout_number

-- a list n times, one after the other
unfoldable pub repeated : ℕ → List ℕ → List ℕ
repeated zero f = []
repeated (suc n) f = repeated n f ++ f

-- the blocks of n channels: "settings to factory"; match sets, mailboxes, both RAMs and the counts: "Power-up .. zeroes those too"
abbrev pub factory_blocks : ℕ → List ℕ
factory_blocks n = repeated n (factory_of block_words)

-- "Power-up overwrites all needed words", "Words beyond the need are never touched"
unfoldable pub powered : ℕ → List ℕ → List ℕ
powered k m = factory_part k ++ (factory_blocks k ++ drop (need k) m)

-- "A refusal (1 to 7) changes no lent word"
abbrev pub power_after : ℕ → List ℕ → List ℕ
power_after k m = leave_unless (power_refusal k (length m)) (powered k m) m
