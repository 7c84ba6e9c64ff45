-- Factory values (paper 01, "Channel settings").
use Rattle.std.specs.Prelude.{ℕ, ◌-◌, List, [], ◌∷◌, ◌++◌, replicate, set}
use Rattle.std.proofs.lemmas.List.Edits.{sets}
use Rattle.ring.specs.Ring.{slots}
use Rattle.block.specs.Layout.{settings, receiver, parity, receive_size}
use Rattle.block.specs.Modes.{fifo_mode, bounded, immediate}

-- the table's column "Factory": size, almost full and almost empty threshold, rate
abbrev pub factory_numbers : List ℕ
factory_numbers = slots ∷ 128 ∷ 32 ∷ 4 ∷ []

-- "Factory: receiver, transmitter, match and stamps off, parity on, FIFO mode, bounded, immediate", and the numbers
abbrev pub factory_settings : List ℕ
factory_settings = 0 ∷ 0 ∷ 1 ∷ 0 ∷ 0 ∷ fifo_mode ∷ bounded ∷ immediate ∷ factory_numbers

-- a block of n words as power-up leaves it: factory settings, and 0 in every other word
abbrev pub factory_of : ℕ → List ℕ
factory_of n = factory_settings ++ replicate (n - settings) 0

-- "settings to factory"
abbrev pub settings_to_factory : List ℕ → List ℕ
settings_to_factory b = sets b receiver factory_settings

-- the same for those alone whose factory value is not 0: what zeros lack to be a factory block
abbrev pub nonzero_to_factory : List ℕ → List ℕ
nonzero_to_factory b = sets (set b parity 1) receive_size factory_numbers
