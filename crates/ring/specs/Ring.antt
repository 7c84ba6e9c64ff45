-- First-in, first-out rings in a block of words. A ring holds `level` entries, the oldest of them in slot `pos`, and each next one in the next slot.
-- Slots are counted on without end: slot k is the ring's slot k modulo the number of slots.
use Rattle.std.specs.Prelude.{ℕ, zero, suc, ◌+◌, ◌-◌, ◌*◌, ◌%◌, List, [], ◌∷◌, get_or}
use Rattle.std.proofs.lemmas.List.Edits.{sets}

-- where a ring stands: the index of its first word, the number of words of an entry, and the number of slots
pub record Ring : Type 0 where
  pub at : ℕ
  pub width : ℕ
  pub slots : ℕ

-- the index of the first word of slot k, and the index past the ring's last word
abbrev pub slot : Ring → ℕ → ℕ
slot r k = r.at + r.width * (k % r.slots)

abbrev pub end : Ring → ℕ
end r = r.at + r.width * r.slots

-- the n words of a block from index s on
unfoldable pub words : List ℕ → ℕ → ℕ → List ℕ
words b s zero = []
words b s (suc n) = get_or b s 0 ∷ words b (suc s) n

-- the held entries, oldest first: the n entries of a block from slot k on
unfoldable pub held : Ring → List ℕ → ℕ → ℕ → List (List ℕ)
held r b k zero = []
held r b k (suc n) = words b (slot r k) r.width ∷ held r b (suc k) n

-- the oldest entry
abbrev pub oldest : Ring → List ℕ → ℕ → List ℕ
oldest r b pos = words b (slot r pos) r.width

-- the block with an entry stored behind those held
abbrev pub appended : Ring → List ℕ → ℕ → ℕ → List ℕ → List ℕ
appended r b pos level e = sets b (slot r (pos + level)) e

-- the position behind the oldest entry, of a ring of n slots
abbrev pub next : ℕ → ℕ → ℕ
next n pos = (pos + 1) % n

-- the rings that the code has: of entries of three words, and of one
abbrev pub slots : ℕ
slots = 255

abbrev pub last_slot : ℕ
last_slot = slots - 1

abbrev pub of_width : ℕ → ℕ → Ring
of_width n at = record { at = at; width = n; slots = slots }

abbrev pub triples : ℕ → Ring
triples at = of_width 3 at

abbrev pub singles : ℕ → Ring
singles at = of_width 1 at
