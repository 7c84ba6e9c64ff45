-- A list of at most eight numbers in eight words.
use Rattle.std.specs.Prelude.{ℕ, ◌-◌, ◌≡◌, List, ◌++◌, length, replicate}
use Rattle.calls.specs.declared.answers.Numbers.{Numbers}

-- the list in the first `count` words, and zeros behind it
abbrev pub Lists : Numbers → List ℕ → Type 0
Lists n l = (n.count ≡ length l) × (n.words ≡ l ++ replicate (8 - length l) 0)
