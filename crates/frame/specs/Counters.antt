-- The fault counters (paper 01, "Faults and status").
use Rattle.std.specs.Prelude.{ℕ, ◌+◌, ◌-◌, List, cond, eqb, ltb, get_or, set, take, drop}
use Rattle.frame.specs.Layout.{counters, most}

-- "House: the counter stops at 65,536"
abbrev pub top : ℕ
top = 65536

-- "A failing sample adds 2, a good one takes 1 away, not below 0"
unfoldable pub sampled : ℕ → ℕ → ℕ
sampled result x = cond (eqb result 0) (x - 1) (cond (ltb (top - 2) x) top (x + 2))

-- "the module's twelve counters pass as one array by value", and come back with one place changed
abbrev pub counters_of : List ℕ → List ℕ
counters_of m = take most (drop counters m)

abbrev pub sampled_at : ℕ → ℕ → List ℕ → List ℕ
sampled_at ch result cs = set cs (ch - 1) (sampled result (get_or cs (ch - 1) 0))
