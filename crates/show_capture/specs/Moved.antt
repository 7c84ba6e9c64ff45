-- What one reading leaves.
use Rattle.std.specs.Prelude.{ℕ, ◌<◌, ◌≤◌, Option, IfSome}

-- a record moves the offset on, and not past the end of `size` bytes
abbrev pub Moved : ℕ → ℕ → Option ℕ → Type 0
Moved size at r = IfSome r (λ next. (at < next) × (next ≤ size))
