-- The version of the C interface, as one number: major, minor and patch, two digits for each of the last two.
use Rattle.std.specs.Prelude.{ℕ, ◌+◌, ◌*◌}

abbrev pub version : ℕ
version = 10000 * 0 + 100 * 1 + 0
