-- The items performed one after another with the arrival followed, in the shape of the code.
use Rattle.std.specs.Prelude.{ℕ, zero, suc, ◌+◌, ◌*◌, List, Option, None, Some}
use Rattle.registers.specs.Access.{access_answer}
use Rattle.registers.specs.declared.accesses.Access.{Access}
use Rattle.sessions.specs.Sessions.{item_bytes, item_at, performed}
use Rattle.following.specs.Course.{begun, next}
use Rattle.following.specs.declared.course.Watch.{Watch}

-- the item at place at, on a memory
abbrev pub followed : Option Access → ℕ → ℕ → ℕ → List ℕ → Watch → Watch
followed None ch place at m w = w
followed (Some x) ch place at m w = next ch place at x (access_answer x m) w

-- the first n items
abbrev pub followed_to : ℕ → List ℕ → ℕ → ℕ → List ℕ → Watch
followed_to zero bytes ch place m = begun
followed_to (suc n) bytes ch place m = followed (item_at bytes (item_bytes * n)) ch place (n + 1) (performed n bytes m) (followed_to n bytes ch place m)
