-- The tests of a definition, decided by the tests that led to a place of the code.
-- Assumes nothing.
use borrow.Author.Tests.{lt-ltb, le-ltb, le-leb, lt-leb, eq-eqb, ne_eqb}
use native.Mathlib.Omega.{arith}

pub ruleset branches = (lt-ltb, le-ltb, le-leb, lt-leb, eq-eqb, ne_eqb, arith)
