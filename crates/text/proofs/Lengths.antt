-- Numbers put into a list leave it as long as it was.
-- Assumes nothing.
use mathlib.Core.Path.{◌≡◌, refl}
use mathlib.Core.Bool.{Bool, true, false, cond}
use mathlib.Core.List.{List}
use Prim.Native.Nat.{ℕ}
use lib.Dec.{ltb}
use lib.ListN.{length, set, length-set}
use Rattle.text.specs.declared.list.Listed.{Listed}
use Rattle.text.specs.Token.{token_number}
use Rattle.text.specs.Listed.{stored_in, parts, list_after}

pub length-stored : (list : List ℕ) (at : Listed) → length (stored_in list at) ≡ length list
unfolding stored_in
length-stored list at = go at.token.begun (ltb at.count (length list))
  where
    go : (a b : Bool) → length (cond a (cond b (set list at.count (token_number at.token)) list) list) ≡ length list
    go true true = simp length-set
    go true false = refl
    go false b = refl

pub length-after : (list : List ℕ) (at : Listed) (b : ℕ) → length (list_after list at b) ≡ length list
unfolding list_after
length-after list at b = go (parts b)
  where
    go : (t : Bool) → length (cond t (stored_in list at) list) ≡ length list
    go true = length-stored list at
    go false = refl
