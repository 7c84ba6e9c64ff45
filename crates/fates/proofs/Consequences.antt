-- What follows of every ledger.
-- Assumes nothing.
use Prim.Native.Nat.{ℕ, suc, ◌+◌}
use mathlib.Core.Path.{◌≡◌, refl, ap, ◌∙◌}
use mathlib.Core.Bool.{true, false, cond}
use mathlib.Core.List.{List, [], ◌∷◌, map}
use native.Mathlib.Omega.{arith}
use lib.ListN.{length, length-append}
use Rattle.fates.specs.Ledger.{Fate, TakenOut, Cleared, Overwritten, Departed, Ledger, numbered, by_fate, number, taken_out, cleared, overwritten}
use Rattle.fates.proofs.Ledger.{map-length}

-- one entry more, by its fate
one_more : (w : Fate) (n t c o : ℕ) → n ≡ t + c + o
    → suc n ≡ cond (by_fate true false false w) 1 0 + t + (cond (by_fate false true false w) 1 0 + c) + (cond (by_fate false false true w) 1 0 + o)
one_more (TakenOut e) n t c o h = omega (arith, h)
one_more Cleared n t c o h = omega (arith, h)
one_more Overwritten n t c o h = omega (arith, h)

-- an entry that departed was taken out, cleared or overwritten
departed_are : (ds : List Departed)
    → length ds ≡ number (by_fate true false false) ds + number (by_fate false true false) ds + number (by_fate false false true) ds
departed_are [] = refl
departed_are (d ∷ ds) = one_more d.fate (length ds) _ _ _ (departed_are ds)

-- "So accepted = taken out + cleared + overwritten + held."
pub conserved : (l : Ledger) → length (numbered l) ≡ taken_out l + cleared l + overwritten l + length l.held
conserved l =
    length-append (map (λ (d : Departed). d.accepted) l.departed) l.held
    ∙ ap (λ (n : ℕ). n + length l.held) (map-length (λ (d : Departed). d.accepted) l.departed ∙ departed_are l.departed)
