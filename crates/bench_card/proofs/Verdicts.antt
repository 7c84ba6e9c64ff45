-- The verdict on a record from one of its outputs on.
-- Assumes nothing.
use mathlib.Core.Path.{◌≡◌, refl, ap, ◌∙◌}
use Rattle.std.specs.Prelude.{None}
use mathlib.Core.Bool.{true, false}
use mathlib.Core.List.{List, [], ◌∷◌, ◌++◌}
use Prim.Native.Nat.{ℕ, ◌+◌, ◌<◌, min}
use lib.ListN.{length}
use Rattle.schedule.specs.Codes.{commands}
use Rattle.schedule.specs.Output.{values}
use Rattle.schedule.specs.declared.Place.{Place}
use Rattle.schedule.specs.declared.Output.{Output}
use Rattle.bench_card.specs.Bench.{Bench}
use Rattle.bench_card.specs.Run.{next_of, next_output, dues}
use Rattle.bench_card.specs.Record.{numbers, recorded, same}
use Rattle.bench_card.specs.Verdict.{compared}
use Rattle.bench_card.specs.declared.Verdict.{Verdict}
use Rattle.bench_card.specs.declared.Verdict.TheVariants.{Yes, Differs, Nothing}
use Rattle.bench_card.proofs.Records.{recorded_chunk, recorded_none}

-- what is said of the outputs from the one at `number` on, with the schedule at a place before a step
abbrev pub said_from : Bench → ℕ → ℕ → Place → List (List ℕ) → Verdict
said_from b number step p outputs = compared number outputs (dues b (length outputs) step p)

module _ (b : Bench) (number step : ℕ) (p : Place) where
  -- no output left
  pub said_yes : said_from b number step p [] ≡ Yes
  unfolding compared
  said_yes = refl

  module _ (r : List ℕ) (rest : List (List ℕ)) where
    -- the rules give no further output
    pub said-nothing : next_output b commands step p ≡ None → said_from b number step p (r ∷ rest) ≡ Nothing number
    unfolding compared dues
    said-nothing e = rw e

    module _ (o : Output) (q : Place) (s : ℕ) (e : next_output b commands step p ≡ next_of o q s) where
      -- they give another one
      pub said_differs : same r (values o) ≡ false → said_from b number step p (r ∷ rest) ≡ Differs number o
      unfolding compared dues
      said_differs d = rw (e, d)

      -- they give this one
      pub said_agrees : same r (values o) ≡ true → said_from b number step p (r ∷ rest) ≡ said_from b (number + 1) s q rest
      unfolding compared dues
      said_agrees d = rw (e, d)

-- the same over the lent numbers that are left
module _ (b : Bench) (number step : ℕ) (p : Place) (l : List ℕ) where
  pub yes_at : length l ≡ 0 → said_from b number step p (recorded l) ≡ Yes
  yes_at h = ap (said_from b number step p) (recorded_none l h) ∙ said_yes b number step p

  module _ (x rest : List ℕ) (size : ℕ) (four : size ≡ numbers) (is : l ≡ x ++ rest) (n : length x ≡ min size (length l)) (h : 0 < length l) where
    next_one : said_from b number step p (recorded l) ≡ said_from b number step p (x ∷ recorded rest)
    next_one = rw is (ap (said_from b number step p) (recorded_chunk x rest (rw (four, is) at n) (rw is at h)))

    pub nothing-at : next_output b commands step p ≡ None → said_from b number step p (recorded l) ≡ Nothing number
    nothing-at e = next_one ∙ said-nothing b number step p x (recorded rest) e

    module _ (o : Output) (q : Place) (s : ℕ) (e : next_output b commands step p ≡ next_of o q s) where
      pub differs_at : same x (values o) ≡ false → said_from b number step p (recorded l) ≡ Differs number o
      differs_at d = next_one ∙ said_differs b number step p x (recorded rest) o q s e d

      pub agrees_at : same x (values o) ≡ true → said_from b number step p (recorded l) ≡ said_from b (number + 1) s q (recorded rest)
      agrees_at d = next_one ∙ said_agrees b number step p x (recorded rest) o q s e d
