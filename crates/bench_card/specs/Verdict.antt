-- The verdict on a bench card (paper 02, (xiii)).
use Rattle.std.specs.Prelude.{ℕ, ◌+◌, cond, List, [], ◌∷◌, Result, Ok, Err, ltb, length}
use Rattle.schedule.specs.Codes.{commands, messages}
use Rattle.schedule.specs.Output.{values}
use Rattle.schedule.specs.declared.Output.{Output}
use Rattle.bench_card.specs.Bench.{Bench, start, first_step}
use Rattle.bench_card.specs.Run.{dues}
use Rattle.bench_card.specs.Record.{recorded, same}
use Rattle.bench_card.specs.declared.Verdict.{Verdict}
use Rattle.bench_card.specs.declared.Verdict.TheVariants.{Yes, Differs, Nothing}
use Rattle.bench_card.specs.declared.Refusal.{Refusal}
use Rattle.bench_card.specs.declared.Refusal.TheVariants.{ShortRam, TooManyOutputs}

-- "above 2,048 outputs is refused with 70"
abbrev pub most : ℕ
most = 2048

abbrev pub too_many : ℕ
too_many = 70

-- "RAMs below 512 and 256 words: 1, as in (xi) and (xiii)"
abbrev pub short : ℕ
short = 1

-- the refusals by their numbers
abbrev pub number_of : Refusal → ℕ
number_of ShortRam = short
number_of TooManyOutputs = too_many

-- a record beside the outputs due, from the output at `place` on: "yes exactly if the rules .. give that record from trigger on, else the place,
-- from 1, of the first output that differs and what was due"; "a longer record differs at its first surplus output, nothing due"
unfoldable pub compared : ℕ → List (List ℕ) → List Output → Verdict
compared place [] due = Yes
compared place (r ∷ rest) [] = Nothing place
compared place (r ∷ rest) (o ∷ due) = cond (same r (values o)) (compared (place + 1) rest due) (Differs place o)

-- the record beside what the rules give for it: "Stepping ends with the record"
abbrev pub verdict_on : Bench → List (List ℕ) → Verdict
verdict_on b outputs = compared 1 outputs (dues b (length outputs) first_step start)

-- the refusals in order, then the verdict
unfoldable pub verdict : Bench → List ℕ → Result Verdict Refusal
verdict b outputs =
    cond (ltb (length b.schedule) commands) (Err ShortRam)
    (cond (ltb (length b.messages) messages) (Err ShortRam)
    (cond (ltb most (length (recorded outputs))) (Err TooManyOutputs) (Ok (verdict_on b (recorded outputs)))))
