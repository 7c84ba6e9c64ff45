-- A small card worked by hand, and what is said of records of it.
use Rattle.std.specs.Prelude.{ℕ, ◌≡◌, List, [], ◌∷◌, ◌++◌, Ok, Err, replicate}
use Rattle.schedule.specs.declared.Output.TheVariants.{Message, Null, Async, NullMessage}
use Rattle.bench_card.specs.Bench.{bench}
use Rattle.bench_card.specs.Verdict.{number_of, verdict}
use Rattle.bench_card.specs.declared.Verdict.{Verdict}
use Rattle.bench_card.specs.declared.Verdict.TheVariants.{Yes, Differs, Nothing}
use Rattle.bench_card.specs.declared.Refusal.TheVariants.{ShortRam, TooManyOutputs}

-- message 0, gap 1, message 2, an interrupt, message 0, fixed gap 3, a jump to 8, and at 8 a pause; the rest is stop
abbrev pub schedule : List ℕ
schedule = (0x1000 ∷ 0x2001 ∷ 0x1002 ∷ 0x5000 ∷ 0x1000 ∷ 0x3003 ∷ 0x6008 ∷ 0x0000 ∷ 0x4000 ∷ []) ++ replicate 503 0

-- the words 1 and 3, a gap of 40 and one of 3
abbrev pub ram : List ℕ
ram = (1 ∷ 40 ∷ 3 ∷ 3 ∷ []) ++ replicate 252 0

-- parity, async words and record of a sample, and what is said of it
pub record Sample : Type 0 where
  pub parity : ℕ
  pub asyncs : List ℕ
  pub outputs : List ℕ
  pub says : Verdict

abbrev sample : ℕ → List ℕ → List ℕ → Verdict → Sample
sample parity asyncs outputs says = record { parity = parity; asyncs = asyncs; outputs = outputs; says = says }

abbrev pub samples : List Sample
samples =
    -- the whole run: two words that follow each other stand 4 null apart, and a gap of 3 counts as 4
    sample 0 [] (2 ∷ 1 ∷ 0 ∷ 0 ∷ 3 ∷ 40 ∷ 0 ∷ 0 ∷ 2 ∷ 3 ∷ 0 ∷ 0 ∷ 6 ∷ 4 ∷ 1 ∷ 0 ∷ 3 ∷ 4 ∷ 0 ∷ 0 ∷ []) Yes
    -- an output more: the schedule has paused
    ∷ sample 0 [] (2 ∷ 1 ∷ 0 ∷ 0 ∷ 3 ∷ 40 ∷ 0 ∷ 0 ∷ 2 ∷ 3 ∷ 0 ∷ 0 ∷ 6 ∷ 4 ∷ 1 ∷ 0 ∷ 3 ∷ 4 ∷ 0 ∷ 0 ∷ 2 ∷ 1 ∷ 0 ∷ 0 ∷ []) (Nothing 6)
    -- a record that is shorter than the run, and none at all
    ∷ sample 0 [] (2 ∷ 1 ∷ 0 ∷ 0 ∷ []) Yes
    ∷ sample 0 [] [] Yes
    -- with parity on word 3 goes out with D31 set
    ∷ sample 1 [] (2 ∷ 1 ∷ 0 ∷ 0 ∷ 3 ∷ 40 ∷ 0 ∷ 0 ∷ 2 ∷ 3 ∷ 0 ∷ 0 ∷ []) (Differs 3 (Message 0x8000_0003))
    -- an async word written before step 2 goes out in the gap of 40; one written before step 3 finds no such gap
    ∷ sample 0 (2 ∷ 7 ∷ []) (2 ∷ 1 ∷ 0 ∷ 0 ∷ 4 ∷ 4 ∷ 7 ∷ 4 ∷ []) Yes
    ∷ sample 0 (3 ∷ 7 ∷ []) (2 ∷ 1 ∷ 0 ∷ 0 ∷ 4 ∷ 4 ∷ 7 ∷ 4 ∷ []) (Differs 2 (Null 40))
    -- of two for the same step the second is refused; so is one while a word waits
    ∷ sample 0 (2 ∷ 7 ∷ 2 ∷ 9 ∷ []) (2 ∷ 1 ∷ 0 ∷ 0 ∷ 4 ∷ 4 ∷ 9 ∷ 4 ∷ []) (Differs 2 (Async 7 4))
    ∷ sample 0 (1 ∷ 7 ∷ 2 ∷ 9 ∷ []) (2 ∷ 1 ∷ 0 ∷ 0 ∷ 4 ∷ 4 ∷ 7 ∷ 4 ∷ []) Yes
    -- an async word that is cut short is none, and an output that is cut short is in no form
    ∷ sample 0 (2 ∷ []) (2 ∷ 1 ∷ 0 ∷ 0 ∷ 3 ∷ 40 ∷ 0 ∷ 0 ∷ []) Yes
    ∷ sample 0 [] (2 ∷ 1 ∷ 0 ∷ 0 ∷ 3 ∷ 40 ∷ 0 ∷ []) (Differs 2 (Null 40))
    -- a word with null time before it is another form than a word
    ∷ sample 0 [] (2 ∷ 1 ∷ 0 ∷ 0 ∷ 3 ∷ 40 ∷ 0 ∷ 0 ∷ 2 ∷ 3 ∷ 0 ∷ 0 ∷ 2 ∷ 1 ∷ 0 ∷ 0 ∷ []) (Differs 4 (NullMessage 1))
    ∷ []

-- each sample is so
abbrev pub SaidOf : List Sample → Type 0
SaidOf [] = Unit
SaidOf (s ∷ rest) = (verdict (bench schedule ram s.parity s.asyncs) s.outputs ≡ Ok s.says) × SaidOf rest

-- RAMs that are too short, before too many outputs, and the numbers of these refusals
abbrev pub RefusedSo : Type 0
RefusedSo =
    (verdict (bench (replicate 511 0) ram 0 []) (replicate 8193 0) ≡ Err ShortRam)
    × (verdict (bench schedule (replicate 255 0) 0 []) [] ≡ Err ShortRam)
    × (verdict (bench schedule ram 0 []) (replicate 8193 0) ≡ Err TooManyOutputs) × (number_of ShortRam ≡ 1) × (number_of TooManyOutputs ≡ 70)
