-- What the verdict means, by the rules alone: with no count of commands and no end of a record (paper 02, (xiii)).
use Rattle.std.specs.Prelude.{ℕ, ◌+◌, ◌≤◌, ◌≡◌, true, false, List, [], ◌∷◌, ◌++◌, map, None, Result, Ok, Err, length}
use Rattle.schedule.specs.Codes.{running, last, commands, messages}
use Rattle.schedule.specs.Output.{values}
use Rattle.schedule.specs.declared.Place.{Place}
use Rattle.schedule.specs.declared.Output.{Output}
use Rattle.bench_card.specs.Bench.{Bench, RamsWhole, bench, start, first_step}
use Rattle.bench_card.specs.Run.{outcome_at, sends, next_output}
use Rattle.bench_card.specs.Record.{recorded}
use Rattle.bench_card.specs.Verdict.{most, verdict}
use Rattle.bench_card.specs.declared.Verdict.{Verdict}
use Rattle.bench_card.specs.declared.Verdict.TheVariants.{Yes, Differs, Nothing}
use Rattle.bench_card.specs.declared.Refusal.{Refusal}

-- from a place before a step the rules give these outputs, and may give more: a running schedule takes a command, which sends nothing, or an output
pub data Gives (b : Bench) : ℕ → Place → List Output → Type 0 where
  none : {step : ℕ} {p : Place} → Gives b step p []
  quiet : {step : ℕ} {p : Place} {given : List Output} → p.state ≡ running → sends (outcome_at b step p).output ≡ false
      → Gives b (step + 1) (outcome_at b step p).place given → Gives b step p given
  sent : {step : ℕ} {p : Place} {o : Output} {given : List Output} → p.state ≡ running → sends o ≡ true → (outcome_at b step p).output ≡ o
      → Gives b (step + 1) (outcome_at b step p).place given → Gives b step p (o ∷ given)

-- the outputs of a record from the one at `number` on, with the schedule at a place before a step
module _ (b : Bench) (number step : ℕ) (p : Place) (outputs : List (List ℕ)) where
  -- "yes exactly if the rules .. give that record"
  pub record Agrees : Type 0 where
    pub given : List Output
    pub gives : Gives b step p given
    pub are : outputs ≡ map values given

  -- "else the place, from 1, of the first output that differs and what was due"
  pub record DiffersAt (place : ℕ) (due : Output) : Type 0 where
    pub given : List Output
    pub gives : Gives b step p (given ++ (due ∷ []))
    pub other : List ℕ
    pub rest : List (List ℕ)
    pub are : outputs ≡ map values given ++ (other ∷ rest)
    pub counted : place ≡ number + length given
    pub differs : other ≡ values due → ⊥

  -- "a longer record differs at its first surplus output, nothing due": the rules never give another
  pub record NothingAt (place : ℕ) : Type 0 where
    pub given : List Output
    pub gives : Gives b step p given
    pub surplus : List ℕ
    pub rest : List (List ℕ)
    pub are : outputs ≡ map values given ++ (surplus ∷ rest)
    pub counted : place ≡ number + length given
    pub no_more : (o : Output) → Gives b step p (given ++ (o ∷ [])) → ⊥

  abbrev pub RightFrom : Verdict → Type 0
  RightFrom Yes = Agrees
  RightFrom (Differs place due) = DiffersAt place due
  RightFrom (Nothing place) = NothingAt place

-- a verdict on a whole record, "from trigger on"; of such a record no refusal is right
abbrev pub Right : Bench → List (List ℕ) → Result Verdict Refusal → Type 0
Right b outputs (Ok v) = RightFrom b 1 first_step start outputs v
Right b outputs (Err refusal) = ⊥

-- of a card that is not refused exactly the right verdict is given
unfoldable pub JudgesRightly : Type 0
JudgesRightly =
    (b : Bench) (outputs : List ℕ) → RamsWhole b.schedule b.messages → length (recorded outputs) ≤ most → (v : Result Verdict Refusal)
    → (verdict b outputs ≡ v → Right b (recorded outputs) v) × (Right b (recorded outputs) v → verdict b outputs ≡ v)

-- "after 512 commands in a row that sent nothing (none ever will)"
unfoldable pub NoneEverWill : Type 0
NoneEverWill =
    (b : Bench) (step : ℕ) (p : Place) → p.address ≤ last → next_output b commands step p ≡ None → (given : List Output) → Gives b step p given
    → given ≡ []

-- "RAMs below 512 and 256 words: 1": of longer ones the first 512 and 256 count
unfoldable pub FirstWordsCount : Type 0
FirstWordsCount =
    (b : Bench) (c d outputs : List ℕ) → length b.schedule ≡ commands → length b.messages ≡ messages
    → verdict (bench (b.schedule ++ c) (b.messages ++ d) b.parity b.asyncs) outputs ≡ verdict b outputs
