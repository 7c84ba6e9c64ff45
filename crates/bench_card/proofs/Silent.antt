-- Commands that send nothing and run on: where they lead goes by the address alone, so no more than 512 of them stand before an output.
-- Assumes nothing.
use mathlib.Core.Path.{◌≡◌, refl, sym, ap, subst, ◌∙◌}
use mathlib.Core.Bool.{Bool, true, false, cond, true≢false}
use Prim.Native.Nat.{ℕ, zero, suc, ◌+◌, ◌-◌, ◌≤◌, ◌<◌}
use native.Mathlib.Decide.{dec_lt}
use native.Mathlib.Omega.{arith}
use lib.Dec.{eqb, ltb, leb}
use lib.ListN.{get_or}
use borrow.Author.Tests.{eq-eqb, eqb-true, ne_eqb, leb-false, lt-ltb, ltb-true}
use Rattle.word.specs.Gap.{clamped}
use Rattle.word.specs.Parity.{as_sent}
use Rattle.schedule.specs.Codes.{running, paused, code, target, stop, message, gap, fixed_gap, pause, interrupt, jump, commands, last, async_gap, message_address}
use Rattle.schedule.specs.Schedule.{onward, marked, message_step, gap_step, jump_step, command_step, stepped, step_at}
use Rattle.schedule.specs.declared.Place.{Place}
use Rattle.schedule.specs.declared.Outcome.{Outcome}
use Rattle.schedule.specs.declared.Output.TheVariants.{Quiet}
use Rattle.bench_card.specs.Bench.{Bench}
use Rattle.bench_card.specs.Asyncs.{before}
use Rattle.bench_card.specs.Run.{outcome_at, sends}
use Rattle.bench_card.proofs.Pigeon.{pigeon}
use Rattle.bench_card.proofs.Writes.{before-state, before_address}

-- whether a command of a code at an address sends nothing and runs on
silent : ℕ → ℕ → Bool
silent c a = cond (eqb c interrupt) (ltb a last) (eqb c jump)

-- the address that it leads to
onto : ℕ → ℕ → ℕ
onto command a = cond (eqb (code command) interrupt) (a + 1) (target command)

-- what an outcome of a command at an address tells of it
record Told (command a : ℕ) (o : Outcome) : Type 0 where
  runs_on : sends o.output ≡ false → o.place.state ≡ running → (silent (code command) a ≡ true) × (o.place.address ≡ onto command a)
  sends_here : sends o.output ≡ true → silent (code command) a ≡ false

-- a fact of both cases of a test
by : {A : Type 0} (Q : A → Type 0) (t : Bool) (x y : A) → (t ≡ true → Q x) → (t ≡ false → Q y) → Q (cond t x y)
by Q true x y h k = h refl
by Q false x y h k = k refl

module _ (command : ℕ) (q : Place) where
  abbrev Tells : Outcome → Type 0
  Tells o = Told command q.address o

  -- an output
  sent-told : (c : ℕ) {o : Outcome} → code command ≡ c → silent c q.address ≡ false → sends o.output ≡ true → Tells o
  sent-told c e n s =
      record { runs_on = λ f r. absurd (true≢false (sym s ∙ f)); sends_here = λ f. ap (λ k. silent k q.address) e ∙ n }

  -- nothing sent, and no longer running
  ended-told : {o : Outcome} → sends o.output ≡ false → (o.place.state ≡ running → ⊥) → Tells o
  ended-told n r = record { runs_on = λ f s. absurd (r s); sends_here = λ f. absurd (true≢false (sym f ∙ n)) }

  onward_paused : (onward q paused).state ≡ running → ⊥
  unfolding onward
  onward_paused = by (λ (p : Place). p.state ≡ running → ⊥) (leb last q.address) _ _ (λ e r. omega arith) (λ e r. omega arith)

  interrupt_told : code command ≡ interrupt → Tells (record { output = Quiet; place = onward q running; signal = 1 })
  unfolding onward silent onto
  interrupt_told c = by (λ (p : Place). Tells (record { output = Quiet; place = p; signal = 1 })) (leb last q.address) _ _
      (λ e. record { runs_on = λ f r. absurd (omega arith); sends_here = λ f. absurd (true≢false (sym f)) })
      (λ e. record {
        runs_on = λ f r. (rw (eq-eqb (code command) interrupt c) (lt-ltb q.address last (leb-false last q.address e)), rw (eq-eqb (code command) interrupt c));
        sends_here = λ f. absurd (true≢false (sym f));
      })

  jump_told : code command ≡ jump → Tells (jump_step q (target command))
  unfolding silent onto
  jump_told c = record { runs_on = λ f r. (ap (λ k. silent k q.address) c, rw (ne_eqb (code command) interrupt (λ z. omega arith))); sends_here = λ f. absurd (true≢false (sym f)) }

  gap_told : (p : Place) (parity g : ℕ) → code command ≡ gap → Tells (gap_step p parity g)
  unfolding gap_step silent
  gap_told p parity g c =
      by Tells (eqb p.waiting 0) _ _ (λ e. sent-told gap c refl refl)
      (λ e. by Tells (ltb g async_gap) _ _ (λ f. sent-told gap c refl refl) (λ f. sent-told gap c refl refl))

  message_told : (w : ℕ) → code command ≡ message → Tells (message_step q w)
  unfolding message_step silent
  message_told w c = by Tells (eqb q.mark 0) _ _ (λ e. sent-told message c refl refl) (λ e. sent-told message c refl refl)

  command-told : (parity value : ℕ) → Tells (command_step q parity command value)
  unfolding command_step silent
  command-told parity value =
      is stop _ _ (λ e. ended-told refl (λ r. omega arith))
      (is message _ _ (λ e. message_told (as_sent parity value) e)
      (is gap _ _ (λ e. gap_told (marked q 0) parity (clamped value) e)
      (is fixed_gap _ _ (λ e. sent-told fixed_gap e refl refl)
      (is pause _ _ (λ e. ended-told refl onward_paused)
      (is interrupt _ _ interrupt_told
      (is jump _ _ jump_told (ended-told refl (λ r. omega arith))))))))
    where
      is : (k : ℕ) (x y : Outcome) → (code command ≡ k → Tells x) → Tells y → Tells (cond (eqb (code command) k) x y)
      is k x y h i = by Tells (eqb (code command) k) x y (λ e. h (eqb-true (code command) k e)) (λ e. i)

-- the command at an address of a card's schedule
abbrev command_at : Bench → ℕ → ℕ
command_at b a = get_or b.schedule a 0

abbrev silent_at : Bench → ℕ → Bool
silent_at b a = silent (code (command_at b a)) a

abbrev onto_at : Bench → ℕ → ℕ
onto_at b a = onto (command_at b a) a

-- what a command of a running schedule tells of its address
told : (b : Bench) (step : ℕ) (p : Place) → p.state ≡ running → Told (command_at b p.address) p.address (outcome_at b step p)
unfolding outcome_at step_at stepped
told b step p r =
    let q = before step b.asyncs p in
    let running-still : q.state ≡ running = before-state step b.asyncs p ∙ r in
    rw (eq-eqb q.state running running-still)
    (subst (λ (a : ℕ). Told (command_at b a) a (command_step q b.parity (command_at b q.address) (get_or b.messages (message_address (command_at b q.address)) 0)))
    (before_address step b.asyncs p)
    (command-told (command_at b q.address) q b.parity (get_or b.messages (message_address (command_at b q.address)) 0)))

-- k commands from an address on send nothing and run on, and the next is no such command
pub Leads : Bench → ℕ → ℕ → Type 0
Leads b zero a = silent_at b a ≡ false
Leads b (suc k) a = (silent_at b a ≡ true) × Leads b k (onto_at b a)

module _ (b : Bench) (step : ℕ) (p : Place) (r : p.state ≡ running) where
  pub leads_here : sends (outcome_at b step p).output ≡ true → Leads b 0 p.address
  unfolding Leads
  leads_here s = (told b step p r).sends_here s

  pub leads_on : (k : ℕ) → sends (outcome_at b step p).output ≡ false → (outcome_at b step p).place.state ≡ running
      → Leads b k (outcome_at b step p).place.address → Leads b (suc k) p.address
  unfolding Leads
  leads_on k s t l = let f = (told b step p r).runs_on s t in (f.0, subst (Leads b k) f.1 l)

-- ---- 512 commands at most

-- where i commands lead
ahead : Bench → ℕ → ℕ → ℕ
ahead b zero a = a
ahead b (suc i) a = ahead b i (onto_at b a)

ahead_leads : (b : Bench) (i k a : ℕ) → i ≤ k → Leads b k a → Leads b (k - i) (ahead b i a)
unfolding ahead Leads
ahead_leads b zero k a h l = let e : k ≡ k - 0 = omega arith in subst (λ (n : ℕ). Leads b n a) e l
ahead_leads b (suc i) zero a h l = absurd (omega arith)
ahead_leads b (suc i) (suc k) a h l =
    let e : k - i ≡ suc k - suc i = omega arith in
    subst (λ (n : ℕ). Leads b n (ahead b i (onto_at b a))) e (ahead_leads b i k (onto_at b a) (omega arith) l.1)

-- how many it takes goes by the address
leads_same : (b : Bench) (k j a : ℕ) → Leads b k a → Leads b j a → k ≡ j
unfolding Leads
leads_same b zero zero a l m = refl
leads_same b zero (suc j) a l m = absurd (true≢false (sym m.0 ∙ l))
leads_same b (suc k) zero a l m = absurd (true≢false (sym l.0 ∙ m))
leads_same b (suc k) (suc j) a l m = ap suc (leads_same b k j (onto_at b a) l.1 m.1)

-- every address is one of the schedule RAM's
onto_below : (command a : ℕ) → silent (code command) a ≡ true → onto command a < commands
unfolding silent onto
onto_below command a = go (eqb (code command) interrupt)
  where
    go : (t : Bool) → cond t (ltb a last) (eqb (code command) jump) ≡ true → cond t (a + 1) (target command) < commands
    go true e = omega (arith, ltb-true a last e)
    go false e = omega arith

ahead_below : (b : Bench) (i k a : ℕ) → i ≤ k → a < commands → Leads b k a → ahead b i a < commands
unfolding ahead Leads
ahead_below b zero k a h l m = l
ahead_below b (suc i) zero a h l m = absurd (omega arith)
ahead_below b (suc i) (suc k) a h l m = ahead_below b i k (onto_at b a) (omega arith) (onto_below (command_at b a) a m.0) m.1

-- "after 512 commands in a row that sent nothing (none ever will)": an output comes before
pub leads_below : (b : Bench) (k a : ℕ) → a < commands → Leads b k a → k < commands
leads_below b k a h l = go (dec_lt k commands)
  where
    apart : commands ≤ k → (i j : ℕ) → i < j → j ≤ commands → ahead b i a ≡ ahead b j a → ⊥
    apart m i j f g e =
        omega (arith, leads_same b (k - i) (k - j) (ahead b j a) (subst (Leads b (k - i)) e (ahead_leads b i k a (omega arith) l)) (ahead_leads b j k a (omega arith) l))

    go : Dec (k < commands) → k < commands
    go (yes m) = m
    go (no m) =
        let n : commands ≤ k = omega arith in
        absurd (pigeon commands (λ i. ahead b i a) (λ i f. ahead_below b i k a (omega arith) h l) (apart n))
