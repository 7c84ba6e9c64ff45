-- The verdict is the right one by the rules alone, and the only one; and an output that the rules ever give comes within 512 commands.
-- Assumes nothing.
use mathlib.Core.Path.{◌≡◌, refl, sym, ap, subst, ◌∙◌}
use mathlib.Core.Bool.{Bool, true, false, cond, true≢false}
use Rattle.std.specs.Prelude.{Option, Some, None, Result, Ok, Err}
use mathlib.Core.List.{List, [], ◌∷◌, ◌++◌, map, append-nil}
use Prim.Native.Nat.{ℕ, zero, suc, ◌+◌, ◌-◌, ◌≤◌, ◌<◌}
use native.Mathlib.Omega.{arith}
use lib.Dec.{eqb}
use lib.ListN.{length}
use borrow.Author.Tests.{eqb-true, le-ltb}
use Rattle.schedule.specs.Codes.{running, last, commands, messages}
use Rattle.schedule.specs.Output.{values}
use Rattle.schedule.specs.declared.Place.{Place}
use Rattle.schedule.specs.declared.Output.{Output}
use Rattle.bench_card.specs.Bench.{Bench, start, first_step}
use Rattle.bench_card.specs.Run.{outcome_at, sends, next_of, next_output}
use Rattle.bench_card.specs.Record.{recorded, same}
use Rattle.bench_card.specs.Verdict.{most, verdict_on, verdict}
use Rattle.bench_card.specs.Rules.{Gives, none, quiet, sent, RightFrom, Right, JudgesRightly, NoneEverWill}
use Rattle.bench_card.specs.declared.stepping.Next.{Next}
use Rattle.bench_card.specs.declared.Verdict.{Verdict}
use Rattle.bench_card.specs.declared.Refusal.{Refusal}
use Rattle.bench_card.specs.declared.Verdict.TheVariants.{Yes, Differs, Nothing}
use Rattle.bench_card.proofs.Records.{alike, same_self}
use Rattle.bench_card.proofs.Commands.{same_next, next-sent, next_quiet, behind_address}
use Rattle.bench_card.proofs.Silent.{Leads, leads_here, leads_on, leads_below}
use Rattle.bench_card.proofs.Verdicts.{said_from, said_yes, said-nothing, said_differs, said_agrees}

-- ---- the next output is one that the rules give

module _ (b : Bench) (o : Output) (q : Place) (s : ℕ) (given : List Output) (g : Gives b s q given) where
  next-gives : (left step : ℕ) (p : Place) → next_output b left step p ≡ next_of o q s → Gives b step p (o ∷ given)
  unfolding next_output
  next-gives zero step p e = cc
  next-gives (suc left) step p e =
      go (eqb p.state running) (sends (outcome_at b step p).output) refl refl (next-gives left (step + 1) (outcome_at b step p).place) e
    where
      go : (t u : Bool) → eqb p.state running ≡ t → sends (outcome_at b step p).output ≡ u
          → (next_output b left (step + 1) (outcome_at b step p).place ≡ next_of o q s → Gives b (step + 1) (outcome_at b step p).place (o ∷ given))
          → cond t (cond u (next_of (outcome_at b step p).output (outcome_at b step p).place (step + 1))
          (next_output b left (step + 1) (outcome_at b step p).place)) None ≡ next_of o q s
          → Gives b step p (o ∷ given)
      go true true w x rest e =
          let is : (outcome_at b step p).output ≡ o = ap (λ n. n.output) (same_next e) in
          let place_is : q ≡ (outcome_at b step p).place = sym (ap (λ n. n.place) (same_next e)) in
          let step_is : s ≡ step + 1 = sym (ap (λ n. n.step) (same_next e)) in
          sent (eqb-true p.state running w) (sym (ap sends is) ∙ x) is
          (subst (λ (n : ℕ). Gives b n (outcome_at b step p).place given) step_is (subst (λ (r : Place). Gives b s r given) place_is g))
      go true false w x rest e = quiet (eqb-true p.state running w) x (rest e)
      go false u w x rest e = cc

-- ---- an output that the rules give is the next one

-- the next output, found within k + 1 commands
record Found (b : Bench) (k step : ℕ) (p : Place) (o : Output) (given : List Output) : Type 0 where
  place : Place
  behind : ℕ
  is : next_output b (suc k) step p ≡ next_of o place behind
  gives : Gives b behind place given

-- the same, with the number of commands
record Within (b : Bench) (step : ℕ) (p : Place) (o : Output) (given : List Output) : Type 0 where
  count : ℕ
  running_here : p.state ≡ running
  leads : Leads b count p.address
  found : Found b count step p o given

module _ (b : Bench) (o : Output) (given : List Output) where
  some : {step : ℕ} {p : Place} → Gives b step p (o ∷ given) → Within b step p o given
  some {step} {p} (quiet r n g) =
      let f : Within b (step + 1) (outcome_at b step p).place o given = some g in
      let less : suc (suc f.count) - 1 ≡ suc f.count = omega arith in
      record {
        count = suc f.count;
        running_here = r;
        leads = leads_on b step p r f.count n f.running_here f.leads;
        found = record {
          place = f.found.place;
          behind = f.found.behind;
          is = next_quiet b (suc (suc f.count)) step p (omega arith) r n ∙ ap (λ k. next_output b k (step + 1) (outcome_at b step p).place) less ∙ f.found.is;
          gives = f.found.gives;
        };
      }
  some {step} {p} (sent r x is g) =
      let y : sends (outcome_at b step p).output ≡ true = ap sends is ∙ x in
      record {
        count = 0;
        running_here = r;
        leads = leads_here b step p r y;
        found = record {
          place = (outcome_at b step p).place;
          behind = step + 1;
          is = next-sent b 1 step p (omega arith) r y ∙ ap (λ k. next_of k (outcome_at b step p).place (step + 1)) is;
          gives = g;
        };
      }

  -- more commands find the same
  more : (left extra step : ℕ) (p q : Place) (s : ℕ) → next_output b left step p ≡ next_of o q s → left ≤ extra → next_output b extra step p ≡ next_of o q s
  unfolding next_output
  more zero extra step p q s e h = cc
  more (suc left) zero step p q s e h = absurd (omega arith)
  more (suc left) (suc extra) step p q s e h =
      go (eqb p.state running) (sends (outcome_at b step p).output) (λ f. more left extra (step + 1) (outcome_at b step p).place q s f (omega arith)) e
    where
      go : (t u : Bool)
          → (next_output b left (step + 1) (outcome_at b step p).place ≡ next_of o q s → next_output b extra (step + 1) (outcome_at b step p).place ≡ next_of o q s)
          → cond t (cond u (next_of (outcome_at b step p).output (outcome_at b step p).place (step + 1)) (next_output b left (step + 1) (outcome_at b step p).place)) None
          ≡ next_of o q s
          → cond t (cond u (next_of (outcome_at b step p).output (outcome_at b step p).place (step + 1)) (next_output b extra (step + 1) (outcome_at b step p).place)) None
          ≡ next_of o q s
      go true true rest e = e
      go true false rest e = rest e
      go false u rest e = e

-- what the rules give first is the next output, within 512 commands
record Next-is (b : Bench) (step : ℕ) (p : Place) (o : Output) (given : List Output) : Type 0 where
  place : Place
  behind : ℕ
  is : next_output b commands step p ≡ next_of o place behind
  gives : Gives b behind place given

next_is : (b : Bench) {step : ℕ} {p : Place} (o : Output) (given : List Output) → p.address ≤ last → Gives b step p (o ∷ given) → Next-is b step p o given
next_is b {step} {p} o given h g =
    let f : Within b step p o given = some b o given g in
    let within : f.count < commands = leads_below b f.count p.address (omega arith) f.leads in
    let enough : suc f.count ≤ commands = omega arith in
    record {
      place = f.found.place;
      behind = f.found.behind;
      is = more b o given (suc f.count) commands step p f.found.place f.found.behind f.found.is enough;
      gives = f.found.gives;
    }

-- where no next output is found the rules give none
no_next : (b : Bench) {step : ℕ} {p : Place} {o : Output} {given : List Output} → p.address ≤ last → next_output b commands step p ≡ None
    → Gives b step p (o ∷ given) → ⊥
no_next b {step} {p} {o} {given} h e g =
    let n : Next-is b step p o given = next_is b o given h g in
    cc (sym e ∙ n.is)

pub none_ever_will : NoneEverWill
unfolding NoneEverWill
none_ever_will b step p h e [] g = refl
none_ever_will b step p h e (o ∷ given) g = absurd (no_next b h e g)

-- ---- the verdict given is right

-- an output more before a record, which the rules give too
module _ (b : Bench) (number step : ℕ) (p : Place) (h : p.address ≤ last) (o : Output) (q : Place) (s : ℕ) (e : next_output b commands step p ≡ next_of o q s) (rest : List (List ℕ)) where
  ahead : {given : List Output} → Gives b s q given → Gives b step p (o ∷ given)
  ahead {given} g = next-gives b o q s given g commands step p e

  behind : {given : List Output} → Gives b step p (o ∷ given) → Gives b s q given
  behind {given} g =
      let n : Next-is b step p o given = next_is b o given h g in
      let both : next_of o q s ≡ next_of o n.place n.behind = sym e ∙ n.is in
      let place_is : n.place ≡ q = sym (ap (λ n. n.place) (same_next both)) in
      let step_is : n.behind ≡ s = sym (ap (λ n. n.step) (same_next both)) in
      subst (λ (k : ℕ). Gives b k q given) step_is (subst (λ (r : Place). Gives b n.behind r given) place_is n.gives)

  longer : (v : Verdict) → RightFrom b (number + 1) s q rest v → RightFrom b number step p (values o ∷ rest) v
  longer Yes r = record { given = o ∷ r.given; gives = ahead r.gives; are = ap (λ l. values o ∷ l) r.are }
  longer (Differs place due) r =
      record {
        given = o ∷ r.given;
        gives = ahead r.gives;
        other = r.other;
        rest = r.rest;
        are = ap (λ l. values o ∷ l) r.are;
        counted = omega (arith, r.counted);
        differs = r.differs;
      }
  longer (Nothing place) r =
      record {
        given = o ∷ r.given;
        gives = ahead r.gives;
        surplus = r.surplus;
        rest = r.rest;
        are = ap (λ l. values o ∷ l) r.are;
        counted = omega (arith, r.counted);
        no_more = λ k g. r.no_more k (behind g);
      }

-- the verdict on a record from one of its outputs on
right_from : (b : Bench) (outputs : List (List ℕ)) (number step : ℕ) (p : Place) → p.address ≤ last
    → RightFrom b number step p outputs (said_from b number step p outputs)
right_from b [] number step p h =
    subst (RightFrom b number step p []) (sym (said_yes b number step p)) (record { given = []; gives = none; are = refl })
right_from b (r ∷ rest) number step p h = go (λ s q k. right_from b rest (number + 1) s q k) (next_output b commands step p) refl
  where
    Rest : Type 0
    Rest = (s : ℕ) (q : Place) → q.address ≤ last → RightFrom b (number + 1) s q rest (said_from b (number + 1) s q rest)

    agreed : Rest → (o : Output) (q : Place) (s : ℕ) → next_output b commands step p ≡ next_of o q s → (t : Bool) → same r (values o) ≡ t
        → RightFrom b number step p (r ∷ rest) (said_from b number step p (r ∷ rest))
    agreed on o q s e true d =
        subst (RightFrom b number step p (r ∷ rest)) (sym (said_agrees b number step p r rest o q s e d))
        (subst (λ (l : List ℕ). RightFrom b number step p (l ∷ rest) (said_from b (number + 1) s q rest)) (sym (alike r (values o) d))
        (longer b number step p h o q s e rest (said_from b (number + 1) s q rest) (on s q (behind_address b commands step p h o q s e))))
    agreed on o q s e false d =
        subst (RightFrom b number step p (r ∷ rest)) (sym (said_differs b number step p r rest o q s e d))
        (record {
          given = [];
          gives = next-gives b o q s [] none commands step p e;
          other = r;
          rest = rest;
          are = refl;
          counted = omega arith;
          differs = λ is. true≢false (sym (same_self (values o)) ∙ ap (λ l. same l (values o)) (sym is) ∙ d);
        })

    go : Rest → (n : Option Next) → next_output b commands step p ≡ n → RightFrom b number step p (r ∷ rest) (said_from b number step p (r ∷ rest))
    go on (Some n) e = agreed on n.output n.place n.step e (same r (values n.output)) refl
    go on None e =
        subst (RightFrom b number step p (r ∷ rest)) (sym (said-nothing b number step p r rest e))
        (record {
          given = [];
          gives = none;
          surplus = r;
          rest = rest;
          are = refl;
          counted = omega arith;
          no_more = λ o g. no_next b h e g;
        })

-- ---- no other verdict is right

-- outputs passed that the rules give: where the schedule stands behind them
record Passed (b : Bench) (number step : ℕ) (p : Place) (given more : List Output) (rest : List (List ℕ)) : Type 0 where
  place : Place
  behind : ℕ
  address : place.address ≤ last
  gives : Gives b behind place more
  back : (others : List Output) → Gives b behind place others → Gives b step p (given ++ others)
  said : said_from b number step p (map values given ++ rest) ≡ said_from b (number + length given) behind place rest

passed : (b : Bench) (number step : ℕ) (p : Place) (given more : List Output) (rest : List (List ℕ)) → p.address ≤ last → Gives b step p (given ++ more)
    → Passed b number step p given more rest
passed b number step p [] more rest h g =
    let same_number : number ≡ number + 0 = omega arith in
    record {
      place = p;
      behind = step;
      address = h;
      gives = g;
      back = λ others k. k;
      said = ap (λ n. said_from b n step p rest) same_number;
    }
passed b number step p (o ∷ given) more rest h g =
    let n : Next-is b step p o (given ++ more) = next_is b o (given ++ more) h g in
    let k : n.place.address ≤ last = behind_address b commands step p h o n.place n.behind n.is in
    let f : Passed b (number + 1) n.behind n.place given more rest = passed b (number + 1) n.behind n.place given more rest k n.gives in
    let counted : number + 1 + length given ≡ number + suc (length given) = omega arith in
    record {
      place = f.place;
      behind = f.behind;
      address = f.address;
      gives = f.gives;
      back = λ others l. next-gives b o n.place n.behind (given ++ others) (f.back others l) commands step p n.is;
      said = said_agrees b number step p (values o) (map values given ++ rest) o n.place n.behind n.is (same_self (values o)) ∙ f.said
          ∙ ap (λ m. said_from b m f.behind f.place rest) counted;
    }

only_from : (b : Bench) (outputs : List (List ℕ)) (number step : ℕ) (p : Place) → p.address ≤ last → (v : Verdict)
    → RightFrom b number step p outputs v → said_from b number step p outputs ≡ v
only_from b outputs number step p h Yes r =
    let f : Passed b number step p r.given [] [] = passed b number step p r.given [] [] h (subst (Gives b step p) (sym (append-nil r.given)) r.gives) in
    let all : outputs ≡ map values r.given ++ [] = r.are ∙ sym (append-nil (map values r.given)) in
    ap (said_from b number step p) all ∙ f.said ∙ said_yes b (number + length r.given) f.behind f.place
only_from b outputs number step p h (Differs place due) r =
    let f : Passed b number step p r.given (due ∷ []) (r.other ∷ r.rest) = passed b number step p r.given (due ∷ []) (r.other ∷ r.rest) h r.gives in
    let n : Next-is b f.behind f.place due [] = next_is b due [] f.address f.gives in
    ap (said_from b number step p) r.are ∙ f.said
    ∙ said_differs b (number + length r.given) f.behind f.place r.other r.rest due n.place n.behind n.is (unlike (same r.other (values due)) refl)
    ∙ ap (λ m. Differs m due) (sym r.counted)
  where
    unlike : (t : Bool) → same r.other (values due) ≡ t → t ≡ false
    unlike true e = absurd (r.differs (alike r.other (values due) e))
    unlike false e = refl
only_from b outputs number step p h (Nothing place) r =
    let f : Passed b number step p r.given [] (r.surplus ∷ r.rest) = passed b number step p r.given [] (r.surplus ∷ r.rest) h (subst (Gives b step p) (sym (append-nil r.given)) r.gives) in
    ap (said_from b number step p) r.are ∙ f.said
    ∙ said-nothing b (number + length r.given) f.behind f.place r.surplus r.rest (ended f (next_output b commands f.behind f.place) refl)
    ∙ ap Nothing (sym r.counted)
  where
    ended : (f : Passed b number step p r.given [] (r.surplus ∷ r.rest)) (n : Option Next) → next_output b commands f.behind f.place ≡ n → n ≡ None
    ended f (Some n) e =
        absurd (r.no_more n.output (f.back (n.output ∷ []) (next-gives b n.output n.place n.step [] none commands f.behind f.place e)))
    ended f None e = refl

-- ---- the theorem

pub judges_rightly : JudgesRightly
unfolding JudgesRightly verdict
judges_rightly b outputs w m v = (
  λ e. subst (Right b (recorded outputs)) (sym not_refused ∙ e) (right_from b (recorded outputs) 1 first_step start (omega arith)),
  λ r. only v r,
)
  where
    not_refused : verdict b outputs ≡ Ok (verdict_on b (recorded outputs))
    not_refused = rw (
      le-ltb (length b.schedule) commands w.schedule-words,
      le-ltb (length b.messages) messages w.ram-words,
      le-ltb most (length (recorded outputs)) m,
    )

    only : (v : Result Verdict Refusal) → Right b (recorded outputs) v → verdict b outputs ≡ v
    only (Ok v) r = not_refused ∙ ap Ok (only_from b (recorded outputs) 1 first_step start (omega arith) v r)
    only (Err refusal) r = absurd r
