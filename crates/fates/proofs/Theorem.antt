-- The theorem of the fates, for every list of accesses, every memory and every number of lent words.
-- Assumes nothing.
use Prim.Native.Nat.{ℕ, suc, ◌+◌, ◌≤◌}
use mathlib.Core.Path.{◌≡◌, refl, sym, ap, ◌∙◌, subst}
use mathlib.Core.Bool.{Bool, true, false, cond, true≢false}
use mathlib.Core.List.{List, [], ◌∷◌, ◌++◌}
use native.Mathlib.Omega.{arith}
use borrow.Author.Tests.{eqb-true, le-ltb}
use lib.Dec.{eqb}
use lib.ListN.{length, take, drop, length-take}
use Rattle.fifos.specs.Counts.{rolled}
use Rattle.fifos.specs.Fifos.{Fifo, Change, Stays, Adds, Overwrites, Takes, Clears, Begins, changed, overwritten_after}
use Rattle.settings.specs.Kept.{Kept, kept_of}
use Rattle.channel_groups.specs.Told.{Told}
use Rattle.channel_calls.specs.Answers.{is_refused}
use Rattle.channel_calls.specs.declared.calls.ReadCall.TheVariants.{ReadCounts, ReadReceiveLevel, ReadTransmitLevel}
use Rattle.channel_calls.specs.declared.calls.ChannelCall.{ChannelCall}
use Rattle.channel_calls.specs.declared.calls.ChannelCall.TheVariants.{Reads}
use Rattle.channel_calls.specs.Answer.{Done, Refused, Value, Fates}
use Rattle.frame.specs.Layout.{need, block}
use Rattle.power.specs.Power.{power_refusal, powered}
use Rattle.module.specs.declared.calls.Call.TheVariants.{PowerUp, Reset, Wide, On}
use Rattle.registers.specs.Access.{access_answer}
use Rattle.registers.specs.declared.accesses.Access.{Access}
use Rattle.registers.specs.declared.accesses.Access.TheVariants.{Direct, ReadRegister, WriteRegister}
use Rattle.module_laws.specs.Reduced.{reduced}
use Rattle.fates.specs.Run.{lent, run, answer_behind, told_by}
use Rattle.fates.specs.History.{History, start, Telling, tells, history_step, history}
use Rattle.fates.specs.Ledger.{Side, Receiving, Transmitting, fifo_of, overwritten_of, Ledger, Departed, change_behind, ledger, Fits}
use Rattle.fates.specs.Answers.{Answered}
use Rattle.fates.specs.Agrees.{Agrees}
use Rattle.fates.specs.Theorem.{Starts, Started, Every, AsAccepted, Accounts, Demand3}
use Rattle.fates.specs.Beyond.{BeyondDemand3}
use Rattle.fates.proofs.Steps.{powers}
use Rattle.fates.proofs.Accesses.{step}
use Rattle.fates.proofs.Answers.{power-answered, answered}
use Rattle.fates.proofs.Ledger.{map-length, accounts_after, given_back}
use Rattle.fates.proofs.Places.{all_numbered, placed}
use Rattle.fates.proofs.Fits.{oldest-shown, fits}

-- ---- the memory and the answers

module _ (m : List ℕ) where
  -- the first access
  first : (k : ℕ) (x : Access) → Starts x (access_answer x (take k m)) → Agrees (history_step (tells x (access_answer x (take k m))) start) (lent k x m)
  first k (Direct (PowerUp n)) = go (eqb (power_refusal n (length (take k m))) 0) refl
    where
      go : (t : Bool) → eqb (power_refusal n (length (take k m))) 0 ≡ t →
          let a = cond t Done (Refused (power_refusal n (length (take k m)))) in
          is_refused a ≡ false → Agrees (history_step (tells (Direct (PowerUp n)) a) start) (cond t (powered n (take k m)) (take k m) ++ drop k m)
      go true e d = powers n start (take k m) (drop k m) (eqb-true _ _ e)
      go false e d = absurd (true≢false d)
  first k (Direct Reset) = λ s. absurd s
  first k (Direct (Wide w)) = λ s. absurd s
  first k (Direct (On ch w)) = λ s. absurd s
  first k (ReadRegister x) = λ s. absurd s
  first k (WriteRegister x v) = λ s. absurd s

  pub agrees : (accesses : List (ℕ × Access)) → Started m accesses → Agrees (history (told_by m accesses)) (run m accesses)
  agrees [] s = absurd s
  agrees (x ∷ []) s = first x.0 x.1 s
  agrees (x ∷ y ∷ before) s = step (history (told_by m (y ∷ before))) (run m (y ∷ before)) x.0 x.1 (agrees (y ∷ before) s)

  -- an access behind a list that has started
  behind : (accesses : List (ℕ × Access)) → Started m accesses → (k : ℕ) (c : Access)
      → Answered (length (take k (run m accesses))) c (answer_behind m accesses k c) (history (told_by m accesses))
  behind accesses s k c = answered (agrees accesses s) (oldest-shown (told_by m accesses)) k c

  -- every access of a list
  abbrev AllAnswered : List (ℕ × Access) → Type 0
  AllAnswered [] = Unit
  AllAnswered (x ∷ before) =
      Answered (length (take x.0 (run m before))) x.1 (answer_behind m before x.0 x.1) (history (told_by m before)) × AllAnswered before

  first-answered : (k : ℕ) (x : Access) → Starts x (access_answer x (take k m)) → Answered (length (take k m)) x (access_answer x (take k m)) start
  first-answered k (Direct (PowerUp n)) s = power-answered n (length (take k m)) start
  first-answered k (Direct Reset) s = absurd s
  first-answered k (Direct (Wide w)) s = absurd s
  first-answered k (Direct (On ch w)) s = absurd s
  first-answered k (ReadRegister x) s = absurd s
  first-answered k (WriteRegister x v) s = absurd s

  all_answered : (accesses : List (ℕ × Access)) → Started m accesses → AllAnswered accesses
  all_answered [] s = absurd s
  all_answered (x ∷ []) s = (first-answered x.0 x.1 s, tt)
  all_answered (x ∷ y ∷ before) s = (behind (y ∷ before) s x.0 x.1, all_answered (y ∷ before) s)

  one_answered : (later before : List (ℕ × Access)) (k : ℕ) (c : Access) → AllAnswered (later ++ (k, c) ∷ before)
      → Answered (length (take k (run m before))) c (answer_behind m before k c) (history (told_by m before))
  one_answered [] before k c h = h.0
  one_answered (x ∷ later) before k c h = one_answered later before k c h.1

  -- a read of a channel behind the list, lent all that it needs
  told_behind : (accesses : List (ℕ × Access)) → Started m accesses → (ch : ℕ) → 1 ≤ ch → ch ≤ (history (told_by m accesses)).count → (n : ℕ)
      → need (history (told_by m accesses)).count ≤ n → (k : ChannelCall)
      → Told (reduced ((history (told_by m accesses)).kept ch)) k (answer_behind m accesses n (Direct (On ch k)))
  told_behind accesses s ch low high n enough k =
      let h : History = history (told_by m accesses) in
      let g : Agrees h (run m accesses) = agrees accesses s in
      let room : need h.count ≤ length (run m accesses) = rw g.count at g.sane.frame.room in
      let long : need h.count ≤ length (take n (run m accesses)) = omega (arith, length-take n (run m accesses)) in
      let t = behind accesses s n (Direct (On ch k)) in
      (rw (le-ltb (length (take n (run m accesses))) (need h.count) long, le-ltb ch 1 low, le-ltb h.count ch high) at t).0

-- ---- the fates

abbrev AllFit : List Telling → Type 0
AllFit [] = Unit
AllFit (e ∷ before) = ((side : Side) (ch : ℕ) → Fits side (change_behind side ch before e) (fifo_of side ((history before).kept ch))) × AllFit before

all_fit : (m : List ℕ) (accesses : List (ℕ × Access)) → AllAnswered m accesses → AllFit (told_by m accesses)
all_fit m [] h = tt
all_fit m (x ∷ before) h = (
  fits (told_by m before) (length (take x.0 (run m before))) x.1 (answer_behind m before x.0 x.1) h.0,
  all_fit m before h.1,
)

one_fits : (later before : List Telling) (e : Telling) → AllFit (later ++ e ∷ before) → (side : Side) (ch : ℕ)
    → Fits side (change_behind side ch before e) (fifo_of side ((history before).kept ch))
one_fits [] before e h = h.0
one_fits (x ∷ later) before e h = one_fits later before e h.1

none_overwritten : (c : Change) (f : Fifo) → Fits Transmitting c f → overwritten_after ◌+◌ c 0 ≡ 0
none_overwritten Stays f h = refl
none_overwritten (Adds e) f h = refl
none_overwritten (Overwrites e) f h = absurd h
none_overwritten (Takes e) f h = refl
none_overwritten Clears f h = refl
none_overwritten Begins f h = refl

-- the ledger accounts for what the history holds and counts, and gave back what was accepted
record Balance (side : Side) (ch : ℕ) (es : List Telling) : Type 0 where
  accounts : Accounts (ledger side ch es) (fifo_of side ((history es).kept ch)) (overwritten_of side ((history es).kept ch))
  back : Every (λ (d : Departed). AsAccepted side d.accepted.entry d.fate) (ledger side ch es).departed

balance : (side : Side) (ch : ℕ) (es : List Telling) → AllFit es → Balance side ch es
balance Receiving ch [] h = record { accounts = record { held = refl; accepted = refl; taken = refl; cleared = refl; overwritten = refl }; back = tt }
balance Transmitting ch [] h = record { accounts = record { held = refl; accepted = refl; taken = refl; cleared = refl; overwritten = refl }; back = tt }
balance Receiving ch (e ∷ before) h =
    let b = balance Receiving ch before h.1 in
    let c : Change = change_behind Receiving ch before e in
    record {
      accounts = accounts_after b.accounts Receiving (suc (length before)) c (h.0 Receiving ch);
      back = given_back Receiving b.accounts (suc (length before)) c (h.0 Receiving ch) b.back;
    }
balance Transmitting ch (e ∷ before) h =
    let b = balance Transmitting ch before h.1 in
    let c : Change = change_behind Transmitting ch before e in
    let f : Fifo = fifo_of Transmitting ((history before).kept ch) in
    record {
      accounts =
          subst (Accounts (ledger Transmitting ch (e ∷ before)) (changed ◌+◌ c f)) (none_overwritten c f (h.0 Transmitting ch))
          (accounts_after b.accounts Transmitting (suc (length before)) c (h.0 Transmitting ch));
      back = given_back Transmitting b.accounts (suc (length before)) c (h.0 Transmitting ch) b.back;
    }

held-stored : (side : Side) (b : List ℕ) (h : Kept) → kept_of b ≡ reduced h → (fifo_of side (kept_of b)).held ≡ (fifo_of side h).held
held-stored Receiving b h e = ap (λ (x : Kept). x.receive.held) e
held-stored Transmitting b h e = ap (λ (x : Kept). x.transmit.held) e

-- the entries held are as many as the ledger's
as_many : {l : Ledger} {f : Fifo} {o : ℕ} → Accounts l f o → length f.held ≡ length l.held
as_many {l} a = sym (ap length a.held) ∙ map-length _ l.held

pub theorem : Demand3
theorem m accesses s =
    record {
      answers = λ later before k c e. one_answered m later before k c (subst (AllAnswered m) e all);
      oldest = λ later before e q. one_fits later before e (subst AllFit q fit);
      fates =
          λ side ch low high.
          let b = balance side ch es fit in
          record {
            one_fate = all_numbered side ch es;
            as_accepted = b.back;
            held = held-stored side (block (run m accesses) ch) (h.kept ch) (g.kept ch low high) ∙ sym b.accounts.held;
            from_answers = b.accounts;
          };
      reads =
          λ ch low high n enough.
          let r = (balance Receiving ch es fit).accounts in
          let t = (balance Transmitting ch es fit).accounts in
          let read = told_behind m accesses s ch low high n enough in
          record {
            counts =
                read (Reads ReadCounts)
                ∙ sym (λ i. Fates (rolled (r.accepted i)) (rolled (r.taken i)) (rolled (r.cleared i)) (rolled (r.overwritten i)) (rolled (t.accepted i)) (rolled (t.taken i)) (rolled (t.cleared i)));
            receive_level = read (Reads ReadReceiveLevel) ∙ ap Value (as_many r);
            transmit_level = read (Reads ReadTransmitLevel) ∙ ap Value (as_many t);
          };
    }
  where
    es : List Telling
    es = told_by m accesses

    h : History
    h = history (told_by m accesses)

    g : Agrees (history (told_by m accesses)) (run m accesses)
    g = agrees m accesses s

    all : AllAnswered m accesses
    all = all_answered m accesses s

    fit : AllFit (told_by m accesses)
    fit = all_fit m accesses (all_answered m accesses s)

pub beyond : BeyondDemand3
beyond m accesses s = record { stored = agrees m accesses s; places = λ side ch. placed side ch (told_by m accesses) }
