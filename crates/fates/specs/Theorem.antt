-- Demand 3: what holds after every list of accesses, the latest first, of which the first is an accepted power-up.
use Rattle.std.specs.Prelude.{ℕ, ◌≤◌, ◌≡◌, false, List, [], ◌∷◌, ◌++◌, length, take}
use Rattle.fifos.specs.Counts.{rolled}
use Rattle.fifos.specs.Fifos.{Fifo}
use Rattle.settings.specs.Kept.{kept_of}
use Rattle.channel_calls.specs.Answers.{is_refused}
use Rattle.channel_calls.specs.declared.calls.ReadCall.TheVariants.{ReadCounts, ReadReceiveLevel, ReadTransmitLevel}
use Rattle.channel_calls.specs.declared.calls.ChannelCall.TheVariants.{Reads}
use Rattle.channel_calls.specs.Answer.{Answer, Value, Fates}
use Rattle.frame.specs.Layout.{need, block}
use Rattle.module.specs.declared.calls.Call.{Call}
use Rattle.module.specs.declared.calls.Call.TheVariants.{PowerUp, Reset, Wide, On}
use Rattle.registers.specs.Access.{access_answer}
use Rattle.registers.specs.declared.accesses.Access.{Access}
use Rattle.registers.specs.declared.accesses.Access.TheVariants.{Direct, ReadRegister, WriteRegister}
use Rattle.fates.specs.Run.{run, answer_behind, told_by}
use Rattle.fates.specs.History.{Telling, history}
use Rattle.fates.specs.Ledger.{Side, Receiving, Transmitting, fifo_of, overwritten_of, aside, Fate, TakenOut, Cleared, Overwritten, Ledger, change_behind, ledger, accepted_by, Fits, numbered, entries, taken_out, cleared, overwritten}
use Rattle.fates.specs.Answers.{Answered}

-- ---- "The first is an accepted power-up."

abbrev pub PoweredUp : Call → Answer → Type 0
PoweredUp (PowerUp n) a = is_refused a ≡ false
PoweredUp Reset a = ⊥
PoweredUp (Wide k) a = ⊥
PoweredUp (On ch k) a = ⊥

abbrev pub Starts : Access → Answer → Type 0
Starts (Direct c) a = PoweredUp c a
Starts (ReadRegister x) a = ⊥
Starts (WriteRegister x v) a = ⊥

abbrev pub Started : List ℕ → List (ℕ × Access) → Type 0
Started m [] = ⊥
Started m (x ∷ []) = Starts x.1 (access_answer x.1 (take x.0 m))
Started m (x ∷ y ∷ before) = Started m (y ∷ before)

-- ---- the demand's words for lists and ledgers

abbrev pub Every : {A : Type 0} → (A → Type 0) → List A → Type 0
Every P [] = Unit
Every P (x ∷ xs) = P x × Every P xs

-- "Each entry taken out is as it was accepted (on sending, its parity bit aside)"
abbrev pub AsAccepted : Side → List ℕ → Fate → Type 0
AsAccepted side x (TakenOut e) = aside side e ≡ aside side x
AsAccepted side x Cleared = Unit
AsAccepted side x Overwritten = Unit

-- "whole-number counts", and what is held, as the ledger has them
pub record Accounts (l : Ledger) (f : Fifo) (o : ℕ) : Type 0 where
  pub held : entries l.held ≡ f.held
  pub accepted : length (numbered l) ≡ f.accepted
  pub taken : taken_out l ≡ f.taken
  pub cleared : cleared l ≡ f.cleared
  pub overwritten : overwritten l ≡ o

-- the counts as a call answers them, "modulo 4,294,967,296": of the receive FIFO and of the transmit FIFO
abbrev pub counts_of : Ledger → Ledger → Answer
counts_of r t =
    Fates (rolled (length (numbered r))) (rolled (taken_out r)) (rolled (cleared r)) (rolled (overwritten r))
    (rolled (length (numbered t))) (rolled (taken_out t)) (rolled (cleared t))

-- ---- the demand

module _ (m : List ℕ) (accesses : List (ℕ × Access)) where
  -- what the accesses and their answers tell, and nothing else
  abbrev pub tellings : List Telling
  tellings = told_by m accesses

  -- the fates of the entries of a FIFO of channel ch
  pub record OneFate (side : Side) (ch : ℕ) : Type 0 where
    -- "number the entries that each FIFO accepted since the last accepted power-up. Each has exactly one fate: taken out (read or sent),
    -- cleared, overwritten or still held.": the ledger has these entries, in number order, each once. "So accepted = taken out + cleared +
    -- overwritten + held.": of every ledger, `conserved` in proofs/Consequences.antt
    pub one_fate : numbered (ledger side ch tellings) ≡ accepted_by side ch tellings
    -- "Each entry taken out is as it was accepted (on sending, its parity bit aside), in number order."
    pub as_accepted : Every (λ d. AsAccepted side d.accepted.entry d.fate) (ledger side ch tellings).departed
    -- "The held ones are the newest, and exactly these are in the FIFO, oldest first.": the ledger's last
    pub held : (fifo_of side (kept_of (block (run m accesses) ch))).held ≡ entries (ledger side ch tellings).held
    -- "The description's history gives it from the calls and their answers alone"
    pub from_answers : Accounts (ledger side ch tellings) (fifo_of side ((history tellings).kept ch)) (overwritten_of side ((history tellings).kept ch))

  -- what a call that reads channel ch after the list answers, lent n words: the counts, and how many are still held
  pub record Read (ch n : ℕ) : Type 0 where
    pub counts : answer_behind m accesses n (Direct (On ch (Reads ReadCounts))) ≡ counts_of (ledger Receiving ch tellings) (ledger Transmitting ch tellings)
    pub receive_level : answer_behind m accesses n (Direct (On ch (Reads ReadReceiveLevel))) ≡ Value (length (ledger Receiving ch tellings).held)
    pub transmit_level : answer_behind m accesses n (Direct (On ch (Reads ReadTransmitLevel))) ≡ Value (length (ledger Transmitting ch tellings).held)

  pub record Demand : Type 0 where
    -- "Each has exactly one fate"
    pub fates : (side : Side) (ch : ℕ) → 1 ≤ ch → ch ≤ (history tellings).count → OneFate side ch
    -- "each answer is the one the description gives": of every access of the list, by the history before it
    pub answers : (later before : List (ℕ × Access)) (k : ℕ) (x : Access) → accesses ≡ later ++ (k, x) ∷ before
        → Answered (length (take k (run m before))) x (answer_behind m before k x) (history (told_by m before))
    -- "The oldest is never asked for with none held."; "and is the answer's entry"; "and is that word, D31 aside"
    pub oldest : (later before : List Telling) (t : Telling) → tellings ≡ later ++ t ∷ before → (side : Side) (ch : ℕ)
        → Fits side (change_behind side ch before t) (fifo_of side ((history before).kept ch))
    -- "Accepted and fate counts equal the history's, modulo 4,294,967,296, also across module resets."
    pub reads : (ch : ℕ) → 1 ≤ ch → ch ≤ (history tellings).count → (n : ℕ) → need (history tellings).count ≤ n → Read ch n

-- "every list of calls on one module's memory", of which the first is an accepted power-up; "Calls that later requests add join the list"
abbrev pub Demand3 : Type 0
Demand3 = (m : List ℕ) (accesses : List (ℕ × Access)) → Started m accesses → Demand m accesses
