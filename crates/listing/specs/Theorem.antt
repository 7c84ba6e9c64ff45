-- What a service desk may rely on in mailbox mode, over every list of accesses (paper 02 (v)). Lists have the latest access first.
use Rattle.std.specs.Prelude.{ℕ, ◌+◌, ◌/◌, ◌%◌, ◌≤◌, ◌<◌, ◌≡◌, Bool, true, false, ◌||◌, cond, List, [], ◌∷◌, ◌++◌, eqb, get_or}
use Rattle.word.specs.Word.{index}
use Rattle.block.specs.Layout.{indexes}
use Rattle.fifos.specs.Fifos.{Change, Stays, Adds, Overwrites, Takes, Clears, Begins}
use Rattle.fifos.specs.Mailboxes.{new_mark}
use Rattle.arrival.specs.declared.Arrival.{Arrival}
use Rattle.arrival.specs.declared.Arrival.TheVariants.{Ignored, Filtered, Appended, Dropped, Overwriting, AlreadyListed}
use Rattle.channel_calls.specs.declared.calls.ReceiveCall.TheVariants.{Arrive, ReadMailbox}
use Rattle.channel_calls.specs.declared.calls.ChannelCall.TheVariants.{Receive}
use Rattle.channel_calls.specs.Answer.{Answer, Arrived, Entry}
use Rattle.channel_laws.specs.Listing.{ListedBy, names, names_any, times_listed, in_fifo_mode}
use Rattle.frame.specs.Layout.{need}
use Rattle.module.specs.declared.calls.Call.TheVariants.{On}
use Rattle.registers.specs.declared.accesses.Access.{Access}
use Rattle.registers.specs.declared.accesses.Access.TheVariants.{Direct}
use Rattle.fates.specs.Run.{answer_behind, told_by}
use Rattle.fates.specs.History.{History, Telling, Performed, effect_on, history}
use Rattle.fates.specs.Theorem.{Started}
use Rattle.listing.specs.Marks.{is_read, marked}

-- ---- what lets an index be listed again

-- "an entry of that index was overwritten or cleared", in mailbox mode; a power-up clears all
abbrev pub released_by : Bool → Change → List (List ℕ) → ℕ → Bool
released_by fifo Stays held i = false
released_by fifo (Adds e) held i = false
released_by fifo (Overwrites e) held i = cond fifo false (names i (get_or held 0 []))
released_by fifo (Takes e) held i = false
released_by fifo Clears held i = cond fifo false (names_any i held)
released_by fifo Begins held i = true

abbrev pub is_empty : List (List ℕ) → Bool
is_empty [] = true
is_empty (x ∷ l) = false

module _ (ch i : ℕ) where
  -- "its mailbox was read, or an entry of that index was overwritten or cleared"
  abbrev pub releases : Telling → History → Bool
  releases e h = is_read ch i e || released_by (in_fifo_mode (h.kept ch).settings) (effect_on ch e h).receive (h.kept ch).receive.held i

  -- none of the later accesses does so
  abbrev pub Unreleased : List Telling → List Telling → Type 0
  Unreleased [] before = Unit
  Unreleased (e ∷ later) before = (releases e (history (later ++ before)) ≡ false) × Unreleased later before

  -- how often its mailbox was read "since the list was last empty"
  abbrev pub reads_since : List Telling → ℕ
  reads_since [] = 0
  reads_since (e ∷ before) =
      cond (is_empty ((history (e ∷ before)).kept ch).receive.held) 0 (cond (is_read ch i e) 1 0 + reads_since before)

-- ---- arrivals

-- "answered appended or overwriting"
abbrev pub Lists : Arrival → Type 0
Lists Ignored = ⊥
Lists Filtered = ⊥
Lists Appended = Unit
Lists Dropped = ⊥
Lists Overwriting = Unit
Lists AlreadyListed = ⊥

-- "answered appended, overwriting or already listed"
abbrev pub Marks : Arrival → Type 0
Marks Ignored = ⊥
Marks Filtered = ⊥
Marks Appended = Unit
Marks Dropped = ⊥
Marks Overwriting = Unit
Marks AlreadyListed = Unit

-- an arrival of index i on channel ch in mailbox mode, answered so
pub record Arrives (P : Arrival → Type 0) (ch i : ℕ) (e : Telling) (before : List Telling) : Type 0 where
  pub word : ℕ
  pub outcome : Arrival
  pub tells : e ≡ Performed (On ch (Receive (Arrive word))) (Arrived outcome)
  pub of_index : index word ≡ i
  pub mode : in_fifo_mode ((history before).kept ch).settings ≡ false
  pub is : P outcome

-- ---- what a mailbox read answers: an entry with the new mark or without it

pub record Shows (a : Answer) (t : Bool) : Type 0 where
  pub status : ℕ
  pub word : ℕ
  pub stamp : ℕ
  pub is : a ≡ Entry status word stamp
  pub mark : eqb (status / new_mark % 2) 1 ≡ t

-- ---- what may be relied on

module _ (m : List ℕ) (accesses : List (ℕ × Access)) (ch i : ℕ) where
  pub record Reliable : Type 0 where
    -- the mark that the accesses and answers tell is what a mailbox read shows after the list, lent any number of words that suffices
    pub shown : (n : ℕ) → need (history (told_by m accesses)).count ≤ n → Shows (answer_behind m accesses n (Direct (On ch (Receive (ReadMailbox i))))) (marked ch i (told_by m accesses))
    -- an arrival of the index in mailbox mode that is neither ignored nor filtered is answered already listed exactly where its mark was set
    pub by_mark : (later before : List Telling) (e : Telling) → told_by m accesses ≡ later ++ (e ∷ before)
        → (x : Arrives (λ o. Unit) ch i e before) → ListedBy (marked ch i before) x.outcome
    -- (a) between two arrivals of the index answered appended or overwriting, its mailbox was read, or an entry of that index was overwritten
    -- or cleared
    pub once : (later between before : List Telling) (e f : Telling) → told_by m accesses ≡ later ++ (e ∷ (between ++ (f ∷ before)))
        → Arrives Lists ch i e (between ++ (f ∷ before)) → Arrives Lists ch i f before → Unreleased ch i between (f ∷ before) → ⊥
    -- (b) in mailbox mode the list holds the index at most as often as its mailbox was read since the list was last empty, and once more only
    -- while its mark is set
    pub few : in_fifo_mode ((history (told_by m accesses)).kept ch).settings ≡ false
        → times_listed i ((history (told_by m accesses)).kept ch).receive.held ≤ reads_since ch i (told_by m accesses) + cond (marked ch i (told_by m accesses)) 1 0
    -- (c) after an arrival answered appended, overwriting or already listed its mark stays set until its mailbox is read or an entry of that
    -- index is overwritten or cleared
    pub stays : (later before : List Telling) (e : Telling) → told_by m accesses ≡ later ++ (e ∷ before) → Arrives Marks ch i e before
        → Unreleased ch i later (e ∷ before) → marked ch i (told_by m accesses) ≡ true

-- every list of accesses to one module's memory, of which the first is an accepted power-up; every channel and every index
abbrev pub MailboxRules : Type 0
MailboxRules =
    (m : List ℕ) (accesses : List (ℕ × Access)) → Started m accesses → (ch : ℕ) → 1 ≤ ch → ch ≤ (history (told_by m accesses)).count → (i : ℕ) → i < indexes
    → Reliable m accesses ch i
