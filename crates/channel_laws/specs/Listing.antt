-- The new mark of a mailbox, by what a call does to the index list (paper 02 (v)).
use Rattle.std.specs.Prelude.{ℕ, ◌+◌, ◌%◌, ◌≡◌, List, [], ◌∷◌, Bool, true, false, ◌||◌, cond, eqb, get_or}
use Rattle.block.specs.Layout.{word, receive_mode, indexes}
use Rattle.block.specs.Modes.{fifo_mode}
use Rattle.fifos.specs.Fifos.{Change, Stays, Adds, Overwrites, Takes, Clears, Begins}
use Rattle.arrival.specs.declared.Arrival.{Arrival}
use Rattle.arrival.specs.declared.Arrival.TheVariants.{Ignored, Filtered, Appended, Dropped, Overwriting, AlreadyListed}
use Rattle.channel_calls.specs.declared.calls.ReceiveCall.TheVariants.{Arrive, ReadFifo, ReadMailbox}
use Rattle.channel_calls.specs.declared.calls.ChannelCall.{ChannelCall}
use Rattle.channel_calls.specs.declared.calls.ChannelCall.TheVariants.{Settings, Memories, Status, Tests, Reads, Receive, Transmit}

-- whether an entry of the list names index i: "its entry's word modulo 1024"
abbrev pub names : ℕ → List ℕ → Bool
names i e = eqb (get_or e 1 0 % indexes) i

-- whether one of the entries does
abbrev pub names_any : ℕ → List (List ℕ) → Bool
names_any i [] = false
names_any i (e ∷ l) = names i e || names_any i l

-- how often the entries do
abbrev pub times_listed : ℕ → List (List ℕ) → ℕ
times_listed i [] = 0
times_listed i (e ∷ l) = cond (names i e) 1 0 + times_listed i l

-- whether settings have the channel in FIFO mode
abbrev pub in_fifo_mode : List ℕ → Bool
in_fifo_mode l = eqb (word l receive_mode) fifo_mode

-- the mark of index i after a change of the receive FIFO, from the mark t before: in FIFO mode an entry has no mailbox. An index appended is
-- marked; "An index overwritten in the list, or cleared from it in mailbox mode .. first takes the mark"; power-up zeroes all mailboxes
abbrev pub mark_by : Bool → Change → List (List ℕ) → ℕ → Bool → Bool
mark_by fifo Stays held i t = t
mark_by fifo (Adds e) held i t = cond fifo t (cond (names i e) true t)
mark_by fifo (Overwrites e) held i t = cond fifo t (cond (names i e) true (cond (names i (get_or held 0 [])) false t))
mark_by fifo (Takes e) held i t = t
mark_by fifo Clears held i t = cond fifo t (cond (names_any i held) false t)
mark_by fifo Begins held i t = false

-- "An index is now appended only if its mailbox did not already have the new mark.": what an arrival's outcome tells of the mark t before it
abbrev pub ListedBy : Bool → Arrival → Type 0
ListedBy t Ignored = Unit
ListedBy t Filtered = Unit
ListedBy t Appended = t ≡ false
ListedBy t Dropped = t ≡ false
ListedBy t Overwriting = t ≡ false
ListedBy t AlreadyListed = t ≡ true

-- "Reading a mailbox .. clears D1"
abbrev pub reads_mailbox : ChannelCall → ℕ → Bool
reads_mailbox (Settings k) i = false
reads_mailbox (Memories k) i = false
reads_mailbox (Status k) i = false
reads_mailbox (Tests k) i = false
reads_mailbox (Reads k) i = false
reads_mailbox (Receive (Arrive w)) i = false
reads_mailbox (Receive ReadFifo) i = false
reads_mailbox (Receive (ReadMailbox j)) i = eqb j i
reads_mailbox (Transmit k) i = false
