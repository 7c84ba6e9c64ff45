-- The new mark of a mailbox over a list of accesses and answers, the latest first (paper 02 (v)).
use Rattle.std.specs.Prelude.{ℕ, List, [], ◌∷◌, Bool, false, cond, eqb}
use Rattle.channel_laws.specs.Listing.{in_fifo_mode, mark_by, reads_mailbox}
use Rattle.module.specs.declared.calls.Call.{Call}
use Rattle.module.specs.declared.calls.Call.TheVariants.{PowerUp, Reset, Wide, On}
use Rattle.fates.specs.History.{History, Telling, Silent, Performed, effect_on, history}

-- whether a call reads mailbox i of channel ch
abbrev pub reads_by : ℕ → ℕ → Call → Bool
reads_by ch i (PowerUp n) = false
reads_by ch i Reset = false
reads_by ch i (Wide k) = false
reads_by ch i (On ch' k) = cond (eqb ch' ch) (reads_mailbox k i) false

-- and an access, by what it tells
abbrev pub is_read : ℕ → ℕ → Telling → Bool
is_read ch i Silent = false
is_read ch i (Performed c a) = reads_by ch i c

-- the mark after an access, by the history before it and the mark t before it
abbrev pub mark_after : ℕ → ℕ → Telling → History → Bool → Bool
mark_after ch i e h t =
    cond (is_read ch i e) false (mark_by (in_fifo_mode (h.kept ch).settings) (effect_on ch e h).receive (h.kept ch).receive.held i t)

abbrev pub marked : ℕ → ℕ → List Telling → Bool
marked ch i [] = false
marked ch i (e ∷ before) = mark_after ch i e (history before) (marked ch i before)
