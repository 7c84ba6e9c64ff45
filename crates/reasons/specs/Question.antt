-- A question: a channel count, a list of call items as bytes, the place of an arrival in it and words of working memory; and when it is
-- refused (paper 02, (viii)).
use Rattle.std.specs.Prelude.{ℕ, zero, suc, ◌+◌, ◌*◌, ◌-◌, ◌/◌, ◌%◌, ◌≤◌, ◌≡◌, List, Bool, true, false, cond, ◌&&◌, eqb, ltb, length, Option, None, Some}
use Rattle.little_endian.specs.LittleEndian.{word_at}
use Rattle.block.specs.Refusals.{first}
use Rattle.frame.specs.Layout.{most}
use Rattle.power.specs.Power.{power_refusal}
use Rattle.registers.specs.declared.accesses.Access.{Access}
use Rattle.sessions.specs.Sessions.{item_bytes, item_at}

-- "a list above 4,096 calls"
abbrev pub most_items : ℕ
most_items = 4096

-- the op of an arrival
abbrev pub arrive : ℕ
arrive = 128

module _ (bytes : List ℕ) where
  -- "items of one size .. a cut one counts": how many items there are, and how many of them are whole
  abbrev pub item_count : ℕ
  item_count = (length bytes + (item_bytes - 1)) / item_bytes

  abbrev pub whole_count : ℕ
  whole_count = length bytes / item_bytes

  -- where the item at a place, from 1, begins; its channel and its word
  abbrev pub index_at : ℕ → ℕ
  index_at place = item_bytes * (place - 1)

  abbrev pub channel_at : ℕ → ℕ
  channel_at place = word_at bytes (index_at place + 4)

  abbrev pub arriving_at : ℕ → ℕ
  arriving_at place = word_at bytes (index_at place + 8)

abbrev pub is_call : Option Access → Bool
is_call None = false
is_call (Some x) = true

-- the first n items are calls
abbrev pub calls_to : ℕ → List ℕ → Bool
calls_to zero bytes = true
calls_to (suc n) bytes = calls_to n bytes && is_call (item_at bytes (item_bytes * n))

-- every item is a call: "a cut one counts, and is no call"
unfoldable pub are_calls : List ℕ → Bool
are_calls bytes = calls_to (whole_count bytes) bytes && eqb (length bytes % item_bytes) 0

-- the place of an arrival: an item with its op, whatever its channel; behind 42 every item is whole
unfoldable pub is_arrival : List ℕ → ℕ → Bool
is_arrival bytes place =
    cond (ltb place 1) false
    (cond (ltb (whole_count bytes) place) false
    (eqb (word_at bytes (index_at bytes place)) arrive))

-- "any other place is refused with 40, a list above 4,096 calls with 41, an item that is no call with 42; order .. 41, 42, 40"
unfoldable pub list_refusal : List ℕ → ℕ → ℕ
list_refusal bytes place =
    cond (ltb most_items (item_count bytes)) 41
    (cond (are_calls bytes)
    (cond (is_arrival bytes place) 0 40)
    42)

-- "order 1, 4, ..": of the working memory and the count as at power-up, where only one of the two can be
unfoldable pub question_refusal : ℕ → List ℕ → ℕ → ℕ → ℕ
question_refusal count bytes place words = first (power_refusal count words) (list_refusal bytes place)

-- a question that is not refused, its words aside
pub record Asked (count : ℕ) (bytes : List ℕ) (place : ℕ) : Type 0 where
  pub some : 1 ≤ count
  pub most : count ≤ most
  pub few : length bytes ≤ item_bytes * most_items
  pub whole : length bytes % item_bytes ≡ 0
  pub calls : calls_to (whole_count bytes) bytes ≡ true
  pub low : 1 ≤ place
  pub high : place ≤ whole_count bytes
  pub arrives : word_at bytes (index_at bytes place) ≡ arrive
