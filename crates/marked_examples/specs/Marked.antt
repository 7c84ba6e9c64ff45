-- Paper 01, "Marked examples": those marked P.
use Rattle.std.specs.Prelude.{ℕ, zero, suc, ◌*◌, ◌≡◌, set}
use mathlib.Core.List.{List, [], ◌∷◌, ◌++◌, map, flatten}
use Rattle.word.specs.Word.{label}
use Rattle.word.specs.Parity.{as_sent, error_mark}
use Rattle.block.specs.Layout.{word, receiver, matching, fifo_kind, receive_size, state, address, receive_accepted, receive_overwritten, message_ram, schedule_ram, block_words}
use Rattle.settings.specs.Factory.{factory_of}
use Rattle.fifos.specs.Fifos.{receive_offsets, fifo}
use Rattle.memories.specs.Memories.{ram_written}
use Rattle.status.specs.Status.{fault_weight, faulty, latched}
use Rattle.frame.specs.Layout.{stamp}
use Rattle.frame.specs.Counters.{sampled}
use Rattle.wide.specs.OnModule.{wide_stored}
use Rattle.wide.specs.declared.calls.WideCall.TheVariants.{AdvanceStamp}
use Rattle.schedule.specs.Codes.{running}
use Rattle.schedule.specs.Output.{values}
use Rattle.schedule.specs.Schedule.{stepped}
use Rattle.schedule.specs.declared.Place.{Place}
use Rattle.schedule.specs.declared.Outcome.{Outcome}
use Rattle.arrival.specs.Arrival.{arrival, outcome}
use Rattle.receive.specs.Arrived.{arrived}
use Rattle.transmit.specs.Step.{scheduled_outcome}

-- a block as power-up leaves it, but with the receiver on and these settings of match, FIFO kind and size
unfoldable pub receiving : ℕ → ℕ → ℕ → List ℕ
receiving matched kind size = set (set (set (set (factory_of block_words) receiver 1) matching matched) fifo_kind kind) receive_size size

-- the entries that the receive FIFO holds, each as status, word and stamp, then the counts of accepted and overwritten
unfoldable pub received : List ℕ → List ℕ
received b = flatten (fifo receive_offsets b).held ++ (word b receive_accepted ∷ word b receive_overwritten ∷ [])

-- a running schedule at an address, and its async word, which is waiting where its mark is 1; it has sent no message yet
abbrev pub runs : ℕ → ℕ → ℕ → Place
runs address waiting word = record { state = running; address = address; waiting = waiting; word = word; mark = 0 }

-- a block whose schedule runs at command 9, which is this one, and has A in message 5
unfoldable pub scheduling : ℕ → List ℕ
scheduling command = ram_written message_ram 5 0xA1 (ram_written schedule_ram 9 command (set (set (factory_of block_words) state running) address 9))

-- the numbers of a step's output, then whether an async word still waits
abbrev pub sent : Outcome → List ℕ
sent o = values o.output ++ (o.place.waiting ∷ [])

-- the numbers of a step's output, then the address of the next command
abbrev pub next : Outcome → List ℕ
next o = values o.output ++ (o.place.address ∷ [])

-- a fault counter after n failing samples, and after a good one behind three failing; condition 6 at a threshold of 5, as its bit in a mask
abbrev pub failures : ℕ → ℕ
failures zero = 0
failures (suc n) = sampled 1 (failures n)

abbrev pub good : ℕ
good = sampled 0 (failures 3)

abbrev pub fault : ℕ → ℕ
fault counter = fault_weight * faulty counter 5

-- an example: its number, what the definitions give, and what the paper says
pub record Example : Type 0 where
  pub number : ℕ
  pub gives : List ℕ
  pub says : List ℕ

-- A is 0xA1 and B is 0xB0, neither in error; the async word is A, and the command stands at address 9
unfoldable pub marked : List Example
marked =
    -- "word 0 is in error; sent with parity it is 0x80000000"
    record { number = 1; gives = error_mark 1 0 ∷ as_sent 1 0 ∷ []; says = 1 ∷ 0x80000000 ∷ [] }
    -- "low byte 0xA1 is label octal 205"
    ∷ record { number = 2; gives = label 0xA1 ∷ []; says = 0o205 ∷ [] }
    -- "size 1, bounded, A then B: A held, accepted 1"
    ∷ record { number = 3; gives = received (arrived 0 0xB0 (arrived 0 0xA1 (receiving 0 0 1))); says = 0 ∷ 0xA1 ∷ 0 ∷ 1 ∷ 0 ∷ [] }
    -- "size 1, circular, A then B: B held, accepted 2, overwritten 1"
    ∷ record { number = 4; gives = received (arrived 0 0xB0 (arrived 0 0xA1 (receiving 0 1 1))); says = 0 ∷ 0xB0 ∷ 0 ∷ 2 ∷ 1 ∷ [] }
    -- "threshold 5, three failures: 2, 4, 6, fault at the third; a good sample gives 5, no fault, latch stays"
    ∷ record {
      number = 5;
      gives = (failures 1 ∷ failures 2 ∷ failures 3 ∷ fault (failures 2) ∷ fault (failures 3) ∷ [])
          ++ (good ∷ fault good ∷ latched 0 0 (fault (failures 2)) (fault (failures 3)) ∷ latched fault_weight 0 (fault (failures 3)) (fault good) ∷ []);
      says = 2 ∷ 4 ∷ 6 ∷ 0 ∷ 64 ∷ 5 ∷ 0 ∷ 64 ∷ 64 ∷ [];
    }
    -- "gap 39 with async waiting: 39 null, still waiting"
    ∷ record { number = 6; gives = sent (stepped (runs 9 1 0xA1) 1 0x2000 39); says = 3 ∷ 39 ∷ 0 ∷ 0 ∷ 1 ∷ [] }
    -- "gap 40: 4, word, 4"
    ∷ record { number = 7; gives = sent (stepped (runs 9 1 0xA1) 1 0x2000 40); says = 4 ∷ 4 ∷ 0xA1 ∷ 4 ∷ 0 ∷ [] }
    -- "gap 3: 4"
    ∷ record { number = 8; gives = sent (stepped (runs 9 0 0) 1 0x2000 3); says = 3 ∷ 4 ∷ 0 ∷ 0 ∷ 0 ∷ [] }
    -- "stamp 0xFFFFFFFF advanced by 2 is 1"
    ∷ record { number = 9; gives = word (wide_stored (AdvanceStamp 2) (1 ∷ 0xFFFFFFFF ∷ [])) stamp ∷ []; says = 1 ∷ [] }
    -- "receiver and match on, empty set: filtered"
    ∷ record { number = 10; gives = outcome (arrival 0xA1 (receiving 1 0 255)) ∷ []; says = 1 ∷ [] }
    -- "command 0x1F05 is message 5; 0x7000 .. reserved"; paper 02 (vii): "marked example 0x6100 is now a jump to 256"
    ∷ record {
      number = 11;
      gives = flatten (map (λ (c : ℕ). next (scheduled_outcome (scheduling c))) (0x1F05 ∷ 0x7000 ∷ 0x6100 ∷ []));
      says = (2 ∷ 0xA1 ∷ 0 ∷ 0 ∷ 10 ∷ []) ++ (5 ∷ 9 ∷ 0 ∷ 0 ∷ 0 ∷ []) ++ (0 ∷ 0 ∷ 0 ∷ 0 ∷ 256 ∷ []);
    }
    ∷ []

-- the definitions give what the paper says, in every example
unfoldable pub Right : Type 0
Right = map (λ e. e.gives) marked ≡ map (λ e. e.says) marked
