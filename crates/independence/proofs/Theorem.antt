-- Accesses that name different channels do the same in either order.
-- Assumes nothing.
use Prim.Native.Nat.{ℕ}
use mathlib.Core.Path.{◌≡◌, refl, sym, ap, ◌∙◌}
use mathlib.Core.List.{List}
use Rattle.channel_calls.specs.Answer.{Answer}
use Rattle.channel_calls.specs.declared.calls.ChannelCall.{ChannelCall}
use Rattle.module.specs.OnChannel.{on_answer, on_after}
use Rattle.module.specs.declared.calls.Call.TheVariants.{PowerUp, Reset, Wide, On}
use Rattle.module_laws.proofs.Lens.{stays, same_answer, in_either_order}
use Rattle.registers.specs.Access.{turned_answer, turned_after, access_answer, access_after}
use Rattle.register_map.specs.Shown.{shown}
use Rattle.register_map.specs.Turned.{read_turned, write_turned}
use Rattle.registers.specs.declared.accesses.Access.{Access}
use Rattle.registers.specs.declared.accesses.Access.TheVariants.{Direct, ReadRegister, WriteRegister}
use Rattle.register_map.specs.Turns.{Turned, NotTurned, OneCall, EachNamed}
use Rattle.independence.specs.Names.{TurnedNames, Names}
use Rattle.independence.specs.Theorem.{InEitherOrder, ChannelsApart}

-- ---- what an access that names a channel does

-- nothing: it answers the same on every memory and leaves it
record Idle (answers : List ℕ → Answer) (leaves : List ℕ → List ℕ) : Type 0 where
  answer : (m m' : List ℕ) → answers m ≡ answers m'
  after : (m : List ℕ) → leaves m ≡ m

-- or a call on the channel, whose answer it shows
record OneOn (ch : ℕ) (answers : List ℕ → Answer) (leaves : List ℕ → List ℕ) : Type 0 where
  call : ChannelCall
  shows : Answer → Answer
  answer : (m : List ℕ) → answers m ≡ shows (on_answer ch call m)
  after : (m : List ℕ) → leaves m ≡ on_after ch call m

data Does (ch : ℕ) (answers : List ℕ → Answer) (leaves : List ℕ → List ℕ) : Type 0 where
  idle : Idle answers leaves → Does ch answers leaves
  one : OneOn ch answers leaves → Does ch answers leaves

turned_does : (t : Turned) (ch : ℕ) → TurnedNames t ch → Does ch (turned_answer t) (turned_after t)
turned_does (NotTurned r) ch n = idle (record { answer = λ m m'. refl; after = λ m. refl })
turned_does (OneCall ch' k bits) ch n =
    one (record {
      call = k;
      shows = shown bits;
      answer = λ m. ap (λ (c : ℕ). shown bits (on_answer c k m)) n;
      after = λ m. ap (λ (c : ℕ). on_after c k m) n;
    })
turned_does (EachNamed c mask) ch n = absurd n

does : (x : Access) (ch : ℕ) → Names x ch → Does ch (access_answer x) (access_after x)
does (Direct (PowerUp k)) ch n = absurd n
does (Direct Reset) ch n = absurd n
does (Direct (Wide k)) ch n = absurd n
does (Direct (On ch' k)) ch n =
    one (record { call = k; shows = λ a. a; answer = λ m. ap (λ (c : ℕ). on_answer c k m) n; after = λ m. ap (λ (c : ℕ). on_after c k m) n })
does (ReadRegister a) ch n = turned_does (read_turned a) ch n
does (WriteRegister a v) ch n = turned_does (write_turned a v) ch n

-- ---- two of them

-- a call behind another channel's answers the same
behind : {ch ch' : ℕ} {p q : List ℕ → Answer} {f g : List ℕ → List ℕ} → (ch ≡ ch' → ⊥) → OneOn ch p f → OneOn ch' q g → (m : List ℕ) → p (g m) ≡ p m
behind {ch} {ch'} {p} {q} {f} {g} ne a b m =
    ap p (b.after m) ∙ a.answer (on_after ch' b.call m)
    ∙ ap a.shows (same_answer ch a.call (on_after ch' b.call m) m (stays ch' b.call m ch (λ e. ne (sym e))))
    ∙ sym (a.answer m)

pub channels_apart : ChannelsApart
channels_apart m x y ch ch' n n' ne = go (does x ch n) (does y ch' n')
  where
    go : Does ch (access_answer x) (access_after x) → Does ch' (access_answer y) (access_after y) → InEitherOrder x y m
    go (idle a) (idle b) =
        record {
          first-answer = a.answer _ _;
          second_answer = b.answer _ _;
          memory = a.after (access_after y m) ∙ b.after m ∙ sym (b.after (access_after x m) ∙ a.after m);
        }
    go (idle a) (one b) =
        record {
          first-answer = a.answer _ _;
          second_answer = ap (access_answer y) (a.after m);
          memory = a.after (access_after y m) ∙ sym (ap (access_after y) (a.after m));
        }
    go (one a) (idle b) =
        record {
          first-answer = ap (access_answer x) (b.after m);
          second_answer = b.answer _ _;
          memory = ap (access_after x) (b.after m) ∙ sym (b.after (access_after x m));
        }
    go (one a) (one b) =
        record {
          first-answer = behind ne a b m;
          second_answer = behind (λ e. ne (sym e)) b a m;
          memory =
              ap (access_after x) (b.after m) ∙ a.after (on_after ch' b.call m) ∙ in_either_order ch ch' a.call b.call m ne
              ∙ sym (ap (access_after y) (a.after m) ∙ b.after (on_after ch a.call m));
        }
