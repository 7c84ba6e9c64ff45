-- What an access leaves alone, on any memory.
-- Assumes nothing.
use Prim.Native.Nat.{ℕ, zero, suc, ◌≤◌}
use mathlib.Core.Path.{◌≡◌, refl, sym, ap, ◌∙◌, subst}
use mathlib.Core.Bool.{Bool, true, false, cond, true≢false}
use mathlib.Core.List.{List}
use native.Mathlib.Omega.{arith}
use borrow.Author.Tests.{eqb-true}
use lib.Dec.{eqb}
use lib.ListN.{length, drop}
use Rattle.block.specs.Layout.{word}
use Rattle.channel.specs.Channel.{block_after}
use Rattle.channel_calls.specs.Answers.{answer_unless, is_refused}
use Rattle.channel_calls.specs.Answer.{Answer, Done, Refused, Value, Waiting, Fates, Arrived, Entry, Stepped}
use Rattle.channel_calls.specs.declared.calls.ChannelCall.{ChannelCall}
use Rattle.frame.specs.Layout.{count, most, need, block}
use Rattle.frame.specs.Refusals.{part_refusal, wide_refusal}
use Rattle.power.specs.Power.{power_refusal, powered}
use Rattle.reset.specs.Reset.{module_reset}
use Rattle.wide.specs.Refusals.{call_refusal}
use Rattle.wide.specs.OnModule.{wide_answer, wide_after}
use Rattle.module.specs.OnChannel.{on_refusal, given_of, accepted_after, on_answer, on_after}
use Rattle.module.specs.Perform.{answer, after}
use Rattle.module.specs.declared.calls.Call.{Call}
use Rattle.module.specs.declared.calls.Call.TheVariants.{PowerUp, Reset, Wide, On}
use Rattle.module_laws.proofs.OnChannel.{on_word, on_other}
use Rattle.module_laws.proofs.Beyond.{beyond, same_length}
use Rattle.registers.specs.Access.{turned_answer, turned_after}
use Rattle.register_map.specs.Shown.{shown}
use Rattle.register_map.specs.Turned.{read_turned, write_turned}
use Rattle.registers.specs.Masked.{control_call, is_named, tried_on, tried_to, refused_to, masked_after}
use Rattle.registers.specs.declared.accesses.Access.{Access}
use Rattle.registers.specs.declared.accesses.Access.TheVariants.{Direct, ReadRegister, WriteRegister}
use Rattle.register_map.specs.declared.map.Control.{Control}
use Rattle.register_map.specs.declared.shown.Bits.{Bits}
use Rattle.register_map.specs.Turns.{Turned, NotTurned, OneCall, EachNamed}
use Rattle.fates.specs.Untouched.{LeavesAlone}
use Rattle.fates.proofs.Accepted.{block-accepted, wide_accepted}

-- ---- a refusal

-- an answer that is a refusal only where there is one
unless : (r : ℕ) (a : Answer) (m m' : List ℕ) → is_refused a ≡ false → is_refused (answer_unless r a) ≡ true → cond (eqb r 0) m' m ≡ m
unless r a m m' ok = go (eqb r 0)
  where
    go : (t : Bool) → is_refused (cond t a (Refused r)) ≡ true → cond t m' m ≡ m
    go true e = absurd (true≢false (sym e ∙ ok))
    go false e = refl

call_refused : (c : Call) (m : List ℕ) → is_refused (answer c m) ≡ true → after c m ≡ m
call_refused (PowerUp n) m = unless (power_refusal n (length m)) Done m (powered n m) refl
call_refused Reset m = unless (wide_refusal m) Done m (module_reset m) refl
call_refused (Wide k) m = unless (call_refusal k m) (wide_answer k m) m (wide_after k m) (wide_accepted k m)
call_refused (On ch k) m =
    unless (on_refusal ch k m) _ m (accepted_after ch k m) (block-accepted k (block_after (given_of ch k m) k (block m ch)) (block m ch))

shown_refused : (bits : Bits) (a : Answer) → is_refused (shown bits a) ≡ is_refused a
shown_refused bits Done = refl
shown_refused bits (Refused r) = refl
shown_refused bits (Value x) = refl
shown_refused bits (Waiting m w) = refl
shown_refused bits (Fates a r c o t s d) = refl
shown_refused bits (Arrived a) = refl
shown_refused bits (Entry s w t) = refl
shown_refused bits (Stepped o) = refl

turned_refused : (t : Turned) (m : List ℕ) → is_refused (turned_answer t m) ≡ true → turned_after t m ≡ m
turned_refused (NotTurned r) m e = refl
turned_refused (OneCall ch k bits) m e = call_refused (On ch k) m (sym (shown_refused bits (on_answer ch k m)) ∙ e)
turned_refused (EachNamed c mask) m e = unless (part_refusal m) (Value (refused_to c mask most m)) m (tried_to c mask most m) refl e

-- ---- the words beyond the need, and the number of words

count_stays : (ch : ℕ) (k : ChannelCall) (m : List ℕ) → word (on_after ch k m) count ≡ word m count
count_stays ch k m = go (eqb (on_refusal ch k m) 0) refl
  where
    go : (t : Bool) → eqb (on_refusal ch k m) 0 ≡ t → word (cond t (accepted_after ch k m) m) count ≡ word m count
    go true e = on_word ch k m (eqb-true _ _ e) count (omega arith)
    go false e = refl

-- what a masked write leaves of the count, of the words beyond the need, and of the length
record Left (m m' : List ℕ) : Type 0 where
  same : word m' count ≡ word m count
  rest : drop (need (word m count)) m' ≡ drop (need (word m count)) m
  long : length m' ≡ length m

on_left : (ch : ℕ) (k : ChannelCall) (m m' : List ℕ) → Left m m' → Left m (on_after ch k m')
on_left ch k m m' l =
    record {
      same = count_stays ch k m' ∙ l.same;
      rest = subst (λ (n : ℕ). drop (need n) (on_after ch k m') ≡ drop (need n) m') l.same (beyond (On ch k) m') ∙ l.rest;
      long = same_length (On ch k) m' ∙ l.long;
    }

module _ (c : Control) (mask : ℕ) (m : List ℕ) where
  try_left : (ch : ℕ) (m' : List ℕ) → Left m m' → (t : Bool) → Left m (cond t (on_after ch (control_call c) m') m')
  try_left ch m' l true = on_left ch (control_call c) m m' l
  try_left ch m' l false = l

  tried_left : (n : ℕ) → Left m (tried_to c mask n m)
  unfolding tried_to tried_on
  tried_left zero = record { same = refl; rest = refl; long = refl }
  tried_left (suc n) = try_left (suc n) (tried_to c mask n m) (tried_left n) (is_named mask (suc n))

  pub tried_length : (n : ℕ) → length (tried_to c mask n m) ≡ length m
  tried_length n = (tried_left n).long

  masked_left : (t : Bool) → Left m (cond t (tried_to c mask most m) m)
  masked_left true = tried_left most
  masked_left false = record { same = refl; rest = refl; long = refl }

turned_left : (t : Turned) (m : List ℕ) → Left m (turned_after t m)
turned_left (NotTurned r) m = record { same = refl; rest = refl; long = refl }
turned_left (OneCall ch k bits) m = on_left ch k m m (record { same = refl; rest = refl; long = refl })
turned_left (EachNamed c mask) m = masked_left c mask m (eqb (part_refusal m) 0)

-- every access, on any memory
pub untouched : (x : Access) (m : List ℕ) → LeavesAlone x m
untouched (Direct c) m = record { refused = call_refused c m; beyond = beyond c m; as_long = same_length c m }
untouched (ReadRegister a) m =
    let l = turned_left (read_turned a) m in
    record { refused = turned_refused (read_turned a) m; beyond = l.rest; as_long = l.long }
untouched (WriteRegister a v) m =
    let l = turned_left (write_turned a v) m in
    record { refused = turned_refused (write_turned a v) m; beyond = l.rest; as_long = l.long }

-- a masked write leaves the blocks of the channels that it does not name
module _ (c : Control) (mask : ℕ) (m : List ℕ) (ch : ℕ) (low : 1 ≤ ch) (not' : is_named mask ch ≡ false) where
  one_other : (x : ℕ) (m' : List ℕ) → (x ≡ ch → ⊥) → block (on_after x (control_call c) m') ch ≡ block m' ch
  one_other x m' ne = go (eqb (on_refusal x (control_call c) m') 0) refl
    where
      go : (t : Bool) → eqb (on_refusal x (control_call c) m') 0 ≡ t → block (cond t (accepted_after x (control_call c) m') m') ch ≡ block m' ch
      go true e = on_other x (control_call c) m' (eqb-true _ _ e) ch low ne
      go false e = refl

  try_other : (x : ℕ) (m' : List ℕ) (t : Bool) → is_named mask x ≡ t → block (cond t (on_after x (control_call c) m') m') ch ≡ block m' ch
  try_other x m' true e = one_other x m' (λ z. true≢false (sym e ∙ ap (is_named mask) z ∙ not'))
  try_other x m' false e = refl

  tried_other : (n : ℕ) → block (tried_to c mask n m) ch ≡ block m ch
  unfolding tried_to tried_on
  tried_other zero = refl
  tried_other (suc n) = try_other (suc n) (tried_to c mask n m) (is_named mask (suc n)) refl ∙ tried_other n

  pub unnamed : block (masked_after c mask m) ch ≡ block m ch
  unnamed = go (eqb (part_refusal m) 0)
    where
      go : (t : Bool) → block (cond t (tried_to c mask most m) m) ch ≡ block m ch
      go true = tried_other most
      go false = refl
