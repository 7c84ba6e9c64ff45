-- One access, lent the first words of a memory that agrees with the history: the memory agrees with the history after it.
-- Assumes nothing.
use Prim.Native.Nat.{ℕ, zero, suc, ◌+◌}
use mathlib.Core.Path.{◌≡◌, refl, sym, ap, subst}
use mathlib.Core.Bool.{Bool, true, false, cond}
use mathlib.Core.List.{List, ◌++◌}
use lib.Dec.{eqb}
use lib.ListN.{take, drop, take-append-drop}
use Rattle.settings.specs.Kept.{Effect, kept_of, kept_by}
use Rattle.channel.specs.Channel.{block_answer}
use Rattle.channel_calls.specs.Answers.{is_refused}
use Rattle.channel_calls.specs.Answer.{Answer, Done, Refused}
use Rattle.channel_calls.specs.declared.calls.ChannelCall.{ChannelCall}
use Rattle.channel_laws.specs.Effects.{nothing, effect}
use Rattle.frame.specs.Layout.{most, block}
use Rattle.frame.specs.Refusals.{part_refusal}
use Rattle.module.specs.OnChannel.{on_refusal, given_of, on_answer, on_after}
use Rattle.module.specs.declared.calls.Call.TheVariants.{On}
use Rattle.module_laws.specs.Reduced.{reduced}
use Rattle.registers.specs.Access.{turned_answer, turned_after, access_answer, access_after}
use Rattle.register_map.specs.Shown.{shown}
use Rattle.register_map.specs.Turned.{read_turned, write_turned}
use Rattle.registers.specs.Masked.{control_call, is_named, tried_on, tried_to, masked_after}
use Rattle.registers.specs.declared.accesses.Access.{Access}
use Rattle.registers.specs.declared.accesses.Access.TheVariants.{Direct, ReadRegister, WriteRegister}
use Rattle.register_map.specs.declared.map.Control.{Control}
use Rattle.register_map.specs.declared.shown.Bits.{Bits}
use Rattle.register_map.specs.Turns.{Turned, NotTurned, OneCall, EachNamed}
use Rattle.fates.specs.History.{History, Telling, Silent, Performed, write_tells, tells, history_step}
use Rattle.fates.specs.Run.{lent}
use Rattle.fates.specs.Agrees.{Agrees}
use Rattle.fates.proofs.Registers.{Quiet, quiet_effect, control_quiet, AsRead, read_is, Writes, AsWrite, write_is}
use Rattle.fates.proofs.Steps.{call_step, silent, lent_step}

-- ---- a call that changes nothing that a history keeps

quiet_kept : (h : History) (ch : ℕ) (k : ChannelCall) (a : Answer) → Quiet k → (t : Bool)
    → kept_by ◌+◌ (cond t (effect h.part.stamp k a (h.kept ch).settings) (nothing (h.kept ch).settings)) (h.kept ch) ≡ h.kept ch
quiet_kept h ch k a q true = ap (λ (e : Effect). kept_by ◌+◌ e (h.kept ch)) (quiet_effect h.part.stamp k a (h.kept ch).settings q)
quiet_kept h ch k a q false = refl

quiet : {h : History} {m : List ℕ} (ch : ℕ) (k : ChannelCall) (a : Answer) → Quiet k → Agrees (call_step (On ch k) a h) m → Agrees h m
quiet {h} {m} ch k a q g = go (is_refused a) g
  where
    go : (t : Bool) → Agrees (history_step (cond t Silent (Performed (On ch k) a)) h) m → Agrees h m
    go true g = record { sane = g.sane; count = g.count; part = g.part; kept = g.kept }
    go false g =
        record {
          sane = g.sane;
          count = g.count;
          part = g.part;
          kept = λ x low high. subst (λ y. kept_of (block m x) ≡ reduced y) (quiet_kept h x k a q (eqb ch x)) (g.kept x low high);
        }

module _ {h : History} (r : List ℕ) where
  quiet_call : (l : List ℕ) → Agrees h (l ++ r) → (ch : ℕ) (k : ChannelCall) → Quiet k → Agrees h (on_after ch k l ++ r)
  quiet_call l g ch k q = quiet ch k (on_answer ch k l) q (lent_step l r g (On ch k))

  -- ---- a masked write

  module _ (c : Control) (mask : ℕ) (l : List ℕ) (g : Agrees h (l ++ r)) where
    try : (ch : ℕ) (m : List ℕ) → Agrees h (m ++ r) → (t : Bool) → Agrees h (cond t (on_after ch (control_call c) m) m ++ r)
    try ch m g true = quiet_call m g ch (control_call c) (control_quiet c)
    try ch m g false = g

    -- channels 1 to n
    pub tried_agrees : (n : ℕ) → Agrees h (tried_to c mask n l ++ r)
    unfolding tried_to tried_on
    tried_agrees zero = g
    tried_agrees (suc n) = try (suc n) (tried_to c mask n l) (tried_agrees n) (is_named mask (suc n))

    masked : Agrees h (masked_after c mask l ++ r)
    masked = go (eqb (part_refusal l) 0)
      where
        go : (t : Bool) → Agrees h (cond t (tried_to c mask most l) l ++ r)
        go true = tried_agrees most
        go false = g

-- ---- a register

-- a write is told as its call is
pub same_telling : (l : List ℕ) (ch : ℕ) (k : ChannelCall) (bits : Bits) → Writes k
    → cond (is_refused (shown bits (on_answer ch k l))) Silent (Performed (On ch k) Done) ≡ tells (Direct (On ch k)) (on_answer ch k l)
same_telling l ch k bits w = go (eqb (on_refusal ch k l) 0)
  where
    go : (t : Bool)
        → let a : Answer = cond t (block_answer (given_of ch k l) k (block l ch)) (Refused (on_refusal ch k l)) in
        cond (is_refused (shown bits a)) Silent (Performed (On ch k) Done) ≡ cond (is_refused a) Silent (Performed (On ch k) a)
    go true = rw (w.done (given_of ch k l) (block l ch)) refl
    go false = refl

-- and a masked write tells nothing
pub masked_telling : (t : Bool) → cond t Silent Silent ≡ Silent
masked_telling true = refl
masked_telling false = refl

module _ {h : History} (l r : List ℕ) (g : Agrees h (l ++ r)) where
  read_step : (t : Turned) → AsRead t → Agrees h (turned_after t l ++ r)
  read_step (NotTurned n) e = g
  read_step (OneCall ch k bits) e = quiet_call r l g ch k e
  read_step (EachNamed c mask) e = absurd e

  write_step : (t : Turned) → AsWrite t → Agrees (history_step (cond (is_refused (turned_answer t l)) Silent (write_tells t)) h) (turned_after t l ++ r)
  write_step (NotTurned n) e = silent g
  write_step (OneCall ch k bits) e =
      subst (λ (t : Telling). Agrees (history_step t h) (on_after ch k l ++ r)) (sym (same_telling l ch k bits e)) (lent_step l r g (On ch k))
  write_step (EachNamed c mask) e =
      subst (λ (t : Telling). Agrees (history_step t h) (masked_after c mask l ++ r)) (sym (masked_telling (is_refused (turned_answer (EachNamed c mask) l)))) (silent (masked r c mask l g))

  access_step : (x : Access) → Agrees (history_step (tells x (access_answer x l)) h) (access_after x l ++ r)
  access_step (Direct c) = lent_step l r g c
  access_step (ReadRegister x) = silent (read_step (read_turned x) (read_is x))
  access_step (WriteRegister x v) = write_step (write_turned x v) (write_is x v)

-- an access that is lent the first k words
pub step : (h : History) (m : List ℕ) (k : ℕ) (x : Access) → Agrees h m → Agrees (history_step (tells x (access_answer x (take k m))) h) (lent k x m)
step h m k x g = access_step (take k m) (drop k m) (subst (Agrees h) (sym (take-append-drop k m)) g) x
