-- What holds along every list of accesses: enough that it holds after the first power-up, and after every accepted call on the whole memory.
-- Assumes nothing.
use Prim.Native.Nat.{ℕ, zero, suc}
use mathlib.Core.Path.{◌≡◌, refl, sym, subst}
use mathlib.Core.Bool.{Bool, true, false, cond, true≢false}
use mathlib.Core.List.{List, [], ◌∷◌, ◌++◌}
use borrow.Author.Tests.{eqb-true, ltb-true, ltb-false}
use lib.Dec.{eqb, ltb}
use lib.ListN.{length, take, drop, take-append-drop}
use Rattle.block.specs.Layout.{word}
use Rattle.channel.specs.Channel.{block_answer, block_after}
use Rattle.channel_calls.specs.Answers.{is_refused}
use Rattle.channel_calls.specs.Answer.{Answer, Done, Refused}
use Rattle.channel_calls.specs.declared.calls.ChannelCall.{ChannelCall}
use Rattle.channel_calls.specs.declared.calls.Given.{Given}
use Rattle.frame.specs.Layout.{count, most, need, block}
use Rattle.frame.specs.Refusals.{part_refusal, wide_refusal}
use Rattle.power.specs.Power.{power_refusal, powered}
use Rattle.reset.specs.Reset.{module_reset}
use Rattle.wide.specs.Refusals.{call_refusal}
use Rattle.wide.specs.OnModule.{wide_answer, wide_after}
use Rattle.wide.specs.declared.calls.WideCall.{WideCall}
use Rattle.module.specs.OnChannel.{on_refusal, given_of, accepted_after, on_after}
use Rattle.module.specs.Perform.{answer, after}
use Rattle.module.specs.declared.calls.Call.{Call}
use Rattle.module.specs.declared.calls.Call.TheVariants.{PowerUp, Reset, Wide, On}
use Rattle.module_laws.proofs.Lent.{Alike, Short, front, front_on, front_wide, front_reset, short_on, short_wide, short_reset}
use Rattle.registers.specs.Access.{turned_answer, turned_after, access_answer, access_after}
use Rattle.register_map.specs.Turned.{read_turned, write_turned}
use Rattle.registers.specs.Masked.{control_call, is_named, tried_on, tried_to, masked_answer, masked_after}
use Rattle.registers.specs.declared.accesses.Access.{Access}
use Rattle.registers.specs.declared.accesses.Access.TheVariants.{Direct, ReadRegister, WriteRegister}
use Rattle.register_map.specs.declared.map.Control.{Control}
use Rattle.register_map.specs.Turns.{Turned, NotTurned, OneCall, EachNamed}
use Rattle.fates.specs.History.{Telling, Silent, Performed, write_tells, tells, history}
use Rattle.fates.specs.Run.{lent, run, told_by}
use Rattle.fates.specs.Agrees.{Agrees}
use Rattle.fates.specs.Theorem.{Starts, Started}
use Rattle.fates.proofs.Accepted.{block-accepted, wide_accepted}
use Rattle.fates.proofs.Registers.{Quiet, control_quiet, AsRead, read_is, AsWrite, write_is}
use Rattle.fates.proofs.Accesses.{tried_agrees, same_telling, masked_telling}
use Rattle.fates.proofs.Theorem.{agrees}

-- of what the accesses so far tell, and of the memory behind them
pub record Invariant (P : List Telling → List ℕ → Type 0) : Type 0 where
  -- the first call, an accepted power-up
  pub first : (n : ℕ) (l r : List ℕ) → power_refusal n (length l) ≡ 0 → P (Performed (PowerUp n) Done ∷ []) (powered n l ++ r)
  pub power : (ts : List Telling) (m : List ℕ) → P ts m → (n : ℕ) (l r : List ℕ) → power_refusal n (length l) ≡ 0
      → P (Performed (PowerUp n) Done ∷ ts) (powered n l ++ r)
  pub silent : (ts : List Telling) (m : List ℕ) → P ts m → P (Silent ∷ ts) m
  pub on : (ts : List Telling) (m : List ℕ) → Agrees (history ts) m → P ts m → (ch : ℕ) (k : ChannelCall) → on_refusal ch k m ≡ 0
      → P (Performed (On ch k) (block_answer (given_of ch k m) k (block m ch)) ∷ ts) (accepted_after ch k m)
  pub wide : (ts : List Telling) (m : List ℕ) → Agrees (history ts) m → P ts m → (k : WideCall) → call_refusal k m ≡ 0
      → P (Performed (Wide k) (wide_answer k m) ∷ ts) (wide_after k m)
  pub reset : (ts : List Telling) (m : List ℕ) → Agrees (history ts) m → P ts m → wide_refusal m ≡ 0 → P (Performed Reset Done ∷ ts) (module_reset m)
  -- a call that a register access was turned into, and that changes nothing a history keeps, need not be told
  pub quiet : (ts : List Telling) (m : List ℕ) (ch : ℕ) (k : ChannelCall) → Quiet k → (g : Given) (b : List ℕ)
      → P (Performed (On ch k) (block_answer g k b) ∷ ts) m → P ts m

module _ {P : List Telling → List ℕ → Type 0} (v : Invariant P) where
  -- a call lent the first words l of the memory, told as a call
  module _ (ts : List Telling) (l r : List ℕ) (g : Agrees (history ts) (l ++ r)) (p : P ts (l ++ r)) where
    abbrev After : Call → Answer → List ℕ → Type 0
    After c a m = P (tells (Direct c) a ∷ ts) m

    alike : (c : Call) → Alike c l r → After c (answer c (l ++ r)) (after c (l ++ r)) → After c (answer c l) (after c l ++ r)
    alike c s k = rw (s.answers, s.leaves) k

    short : (c : Call) → Short c l → After c (answer c l) (after c l ++ r)
    short c s = rw (s.answers, s.leaves) (v.silent ts (l ++ r) p)

    -- an answer that is no refusal
    told_so : (c : Call) (a : Answer) (m : List ℕ) → is_refused a ≡ false → P (Performed c a ∷ ts) m → After c a m
    told_so c a m e q = subst (λ (t : Bool). P (cond t Silent (Performed c a) ∷ ts) m) (sym e) q

    power_step : (n : ℕ) (t : Bool) → eqb (power_refusal n (length l)) 0 ≡ t
        → After (PowerUp n) (cond t Done (Refused (power_refusal n (length l)))) (cond t (powered n l) l ++ r)
    power_step n true e = v.power ts (l ++ r) p n l r (eqb-true _ _ e)
    power_step n false e = v.silent ts (l ++ r) p

    on_step : (ch : ℕ) (k : ChannelCall) (t : Bool) → eqb (on_refusal ch k (l ++ r)) 0 ≡ t
        → After (On ch k) (cond t (block_answer (given_of ch k (l ++ r)) k (block (l ++ r) ch)) (Refused (on_refusal ch k (l ++ r)))) (cond t (accepted_after ch k (l ++ r)) (l ++ r))
    on_step ch k true e =
        told_so (On ch k) _ _ (block-accepted k (block_after (given_of ch k (l ++ r)) k (block (l ++ r) ch)) (block (l ++ r) ch)) (v.on ts (l ++ r) g p ch k (eqb-true _ _ e))
    on_step ch k false e = v.silent ts (l ++ r) p

    wide_step : (k : WideCall) (t : Bool) → eqb (call_refusal k (l ++ r)) 0 ≡ t
        → After (Wide k) (cond t (wide_answer k (l ++ r)) (Refused (call_refusal k (l ++ r)))) (cond t (wide_after k (l ++ r)) (l ++ r))
    wide_step k true e = told_so (Wide k) _ _ (wide_accepted k (l ++ r)) (v.wide ts (l ++ r) g p k (eqb-true _ _ e))
    wide_step k false e = v.silent ts (l ++ r) p

    reset_step : (t : Bool) → eqb (wide_refusal (l ++ r)) 0 ≡ t → After Reset (cond t Done (Refused (wide_refusal (l ++ r)))) (cond t (module_reset (l ++ r)) (l ++ r))
    reset_step true e = v.reset ts (l ++ r) g p (eqb-true _ _ e)
    reset_step false e = v.silent ts (l ++ r) p

    -- by whether enough words are lent
    by_length : (c : Call) (t : Bool) → ltb (length l) (need (word (l ++ r) count)) ≡ t → After c (answer c l) (after c l ++ r)
    by_length (PowerUp n) t e = power_step n (eqb (power_refusal n (length l)) 0) refl
    by_length Reset true e = short Reset (short_reset l r g.sane (ltb-true _ _ e))
    by_length Reset false e = alike Reset (front_reset (front l r g.sane (ltb-false _ _ e))) (reset_step (eqb (wide_refusal (l ++ r)) 0) refl)
    by_length (Wide k) true e = short (Wide k) (short_wide l r g.sane (ltb-true _ _ e) k)
    by_length (Wide k) false e = alike (Wide k) (front_wide (front l r g.sane (ltb-false _ _ e)) k) (wide_step k (eqb (call_refusal k (l ++ r)) 0) refl)
    by_length (On ch k) true e = short (On ch k) (short_on l r g.sane (ltb-true _ _ e) ch k)
    by_length (On ch k) false e =
        alike (On ch k) (front_on (front l r g.sane (ltb-false _ _ e)) ch k) (on_step ch k (eqb (on_refusal ch k (l ++ r)) 0) refl)

    call_step_lem : (c : Call) → After c (answer c l) (after c l ++ r)
    call_step_lem c = by_length c (ltb (length l) (need (word (l ++ r) count))) refl

  -- a call that a register access was turned into
  module _ (ts : List Telling) (r : List ℕ) where
    unsaid : (l : List ℕ) (ch : ℕ) (k : ChannelCall) → Quiet k → (m : List ℕ) → P ts (l ++ r) → (t : Bool)
        → let a : Answer = cond t (block_answer (given_of ch k l) k (block l ch)) (Refused (on_refusal ch k l)) in
        P (tells (Direct (On ch k)) a ∷ ts) (cond t m l ++ r) → P ts (cond t m l ++ r)
    unsaid l ch k q m p true w =
        v.quiet ts (m ++ r) ch k q (given_of ch k l) (block l ch)
        (subst (λ (t : Bool). P (cond t Silent (Performed (On ch k) (block_answer (given_of ch k l) k (block l ch))) ∷ ts) (m ++ r))
        (block-accepted k (block_after (given_of ch k l) k (block l ch)) (block l ch)) w)
    unsaid l ch k q m p false w = p

    -- what is needed of the memory
    abbrev Both : List ℕ → Type 0
    Both m = Agrees (history ts) m × P ts m

    quiet_step : (l : List ℕ) (ch : ℕ) (k : ChannelCall) → Quiet k → Both (l ++ r) → P ts (on_after ch k l ++ r)
    quiet_step l ch k q b =
        unsaid l ch k q (accepted_after ch k l) b.1 (eqb (on_refusal ch k l) 0) (call_step_lem ts l r b.0 b.1 (On ch k))

    module _ (c : Control) (mask : ℕ) (l : List ℕ) (b : Both (l ++ r)) where
      try_step : (ch : ℕ) (m : List ℕ) → Both (m ++ r) → (t : Bool) → P ts (cond t (on_after ch (control_call c) m) m ++ r)
      try_step ch m b true = quiet_step m ch (control_call c) (control_quiet c) b
      try_step ch m b false = b.1

      tried_step : (n : ℕ) → P ts (tried_to c mask n l ++ r)
      unfolding tried_to tried_on
      tried_step zero = b.1
      tried_step (suc n) = try_step (suc n) (tried_to c mask n l) (tried_agrees r c mask l b.0 n, tried_step n) (is_named mask (suc n))

      masked_step : (t : Bool) → P ts (cond t (tried_to c mask most l) l ++ r)
      masked_step true = tried_step most
      masked_step false = b.1

    read_step : (l : List ℕ) → Both (l ++ r) → (t : Turned) → AsRead t → P ts (turned_after t l ++ r)
    read_step l b (NotTurned n) e = b.1
    read_step l b (OneCall ch k bits) e = quiet_step l ch k e b
    read_step l b (EachNamed c mask) e = absurd e

    write_step : (l : List ℕ) → Both (l ++ r) → (t : Turned) → AsWrite t
        → P (cond (is_refused (turned_answer t l)) Silent (write_tells t) ∷ ts) (turned_after t l ++ r)
    write_step l b (NotTurned n) e = v.silent ts (l ++ r) b.1
    write_step l b (OneCall ch k bits) e =
        subst (λ (t : Telling). P (t ∷ ts) (on_after ch k l ++ r)) (sym (same_telling l ch k bits e)) (call_step_lem ts l r b.0 b.1 (On ch k))
    write_step l b (EachNamed c mask) e =
        subst (λ (t : Telling). P (t ∷ ts) (masked_after c mask l ++ r)) (sym (masked_telling (is_refused (masked_answer c mask l))))
        (v.silent ts (masked_after c mask l ++ r) (masked_step c mask l b (eqb (part_refusal l) 0)))

    access_step : (l : List ℕ) → Both (l ++ r) → (x : Access) → P (tells x (access_answer x l) ∷ ts) (access_after x l ++ r)
    access_step l b (Direct c) = call_step_lem ts l r b.0 b.1 c
    access_step l b (ReadRegister x) = v.silent ts (turned_after (read_turned x) l ++ r) (read_step l b (read_turned x) (read_is x))
    access_step l b (WriteRegister x w) = write_step l b (write_turned x w) (write_is x w)

  module _ (m : List ℕ) where
    first_access : (k : ℕ) (x : Access) → Starts x (access_answer x (take k m)) → P (tells x (access_answer x (take k m)) ∷ []) (lent k x m)
    first_access k (Direct (PowerUp n)) = go (eqb (power_refusal n (length (take k m))) 0) refl
      where
        go : (t : Bool) → eqb (power_refusal n (length (take k m))) 0 ≡ t →
            let a = cond t Done (Refused (power_refusal n (length (take k m)))) in
            is_refused a ≡ false → P (tells (Direct (PowerUp n)) a ∷ []) (cond t (powered n (take k m)) (take k m) ++ drop k m)
        go true e d = v.first n (take k m) (drop k m) (eqb-true _ _ e)
        go false e d = absurd (true≢false d)
    first_access k (Direct Reset) = λ s. absurd s
    first_access k (Direct (Wide w)) = λ s. absurd s
    first_access k (Direct (On ch w)) = λ s. absurd s
    first_access k (ReadRegister x) = λ s. absurd s
    first_access k (WriteRegister x w) = λ s. absurd s

    next_access : (ts : List Telling) (n : List ℕ) (k : ℕ) (x : Access) → Agrees (history ts) n → P ts n
        → P (tells x (access_answer x (take k n)) ∷ ts) (lent k x n)
    next_access ts n k x g p =
        let whole : n ≡ take k n ++ drop k n = sym (take-append-drop k n) in
        access_step ts (drop k n) (take k n) (subst (Agrees (history ts)) whole g, subst (P ts) whole p) x

    pub along : (accesses : List (ℕ × Access)) → Started m accesses → P (told_by m accesses) (run m accesses)
    along [] s = absurd s
    along (x ∷ []) s = first_access x.0 x.1 s
    along (x ∷ y ∷ before) s = next_access (told_by m (y ∷ before)) (run m (y ∷ before)) x.0 x.1 (agrees m (y ∷ before) s) (along (y ∷ before) s)
