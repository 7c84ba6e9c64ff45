-- The map both ways: a register stands at its address, and what stands at an address is a register of twelve channels with that address.
-- Assumes nothing.
use Prim.Native.Nat.{ℕ, ◌+◌, ◌-◌, ◌*◌, ◌/◌, ◌%◌, ◌≤◌, ◌<◌}
use mathlib.Core.Path.{◌≡◌, refl, sym, ap, ◌∙◌, subst}
use mathlib.Core.Bool.{Bool, true, false, cond}
use native.Mathlib.Omega.{arith}
use borrow.Author.Tests.{eqb-true, eqb-false, ltb-true, ltb-false, leb-true, leb-false, lt-ltb, le-ltb, le-leb, lt-leb, ne_eqb}
use lib.Dec.{eqb, ltb, leb}
use Rattle.schedule.specs.Codes.{messages, commands}
use Rattle.frame.specs.Layout.{most}
use Rattle.register_map.specs.Map.{bytes, rate_at, async_at, channel_step, status_at, status_step, schedule_at, message_at, ram_step, trigger_at, pause_at, stop_at, address_of, Stands, StandsAt, channel_in, place_at, masked_at, ram_at, register_at}
use Rattle.register_map.specs.declared.map.Control.{Control}
use Rattle.register_map.specs.declared.map.Control.TheVariants.{TriggerEach, PauseEach, StopEach}
use Rattle.register_map.specs.Registers.{Register, NoRegister, RateOf, AsyncOf, StatusOf, ScheduleOf, MessageOf, ControlOf}

-- ---- the channels' registers of one kind

module _ (first step size a : ℕ) where
  inside : first ≤ a → a - first < most * step → (a - first) % step < size → channel_in first step size a ≡ (a - first) / step + 1
  unfolding channel_in
  inside p q r = rw (le-ltb a first p, lt-leb (most * step) (a - first) q, lt-leb size ((a - first) % step) r) refl

  below : a < first → channel_in first step size a ≡ 0
  unfolding channel_in
  below p = rw (lt-ltb a first p) refl

  above : first ≤ a → most * step ≤ a - first → channel_in first step size a ≡ 0
  unfolding channel_in
  above p q = rw (le-ltb a first p, le-leb (most * step) (a - first) q) refl

  between : first ≤ a → a - first < most * step → size ≤ (a - first) % step → channel_in first step size a ≡ 0
  unfolding channel_in
  between p q r = rw (le-ltb a first p, lt-leb (most * step) (a - first) q, le-leb size ((a - first) % step) r) refl

  -- an address at which a channel is found
  record Found : Type 0 where
    low : first ≤ a
    high : a - first < most * step
    part : (a - first) % step < size
    is : channel_in first step size a ≡ (a - first) / step + 1

  found : (channel_in first step size a ≡ 0 → ⊥) → Found
  found = go (ltb a first) refl (leb (most * step) (a - first)) refl (leb size ((a - first) % step)) refl
    where
      go : (t : Bool) → ltb a first ≡ t → (u : Bool) → leb (most * step) (a - first) ≡ u → (v : Bool) → leb size ((a - first) % step) ≡ v
          → (channel_in first step size a ≡ 0 → ⊥) → Found
      go true p u q v r n = absurd (n (below (ltb-true _ _ p)))
      go false p true q v r n = absurd (n (above (ltb-false _ _ p) (leb-true _ _ q)))
      go false p false q true r n = absurd (n (between (ltb-false _ _ p) (leb-false _ _ q) (leb-true _ _ r)))
      go false p false q false r n =
          record {
            low = ltb-false _ _ p;
            high = leb-false _ _ q;
            part = leb-false _ _ r;
            is = inside (ltb-false _ _ p) (leb-false _ _ q) (leb-false _ _ r);
          }

-- ---- a register's address has it

module _ (a : ℕ) where
  abbrev NotRate : Type 0
  NotRate = channel_in rate_at channel_step bytes a ≡ 0

  abbrev NotAsync : Type 0
  NotAsync = channel_in async_at channel_step bytes a ≡ 0

  abbrev NotStatus : Type 0
  NotStatus = channel_in status_at status_step bytes a ≡ 0

  abbrev NotSchedule : Type 0
  NotSchedule = channel_in schedule_at ram_step (bytes * commands) a ≡ 0

  abbrev NotMessage : Type 0
  NotMessage = channel_in message_at ram_step (bytes * messages) a ≡ 0

  as_rate : (ch : ℕ) → 1 ≤ ch → channel_in rate_at channel_step bytes a ≡ ch → register_at a ≡ RateOf ch
  unfolding register_at
  as_rate ch p e = rw (e, ne_eqb ch 0 (λ z. omega (arith, p, z))) refl

  as_async : (ch : ℕ) → 1 ≤ ch → NotRate → channel_in async_at channel_step bytes a ≡ ch → register_at a ≡ AsyncOf ch
  unfolding register_at
  as_async ch p x e = rw (x, e, ne_eqb ch 0 (λ z. omega (arith, p, z))) refl

  as_status : (ch : ℕ) → 1 ≤ ch → NotRate → NotAsync → channel_in status_at status_step bytes a ≡ ch → register_at a ≡ StatusOf ch
  unfolding register_at
  as_status ch p x y e = rw (x, y, e, ne_eqb ch 0 (λ z. omega (arith, p, z))) refl

  as_ram : NotRate → NotAsync → NotStatus → register_at a ≡ ram_at a
  unfolding register_at
  as_ram x y z = rw (x, y, z) refl

  as_schedule : (ch : ℕ) → 1 ≤ ch → channel_in schedule_at ram_step (bytes * commands) a ≡ ch → ram_at a ≡ ScheduleOf ch (place_at a)
  unfolding ram_at
  as_schedule ch p e = rw (e, ne_eqb ch 0 (λ z. omega (arith, p, z))) refl

  as_message : (ch : ℕ) → 1 ≤ ch → NotSchedule → channel_in message_at ram_step (bytes * messages) a ≡ ch → ram_at a ≡ MessageOf ch (place_at a)
  unfolding ram_at
  as_message ch p x e = rw (x, e, ne_eqb ch 0 (λ z. omega (arith, p, z))) refl

  as_masked : NotSchedule → NotMessage → ram_at a ≡ masked_at a
  unfolding ram_at
  as_masked x y = rw (x, y) refl

control_at : (c : Control) → register_at (address_of (ControlOf c)) ≡ ControlOf c
unfolding register_at ram_at masked_at channel_in
control_at TriggerEach = refl
control_at PauseEach = refl
control_at StopEach = refl

-- every register of twelve channels stands at its address
pub register_at_lem : (r : Register) → Stands r → register_at (address_of r) ≡ r
register_at_lem NoRegister s = absurd s
register_at_lem (RateOf ch) s =
    let a : ℕ = address_of (RateOf ch) in
    as_rate a ch s.0 (inside rate_at channel_step bytes a (omega arith) (omega arith) (omega arith) ∙ omega arith)
register_at_lem (AsyncOf ch) s =
    let a : ℕ = address_of (AsyncOf ch) in
    as_async a ch s.0 (between rate_at channel_step bytes a (omega arith) (omega arith) (omega arith))
    (inside async_at channel_step bytes a (omega arith) (omega arith) (omega arith) ∙ omega arith)
register_at_lem (StatusOf ch) s =
    let a : ℕ = address_of (StatusOf ch) in
    as_status a ch s.0 (below rate_at channel_step bytes a (omega arith)) (below async_at channel_step bytes a (omega arith))
    (inside status_at status_step bytes a (omega arith) (omega arith) (omega arith) ∙ omega arith)
register_at_lem (ScheduleOf ch at) s =
    let a : ℕ = address_of (ScheduleOf ch at) in
    let place : place_at a ≡ at = omega arith in
    as_ram a (above rate_at channel_step bytes a (omega arith) (omega arith)) (above async_at channel_step bytes a (omega arith) (omega arith))
    (above status_at status_step bytes a (omega arith) (omega arith))
    ∙ as_schedule a ch s.0 (inside schedule_at ram_step (bytes * commands) a (omega arith) (omega arith) (omega arith) ∙ omega arith)
    ∙ ap (ScheduleOf ch) place
register_at_lem (MessageOf ch at) s =
    let a : ℕ = address_of (MessageOf ch at) in
    let place : place_at a ≡ at = omega arith in
    as_ram a (above rate_at channel_step bytes a (omega arith) (omega arith)) (above async_at channel_step bytes a (omega arith) (omega arith))
    (above status_at status_step bytes a (omega arith) (omega arith))
    ∙ as_message a ch s.0 (above schedule_at ram_step (bytes * commands) a (omega arith) (omega arith))
    (inside message_at ram_step (bytes * messages) a (omega arith) (omega arith) (omega arith) ∙ omega arith)
    ∙ ap (MessageOf ch) place
register_at_lem (ControlOf c) s = control_at c

-- ---- what stands at an address

-- a register that is found
abbrev FoundAt : ℕ → Register → Type 0
FoundAt a NoRegister = Unit
FoundAt a (RateOf ch) = StandsAt a (RateOf ch)
FoundAt a (AsyncOf ch) = StandsAt a (AsyncOf ch)
FoundAt a (StatusOf ch) = StandsAt a (StatusOf ch)
FoundAt a (ScheduleOf ch at) = StandsAt a (ScheduleOf ch at)
FoundAt a (MessageOf ch at) = StandsAt a (MessageOf ch at)
FoundAt a (ControlOf c) = StandsAt a (ControlOf c)

found_at : (a : ℕ) → a % bytes ≡ 0 → FoundAt a (register_at a)
unfolding register_at ram_at masked_at
found_at a e = rate (eqb (channel_in rate_at channel_step bytes a) 0) refl
  where
    masked : (t u v : Bool) → eqb a trigger_at ≡ t → eqb a pause_at ≡ u → eqb a stop_at ≡ v
        → FoundAt a (cond t (ControlOf TriggerEach) (cond u (ControlOf PauseEach) (cond v (ControlOf StopEach) NoRegister)))
    masked true u v p q r = sym (eqb-true _ _ p)
    masked false true v p q r = sym (eqb-true _ _ q)
    masked false false true p q r = sym (eqb-true _ _ r)
    masked false false false p q r = tt

    message : (t : Bool) → eqb (channel_in message_at ram_step (bytes * messages) a) 0 ≡ t
        → FoundAt a (cond t (masked_at a) (MessageOf (channel_in message_at ram_step (bytes * messages) a) (place_at a)))
    message true p = masked (eqb a trigger_at) (eqb a pause_at) (eqb a stop_at) refl refl refl
    message false p =
        let f = found message_at ram_step (bytes * messages) a (eqb-false _ _ p) in
        ((omega (arith, f.is), omega (arith, f.is, f.high), omega (arith, f.low, f.part)), omega (arith, e, f.is, f.low, f.part))

    schedule : (t : Bool) → eqb (channel_in schedule_at ram_step (bytes * commands) a) 0 ≡ t
        → FoundAt a (cond t (cond (eqb (channel_in message_at ram_step (bytes * messages) a) 0) (masked_at a) (MessageOf (channel_in message_at ram_step (bytes * messages) a) (place_at a)))
        (ScheduleOf (channel_in schedule_at ram_step (bytes * commands) a) (place_at a)))
    schedule true p = message (eqb (channel_in message_at ram_step (bytes * messages) a) 0) refl
    schedule false p =
        let f = found schedule_at ram_step (bytes * commands) a (eqb-false _ _ p) in
        ((omega (arith, f.is), omega (arith, f.is, f.high), omega (arith, f.low, f.part)), omega (arith, e, f.is, f.low, f.part))

    status : (t : Bool) → eqb (channel_in status_at status_step bytes a) 0 ≡ t
        → FoundAt a (cond t (ram_at a) (StatusOf (channel_in status_at status_step bytes a)))
    status true p = schedule (eqb (channel_in schedule_at ram_step (bytes * commands) a) 0) refl
    status false p =
        let f = found status_at status_step bytes a (eqb-false _ _ p) in
        ((omega (arith, f.is), omega (arith, f.is, f.high)), omega (arith, e, f.is, f.low, f.part))

    async : (t : Bool) → eqb (channel_in async_at channel_step bytes a) 0 ≡ t
        → FoundAt a (cond t (cond (eqb (channel_in status_at status_step bytes a) 0) (ram_at a) (StatusOf (channel_in status_at status_step bytes a)))
        (AsyncOf (channel_in async_at channel_step bytes a)))
    async true p = status (eqb (channel_in status_at status_step bytes a) 0) refl
    async false p =
        let f = found async_at channel_step bytes a (eqb-false _ _ p) in
        ((omega (arith, f.is), omega (arith, f.is, f.high)), omega (arith, e, f.is, f.low, f.part))

    rate : (t : Bool) → eqb (channel_in rate_at channel_step bytes a) 0 ≡ t
        → FoundAt a (cond t (cond (eqb (channel_in async_at channel_step bytes a) 0)
        (cond (eqb (channel_in status_at status_step bytes a) 0) (ram_at a) (StatusOf (channel_in status_at status_step bytes a)))
        (AsyncOf (channel_in async_at channel_step bytes a)))
        (RateOf (channel_in rate_at channel_step bytes a)))
    rate true p = async (eqb (channel_in async_at channel_step bytes a) 0) refl
    rate false p =
        let f = found rate_at channel_step bytes a (eqb-false _ _ p) in
        ((omega (arith, f.is), omega (arith, f.is, f.high)), omega (arith, e, f.is, f.low, f.part))

-- a register of twelve channels with that address, or none has it
pub stands_at : (a : ℕ) → a % bytes ≡ 0 → StandsAt a (register_at a)
stands_at a e = go (register_at a) refl (found_at a e)
  where
    go : (x : Register) → register_at a ≡ x → FoundAt a x → StandsAt a x
    go NoRegister z f = λ r s q. subst Stands (sym (register_at_lem r s) ∙ ap register_at q ∙ z) s
    go (RateOf ch) z f = f
    go (AsyncOf ch) z f = f
    go (StatusOf ch) z f = f
    go (ScheduleOf ch at) z f = f
    go (MessageOf ch at) z f = f
    go (ControlOf c) z f = f
