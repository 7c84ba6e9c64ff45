-- What the changes of a block leave: it stays usable.
-- Assumes nothing.
use mathlib.Core.Path.{◌≡◌, refl, ap, ◌∙◌, subst}
use mathlib.Core.Bool.{Bool, true, false, cond}
use mathlib.Core.List.{List, ◌++◌}
use Prim.Native.Nat.{ℕ, ◌+◌, ◌-◌, ◌≤◌, ◌<◌, zero-le}
use native.Mathlib.Decide.{dec_lt, ℕ_discrete}
use native.Mathlib.Omega.{arith}
use borrow.Author.Tests.{eqb-true, eqb-false, ltb-false}
use lib.Dec.{eqb, ltb}
use lib.ListN.{length, get_or, set, drop, get_or-append}
use lib.Seq.{get_or-append-add, get_or-drop, sets-eq, length-sets}
use Rattle.block.specs.Layout.{word, receiver, transmitter, receive_mode, transmit_mode, receive_size, receive_level, transmit_level, receive_cleared, transmit_cleared, state, address, async_mark, message_mark, settings, ranged}
use Rattle.block.specs.Ranges.{leasts, greatests, in_range, Usable}
use Rattle.fifos.specs.Clearing.{receive_fifo_cleared, transmit_fifo_cleared, stopped, unmarked, forgotten}
use Rattle.settings.specs.Settings.{setting_refusal, receive_mode_written, transmit_mode_written, transmitter_written, written}
use Rattle.settings.specs.Factory.{factory_settings, settings_to_factory}
use Rattle.word.proofs.Computed.{passes}
use Rattle.fifos.proofs.Marks.{unlist_usable}
use Rattle.block.proofs.Sound.{word_in, usable_words, usable_set, usable_level, usable_size}

-- ---- each change of a block

module _ {b : List ℕ} (u : Usable b) where
  -- a word that is neither the receive level nor the receive size
  pub usable_store : (i v : ℕ) → receive_level < i → in_range i v ≡ true → Usable (set b i v)
  usable_store i v l r = usable_set u i v (omega arith) (omega arith) (λ _. r)

  pub usable_behind : (i v : ℕ) → ranged ≤ i → Usable (set b i v)
  usable_behind i v l = usable_set u i v (omega arith) (omega arith) (λ h. absurd (omega arith))

module _ {b : List ℕ} (u : Usable b) where
  pub receive_cleared_lem : Usable (receive_fifo_cleared b)
  receive_cleared_lem = usable_level (usable_behind (unlist_usable (word b receive_level) u) receive_cleared _ (omega arith)) 0 zero-le

  pub transmit_cleared_lem : Usable (transmit_fifo_cleared b)
  unfolding leasts greatests
  transmit_cleared_lem = usable_store (usable_behind u transmit_cleared _ (omega arith)) transmit_level 0 (omega arith) refl

  pub stop_keeps : Usable (stopped b)
  unfolding leasts greatests
  stop_keeps = usable_store (usable_store u state 0 (omega arith) refl) address 0 (omega arith) refl

  pub unmark_keeps : Usable (unmarked b)
  unfolding leasts greatests
  unmark_keeps = usable_store u message_mark 0 (omega arith) refl

module _ {b : List ℕ} (u : Usable b) where
  pub forget_keeps : Usable (forgotten b)
  unfolding leasts greatests
  forget_keeps = usable_store (unmark_keeps (stop_keeps u)) async_mark 0 (omega arith) refl

-- ---- settings

-- what an accepted value for a setting is
pub record Settable (s v : ℕ) (b : List ℕ) : Type 0 where
  pub range : in_range s v ≡ true
  pub size : s ≡ receive_size → word b receive_level ≤ v

pub settable : (s v : ℕ) (b : List ℕ) → setting_refusal s v b ≡ 0 → Settable s v b
unfolding setting_refusal
settable s v b e = go (in_range s v) (eqb s receive_size) (ltb v (word b receive_level)) refl refl refl e
  where
    go : (r q l : Bool) → in_range s v ≡ r → eqb s receive_size ≡ q → ltb v (word b receive_level) ≡ l
        → ◌≡◌ {A = ℕ} (cond r (cond q (cond l 5 0) 0) 4) 0 → Settable s v b
    go true true true p q l z = absurd (omega arith)
    go true true false p q l z = record { range = p; size = λ _. ltb-false v (word b receive_level) l }
    go true false l' p q l z = record { range = p; size = λ h. absurd (eqb-false s receive_size q h) }
    go false q' l' p q l z = absurd (omega arith)

module _ {b : List ℕ} (u : Usable b) (s v : ℕ) (h : s < settings) (a : Settable s v b) where
  receive_mode_keeps : eqb s receive_mode ≡ true → Usable (receive_mode_written v b)
  receive_mode_keeps e = go (eqb (word b receive_mode) v)
    where
      is : s ≡ receive_mode
      is = eqb-true s receive_mode e

      go : (t : Bool) → Usable (cond t b (set (receive_fifo_cleared b) receive_mode v))
      go true = u
      go false = usable_set (receive_cleared_lem u) receive_mode v (omega arith) (omega arith) (λ _. rw is at a.range)

  transmit_mode_keeps : eqb s transmit_mode ≡ true → Usable (transmit_mode_written v b)
  transmit_mode_keeps e = go (eqb (word b transmit_mode) v)
    where
      is : s ≡ transmit_mode
      is = eqb-true s transmit_mode e

      go : (t : Bool) → Usable (cond t b (set (forgotten b) transmit_mode v))
      go true = u
      go false = usable_set (forget_keeps u) transmit_mode v (omega arith) (omega arith) (λ _. rw is at a.range)

  transmitter_keeps : eqb s transmitter ≡ true → Usable (transmitter_written v b)
  transmitter_keeps e = go (eqb v 0)
    where
      is : s ≡ transmitter
      is = eqb-true s transmitter e

      go : (t : Bool) → Usable (cond t (set (forgotten b) transmitter v) (set b transmitter v))
      go true = usable_set (forget_keeps u) transmitter v (omega arith) (omega arith) (λ _. rw is at a.range)
      go false = usable_set u transmitter v (omega arith) (omega arith) (λ _. rw is at a.range)

  other_keeps : Usable (set b s v)
  other_keeps = go (ℕ_discrete s receive_size)
    where
      go : Dec (s ≡ receive_size) → Usable (set b s v)
      go (yes e) = rw e (usable_size u v (a.size e) (rw e at a.range))
      go (no e) = usable_set u s v (omega arith) (λ q. e (omega arith)) (λ _. a.range)

  -- an accepted write of a setting
  pub write_keeps : Usable (written s v b)
  unfolding written
  write_keeps = go (eqb s receive_mode) (eqb s transmit_mode) (eqb s transmitter) refl refl refl
    where
      go : (p q r : Bool) → eqb s receive_mode ≡ p → eqb s transmit_mode ≡ q → eqb s transmitter ≡ r
          → Usable (cond p (receive_mode_written v b) (cond q (transmit_mode_written v b) (cond r (transmitter_written v b) (set b s v))))
      go true q r x y z = receive_mode_keeps x
      go false true r x y z = transmit_mode_keeps y
      go false false true x y z = transmitter_keeps z
      go false false false x y z = other_keeps

-- ---- factory settings

-- the factory settings are in their ranges
factory_in : (i : ℕ) → i < settings → in_range i (get_or factory_settings i 0) ≡ true
unfolding leasts greatests
factory_in i h = passes (λ j. in_range j (get_or factory_settings j 0)) settings tt i h

-- a block with factory settings, in two parts
pub factory_parts : (b : List ℕ) → settings ≤ length b → settings_to_factory b ≡ factory_settings ++ drop settings b
factory_parts b h = sets-eq factory_settings b 0 h

pub factory_setting : (b : List ℕ) (i : ℕ) → settings ≤ length b → i < settings → word (settings_to_factory b) i ≡ get_or factory_settings i 0
factory_setting b i h l = ap (λ (c : List ℕ). word c i) (factory_parts b h) ∙ get_or-append factory_settings (drop settings b) 0 i l

pub factory_other : (b : List ℕ) (i : ℕ) → settings ≤ length b → settings ≤ i → word (settings_to_factory b) i ≡ word b i
factory_other b i h l =
    let e : settings + (i - settings) ≡ i = omega arith in
    ap (λ (c : List ℕ). word c i) (factory_parts b h)
    ∙ subst (λ (j : ℕ). word (factory_settings ++ drop settings b) j ≡ word b j) e
    (get_or-append-add factory_settings (drop settings b) (i - settings) 0 ∙ get_or-drop settings b (i - settings) 0)

-- "settings to factory", where nothing is held
pub factory_keeps : {b : List ℕ} → Usable b → word b receive_level ≡ 0 → Usable (settings_to_factory b)
factory_keeps {b} u none =
    let l : settings ≤ length b = omega (arith, u.whole) in
    usable_words (length-sets b receiver factory_settings ∙ u.whole) (each l)
    (rw (factory_other b receive_level l (omega arith), none) zero-le)
  where
    each : settings ≤ length b → (i : ℕ) → i < ranged → in_range i (word (settings_to_factory b) i) ≡ true
    each l i h = go (dec_lt i settings)
      where
        go : Dec (i < settings) → in_range i (word (settings_to_factory b) i) ≡ true
        go (yes k) = rw (factory_setting b i l k) (factory_in i k)
        go (no k) = rw (factory_other b i l (omega arith)) (word_in u i h)
