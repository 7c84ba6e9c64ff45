-- What stores in a block leave of what is kept.
-- Assumes nothing.
use mathlib.Core.Path.{◌≡◌, refl, sym, ◌∙◌}
use mathlib.Core.Logic.{◌≢◌}
use mathlib.Core.Bool.{true}
use mathlib.Core.List.{List}
use Prim.Native.Nat.{ℕ, ◌≤◌, ◌<◌}
use native.Mathlib.Omega.{arith}
use lib.ListN.{take, set}
use lib.Seq.{get_or-set_other, get_or-take, take-set-le}
use Rattle.ring.proofs.Words.{words_part, words_same}
use Rattle.block.specs.Layout.{word, settings, receive_overwritten, ranged, Whole}
use Rattle.block.specs.Ranges.{in_range, Usable}
use Rattle.fifos.specs.Fifos.{receive_offsets, transmit_offsets, Fifo}
use Rattle.block.proofs.Sound.{usable_set}
use Rattle.fifos.proofs.Fifos.{Apart, store_apart}
use Rattle.settings.specs.Kept.{Kept, kept_of}

-- the block c is usable, and h is what is kept of it
pub record Holds (c : List ℕ) (h : Kept) : Type 0 where
  pub usable : Usable c
  pub is : kept_of c ≡ h

pub here : {b : List ℕ} → Usable b → Holds b (kept_of b)
here u = record { usable = u; is = refl }

-- what is kept with other settings, and with another value of one
abbrev pub with_settings : Kept → List ℕ → Kept
with_settings h l = record { settings = l; receive = h.receive; overwritten = h.overwritten; transmit = h.transmit }

abbrev pub with_setting : Kept → ℕ → ℕ → Kept
with_setting h s v = with_settings h (set h.settings s v)

-- what is kept, by its parts
pub parts : {l l' : List ℕ} {r r' t t' : Fifo} {n n' : ℕ} → l ≡ l' → r ≡ r' → n ≡ n' → t ≡ t'
    → ◌≡◌ {A = Kept} (record { settings = l; receive = r; overwritten = n; transmit = t })
    (record { settings = l'; receive = r'; overwritten = n'; transmit = t' })
parts p q r s = λ i. record { settings = p i; receive = q i; overwritten = r i; transmit = s i }

-- a setting that is kept is the block's
pub kept_setting : (b : List ℕ) (i : ℕ) → i < settings → word (kept_of b).settings i ≡ word b i
kept_setting b i h = get_or-take settings b i 0 h

-- a word of which nothing is kept
pub record Aside (i : ℕ) : Type 0 where
  pub setting : settings ≤ i
  pub overwritten : receive_overwritten ≢ i
  pub receive : Apart receive_offsets i
  pub transmit : Apart transmit_offsets i

pub store_kept : (b : List ℕ) (i v : ℕ) → Aside i → kept_of (set b i v) ≡ kept_of b
store_kept b i v a =
    parts (take-set-le settings b i v a.setting) (store_apart receive_offsets b i v (omega arith) a.receive)
    (get_or-set_other b i receive_overwritten v 0 a.overwritten) (store_apart transmit_offsets b i v (omega arith) a.transmit)

-- a store there, in range
pub stored : {c : List ℕ} {h : Kept} → Holds c h → (i v : ℕ) → Aside i → (i < ranged → in_range i v ≡ true) → Holds (set c i v) h
stored {c} k i v a r =
    record { usable = usable_set k.usable i v a.receive.level (omega (arith, a.setting)) r; is = store_kept c i v a ∙ k.is }

-- the same settings, one by one
pub same-settings : (b c : List ℕ) → Whole b → Whole c → ((i : ℕ) → i < settings → word c i ≡ word b i) → take settings c ≡ take settings b
same-settings b c w v h =
    sym (words_part c 0 settings (omega arith)) ∙ words_same b c 0 settings (λ i l u. h i (omega arith)) ∙ words_part b 0 settings (omega arith)
