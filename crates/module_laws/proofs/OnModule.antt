-- What an accepted module-wide call leaves of the module's memory.
-- Assumes nothing.
use Prim.Native.Nat.{ℕ, ◌≤◌, ◌<◌, zero-le}
use mathlib.Core.Path.{◌≡◌, refl, ap, ◌∙◌}
use mathlib.Core.Logic.{◌≢◌}
use mathlib.Core.Bool.{Bool, true, false, cond}
use mathlib.Core.List.{List}
use native.Mathlib.Omega.{arith}
use lib.ListN.{set}
use lib.Seq.{get_or-set_other}
use Rattle.fifos.specs.Counts.{counted}
use Rattle.block.specs.Layout.{word, latch}
use Rattle.block.specs.Ranges.{within, Usable}
use Rattle.block.proofs.Sound.{is_within}
use Rattle.status.proofs.Keeps.{rule_keeps}
use Rattle.settings.specs.Kept.{kept_of}
use Rattle.channel_laws.proofs.Holds.{store_kept}
use Rattle.frame.specs.Layout.{count, stamp, threshold, module_words, block}
use Rattle.frame.specs.Refusals.{part_leasts, part_greatests, wide_refusal}
use Rattle.block.proofs.Refusals.{neither}
use Rattle.frame.proofs.Blocks.{block-set}
use Rattle.frame.proofs.Each.{each_word, each_block}
use Rattle.wide.specs.Effects.{wide_effect, place_of, PartWord}
use Rattle.wide.specs.Refusals.{argument_refusal, effect_refusal, call_refusal}
use Rattle.wide.specs.Rule.{ruled_channel, ruled_all}
use Rattle.wide.specs.OnModule.{effect_stored, effect_after, wide_stored, wide_after}
use Rattle.wide.proofs.Places.{part_word}
use Rattle.wide.proofs.Laws.{ruled_own}
use Rattle.wide.proofs.Stored.{count_kept}
use Rattle.wide.specs.declared.calls.WideCall.{WideCall}
use Rattle.wide.specs.declared.calls.WideEffect.{WideEffect}
use Rattle.wide.specs.declared.calls.WideEffect.TheVariants.{Shows, Stores, Advances}
use Rattle.module_laws.specs.Sane.{Sane}
use Rattle.module_laws.proofs.Stores.{in_part, store_sane, each_sane}

-- the rule leaves a channel usable, and what it holds as it was
rule_usable : {m : List ℕ} → Sane m → (old ch : ℕ) → 1 ≤ ch → ch ≤ word m count → Usable (ruled_channel old m ch)
unfolding ruled_channel
rule_usable s old ch l h = rule_keeps (s.usable ch l h) _ _

rule_kept : (old ch : ℕ) (m : List ℕ) → kept_of (ruled_channel old m ch) ≡ kept_of (block m ch)
unfolding ruled_channel
rule_kept old ch m = store_kept (block m ch) latch _ (omega arith)

-- every word but the latch mask
rule_word : (old ch : ℕ) (m : List ℕ) (i : ℕ) → i ≢ latch → word (ruled_channel old m ch) i ≡ word (block m ch) i
unfolding ruled_channel
rule_word old ch m i ne = get_or-set_other (block m ch) latch i _ 0 ne

-- what a call leaves of memory m, where x is m with the call's word stored
record Left (m x m' : List ℕ) : Type 0 where
  sane : Sane m'
  channels : word m' count ≡ word m count
  words : (i : ℕ) → i < module_words → word m' i ≡ word x i
  kept : (ch : ℕ) → 1 ≤ ch → ch ≤ word m count → kept_of (block m' ch) ≡ kept_of (block m ch)
  others : (ch : ℕ) → 1 ≤ ch → ch ≤ word m count → (i : ℕ) → i ≢ latch → word (block m' ch) i ≡ word (block m ch) i

reads : {m : List ℕ} → Sane m → Left m m m
reads s = record { sane = s; channels = refl; words = λ i h. refl; kept = λ ch l h. refl; others = λ ch l h i ne. refl }

writes : {m : List ℕ} → Sane m → (i v : ℕ) → count < i → i < module_words → in_part i v → Left m (set m i v) (ruled_all m (set m i v))
writes {m} s i v l h r =
    record {
      sane = each_sane t (ruled_own old) (rule_usable t old) (word m count) c;
      channels = same count (omega arith) ∙ count_kept m i v l;
      words = same;
      kept =
          λ ch p q. ap kept_of (each_block (ruled_own old) x t.frame (word m count) ch p q c) ∙ rule_kept old ch x
          ∙ ap kept_of (block-set m ch i v (omega arith));
      others =
          λ ch p q j ne. ap (λ (b : List ℕ). word b j) (each_block (ruled_own old) x t.frame (word m count) ch p q c) ∙ rule_word old ch x j ne
          ∙ ap (λ (b : List ℕ). word b j) (block-set m ch i v (omega arith));
    }
  where
    old : ℕ
    old = word m threshold

    x : List ℕ
    x = set m i v

    t : Sane (set m i v)
    t = store_sane s i v l h r

    c : word m count ≤ word (set m i v) count
    c = rw (count_kept m i v l) (omega arith)

    same : (j : ℕ) → j < module_words → word (ruled_all m (set m i v)) j ≡ word (set m i v) j
    same j q = each_word (ruled_own (word m threshold)) (set m i v) t.frame (word m count) j c q

-- an argument that is not refused is in its range
argument : (i v : ℕ) → argument_refusal i v ≡ 0 → in_part i v
unfolding argument_refusal
argument i v e = go (within part_leasts part_greatests i v) e
  where
    go : (t : Bool) → ◌≡◌ {A = ℕ} (cond t 0 4) 0 → t ≡ true
    go true z = refl
    go false z = absurd (omega (arith, z))

left : (e : WideEffect) → PartWord (place_of e) → {m : List ℕ} → Sane m → effect_refusal e ≡ 0 → Left m (effect_stored e m) (effect_after e m)
unfolding part_leasts part_greatests
left (Shows i) p s z = reads s
left (Stores i v) p s z = writes s i v p.low p.high (argument i v z)
left (Advances n) p {m} s z =
    writes s stamp _ p.low p.high (is_within part_leasts part_greatests stamp (counted (word m stamp) n) zero-le (omega arith))

module _ {m : List ℕ} (s : Sane m) (k : WideCall) (e : call_refusal k m ≡ 0) where
  accepted : Left m (wide_stored k m) (wide_after k m)
  unfolding call_refusal
  accepted = left (wide_effect k) (part_word k) s (neither (wide_refusal m) _ e).1

  pub wide_sane : Sane (wide_after k m)
  wide_sane = accepted.sane

  pub wide_count : word (wide_after k m) count ≡ word m count
  wide_count = accepted.channels

  -- the module part has the call's word, and every other word of it is as it was
  pub wide_word : (i : ℕ) → i < module_words → word (wide_after k m) i ≡ word (wide_stored k m) i
  wide_word = accepted.words

  pub wide_kept : (ch : ℕ) → 1 ≤ ch → ch ≤ word m count → kept_of (block (wide_after k m) ch) ≡ kept_of (block m ch)
  wide_kept = accepted.kept

  pub wide_others : (ch : ℕ) → 1 ≤ ch → ch ≤ word m count → (i : ℕ) → i ≢ latch → word (block (wide_after k m) ch) i ≡ word (block m ch) i
  wide_others = accepted.others
