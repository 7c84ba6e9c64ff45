-- A word of a block after stores at named offsets: `search words` finds it.
-- Assumes nothing.
use mathlib.Core.Path.{◌≡◌, ◌∙◌, subst}
use mathlib.Core.Bool.{not}
use mathlib.Core.List.{List}
use Prim.Native.Nat.{ℕ}
use native.Mathlib.Omega.{arith}
use lib.Dec.{T, T_not, ltb, eqb, ltb→lt, eqb_refl}
use lib.ListN.{set, length-set}
use lib.Seq.{get_or-set_same, get_or-set_other}
use Rattle.block.specs.Layout.{word, block_words, Whole}

pub whole_set : (b : List ℕ) (i v : ℕ) → Whole b → Whole (set b i v)
whole_set b i v w = length-set b i v ∙ w

pub word_same : (b : List ℕ) (i v : ℕ) → Whole b → T (ltb i block_words) → word (set b i v) i ≡ v
word_same b i v w t = get_or-set_same b i v 0 (omega (arith, w, ltb→lt i block_words t))

pub word_other : (b : List ℕ) (i v j : ℕ) → T (not (eqb j i)) → word (set b i v) j ≡ word b j
word_other b i v j t = get_or-set_other b i j v 0 (λ e. T_not (eqb j i) t (subst (λ (k : ℕ). T (eqb j k)) e (eqb_refl j)))

pub ruleset words = (tt, whole_set, word_same, word_other)
