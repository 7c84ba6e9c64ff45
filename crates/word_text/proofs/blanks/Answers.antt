-- `word_text::blanks` meets its contract: the blanks end at the first byte that is none.
-- Assumes nothing.
use Rattle.std.proofs.Common.{◌≡◌, ℕ, true, false, List, ◌∷◌, ◌+◌, refl, sym, ◌∙◌, rules, arith}
use Rattle.std.proofs.lemmas.Iterator.{index_from_first, IsFirst-from_position, YieldsList-from_slice}
use borrow.Author.Tests.{tests}
use Rattle.text.specs.Bytes.{is_blank}
use Rattle.word_text.specs.Text.{blanks}
use Rattle.word_text.proofs.Laws.{not_false, not_true}
use Rattle.word_text.proofs.blanks.Goals as goal

hit : (b : ℕ) (l : List ℕ) → is_blank b ≡ false → blanks (b ∷ l) ≡ 0
hit b l h = rw h

miss : (b : ℕ) (l : List ℕ) → is_blank b ≡ true → blanks (b ∷ l) ≡ blanks l + 1
miss b l h = rw h (omega arith)

pub returns : goal.returns
returns c = let text = c.args.text.now in
    c.unwrap_or.ensures ∙ sym (index_from_first blanks (λ b. is_blank b ≡ false) (λ b. is_blank b ≡ true) refl hit miss text _
    (IsFirst-from_position _ _ _ (λ b. is_blank b ≡ false) (λ b. is_blank b ≡ true) c.position.ensures.ran (YieldsList-from_slice text cc)
    (λ x q k. search (rules, tests, not_false)) (λ x q k. search (rules, tests, not_true))))
