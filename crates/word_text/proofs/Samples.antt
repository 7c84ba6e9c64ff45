-- What some lines say, computed: the definition is pinned down beside the code.
-- Assumes nothing.
use mathlib.Core.Path.{◌≡◌, refl}
use mathlib.Core.List.{[], ◌∷◌}
use Rattle.text.specs.Bytes.{is_blank, digit_of}
use Rattle.word_text.specs.Text.{prefix, word_of, hex_word}
use Rattle.word_text.specs.declared.Line.TheVariants.{Word, Blank, NoWord}

-- "0x6000012B"
pub prefixed : hex_word (48 ∷ 120 ∷ 54 ∷ 48 ∷ 48 ∷ 48 ∷ 48 ∷ 49 ∷ 50 ∷ 66 ∷ []) ≡ Word 1610613035
unfolding hex_word word_of prefix digit_of is_blank
prefixed = refl

-- a tab, "fF", a blank and a carriage return
pub between_blanks : hex_word (9 ∷ 102 ∷ 70 ∷ 32 ∷ 13 ∷ []) ≡ Word 255
unfolding hex_word word_of prefix digit_of is_blank
between_blanks = refl

-- eight digits are a word, nine are none
pub greatest : hex_word (70 ∷ 70 ∷ 70 ∷ 70 ∷ 70 ∷ 70 ∷ 70 ∷ 70 ∷ []) ≡ Word 4294967295
unfolding hex_word word_of prefix digit_of is_blank
greatest = refl

pub nine_digits : hex_word (48 ∷ 49 ∷ 49 ∷ 49 ∷ 49 ∷ 49 ∷ 49 ∷ 49 ∷ 49 ∷ []) ≡ NoWord
unfolding hex_word word_of prefix digit_of is_blank
nine_digits = refl

-- "hello", "0x", "1 2" and "+5" are none
pub hello : hex_word (104 ∷ 101 ∷ 108 ∷ 108 ∷ 111 ∷ []) ≡ NoWord
unfolding hex_word word_of prefix digit_of is_blank
hello = refl

pub prefix_alone : hex_word (48 ∷ 120 ∷ []) ≡ NoWord
unfolding hex_word word_of prefix digit_of is_blank
prefix_alone = refl

pub two-words : hex_word (49 ∷ 32 ∷ 50 ∷ []) ≡ NoWord
unfolding hex_word word_of prefix digit_of is_blank
two-words = refl

pub plus_five : hex_word (43 ∷ 53 ∷ []) ≡ NoWord
unfolding hex_word word_of prefix digit_of is_blank
plus_five = refl

-- a line of blanks, and one of nothing
pub blank_line : hex_word (32 ∷ 9 ∷ 13 ∷ []) ≡ Blank
unfolding hex_word word_of prefix digit_of is_blank
blank_line = refl

pub empty_line : hex_word [] ≡ Blank
unfolding hex_word word_of prefix digit_of is_blank
empty_line = refl
