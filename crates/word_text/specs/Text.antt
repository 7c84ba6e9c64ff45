-- What a line of text says: a word in hexadecimal, nothing, or something else. A text is the list of its bytes.
use Rattle.std.specs.Prelude.{ℕ, suc, ◌+◌, ◌*◌, ◌-◌, cond, List, [], ◌∷◌, eqb, ltb, length, drop, get_or}
use Rattle.text.specs.Bytes.{is_blank, digit_of}
use Rattle.word_text.specs.declared.Line.{Line}
use Rattle.word_text.specs.declared.Line.TheVariants.{Word, Blank, NoWord}

-- how many blanks a text begins with
abbrev pub blanks : List ℕ → ℕ
blanks [] = 0
blanks (b ∷ l) = cond (is_blank b) (suc (blanks l)) 0

-- how many digits there are, eight at most, where k stand before the text
abbrev pub digits : ℕ → List ℕ → ℕ
digits k [] = k
digits k (b ∷ l) = cond (eqb k 8) k (cond (eqb (digit_of b) 16) k (digits (suc k) l))

-- the number that they write, where the k before the text write v
abbrev pub hex_value : ℕ → ℕ → List ℕ → ℕ
hex_value k v [] = v
hex_value k v (b ∷ l) = cond (eqb k 8) v (cond (eqb (digit_of b) 16) v (hex_value (suc k) (v * 16 + digit_of b) l))

-- "0x" before the digits, in either case, may stand and says nothing
unfoldable pub prefix : List ℕ → ℕ
prefix l = cond (ltb (length l) 2) 0 (cond (eqb (get_or l 0 0) 48) (cond (eqb (get_or l 1 0) 120) 2 (cond (eqb (get_or l 1 0) 88) 2 0)) 0)

-- one to eight digits and then blanks alone are a word
unfoldable pub word_of : List ℕ → Line
word_of l = cond (eqb (digits 0 l) 0) NoWord (cond (eqb (blanks (drop (digits 0 l) l)) (length l - digits 0 l)) (Word (hex_value 0 0 l)) NoWord)

abbrev pub behind_blanks : List ℕ → Line
behind_blanks l = word_of (drop (prefix l) l)

-- a line: blanks, and behind them nothing, or a word with its prefix
unfoldable pub hex_word : List ℕ → Line
hex_word l = cond (eqb (blanks l) (length l)) Blank (behind_blanks (drop (blanks l) l))
