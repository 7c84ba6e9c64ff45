-- The fields of a word behind label and SDI, and the low bits that a label and an SDI make (paper 01, "The word"; paper 02, request (iv)).
use Rattle.std.specs.Prelude.{ℕ, ◌+◌, ◌*◌, ◌/◌, ◌%◌, ◌^◌}
use Rattle.word.specs.Word.{reversed}

-- "all in ARINC bits 11 to 29": 19 bits, behind the ten of label and SDI
abbrev pub data_bits : ℕ → ℕ
data_bits w = w / 1024 % 2 ^ 19

-- "sign from bits 30 and 31": ARINC 429's sign/status matrix
abbrev pub sign_status : ℕ → ℕ
sign_status w = w / 2 ^ 29 % 4

-- "the octal label is the low byte with its bits reversed": so the low byte is the label with its bits reversed
abbrev pub low_byte : ℕ → ℕ
low_byte l = reversed (l % 256)

-- "The SDI/Label index is the word modulo 1024": "Bits 1 to 8 are the label", "Bits 9 and 10 are SDI"
abbrev pub index_of : ℕ → ℕ → ℕ
index_of l s = low_byte l + 256 * (s % 4)
