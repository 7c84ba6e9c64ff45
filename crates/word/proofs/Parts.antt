-- The fields are the whole word, and the index of a label and an SDI has that label and that SDI.
-- Assumes nothing.
use mathlib.Core.Path.{◌≡◌, ap, ◌∙◌}
use Prim.Native.Nat.{ℕ, ◌+◌, ◌*◌, ◌/◌, ◌%◌, ◌^◌, ◌<◌}
use native.Mathlib.Omega.{arith}
use lib.Dec.{ltb, ltb→lt}
use Rattle.word.specs.Word.{label, sdi, index, reversed}
use Rattle.word.specs.Fields.{data_bits, sign_status, low_byte, index_of}
use Rattle.word.proofs.Computed.{at}
use Rattle.word.proofs.Laws.{reversed_twice}

-- a word is its index, its data bits, its sign/status matrix and its parity bit, one behind the other
pub whole : (w : ℕ) → w < 2 ^ 32 → w ≡ index w + 1024 * data_bits w + 2 ^ 29 * sign_status w + 2 ^ 31 * (w / 2 ^ 31)
whole w h = omega arith

pub low_byte_below : (l : ℕ) → low_byte l < 256
unfolding reversed
low_byte_below l = ltb→lt (reversed (l % 256)) 256 (at (λ b. ltb (reversed b) 256) 256 tt (l % 256) (omega arith))

pub index_below : (l s : ℕ) → index_of l s < 1024
index_below l s = omega (arith, low_byte_below l)

pub sdi_of_index : (l s : ℕ) → sdi (index_of l s) ≡ s % 4
sdi_of_index l s = omega (arith, low_byte_below l)

pub label_of_index : (l s : ℕ) → label (index_of l s) ≡ l % 256
label_of_index l s =
    let e : index_of l s % 256 ≡ low_byte l = omega (arith, low_byte_below l) in
    ap reversed e ∙ reversed_twice (l % 256) (omega arith)
