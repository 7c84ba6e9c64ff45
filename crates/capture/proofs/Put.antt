-- A record's bytes stored part by part.
-- Assumes nothing.
use Prim.Native.Nat.{ℕ, ◌+◌, ◌*◌, ◌<◌}
use mathlib.Core.Path.{◌≡◌, refl, ap, ◌∙◌}
use mathlib.Core.Bool.{false}
use mathlib.Core.List.{List, [], ◌∷◌, ◌++◌, append_assoc, append-nil}
use native.Mathlib.Omega.{arith}
use native.Mathlib.Numerals.{add-one}
use borrow.Author.Tests.{ne_eqb}
use lib.Dec.{eqb}
use lib.ListN.{length, get_or, take, length-append}
use lib.Seq.{sets, take-suc, length-take-le}
use Rattle.little_endian.specs.LittleEndian.{two, four}
use Rattle.capture.specs.Format.{made, arrival, commands_of, length_of, half, whole, fours, body_of, bytes_of}
use Rattle.capture.proofs.Stores.{sets-append}

pub length_two : (x : ℕ) → length (two x) ≡ half
unfolding two
length_two x = refl

pub length-four : (x : ℕ) → length (four x) ≡ whole
unfolding four
length-four x = refl

pub length-fours : (l : List ℕ) → length (fours l) ≡ whole * length l
length-fours [] = refl
length-fours (x ∷ l) = rw (length-append (four x) (fours l), length-four x, length-fours l) (omega arith)

pub fours-append : (xs ys : List ℕ) → fours (xs ++ ys) ≡ fours xs ++ fours ys
fours-append [] ys = refl
fours-append (x ∷ xs) ys = rw (fours-append xs ys, append_assoc) refl

-- one command more
pub one_command : (b₀ b c cs : List ℕ) (at i : ℕ) → i < length cs → b ≡ sets b₀ at (fours (take i cs)) → c ≡ sets b (at + whole * i) (four (get_or cs i 0))
    → c ≡ sets b₀ at (fours (take (i + 1) cs))
one_command b₀ b c cs at i h p q =
    let l : length (fours (take i cs)) ≡ whole * i = length-fours (take i cs) ∙ ap (λ n. whole * n) (length-take-le i cs (omega arith)) in
    q ∙ rw (p, add-one, take-suc cs i 0 h, fours-append (take i cs) (get_or cs i 0 ∷ []), append-nil, sets-append b₀ at (fours (take i cs)) (four (get_or cs i 0)), l) refl

-- three stores one behind the other
pub put_three : (b c d e : List ℕ) (at : ℕ) (x y z : List ℕ) (m n : ℕ) → c ≡ sets b at x → d ≡ sets c m y → e ≡ sets d n z → at + length x ≡ m → m + length y ≡ n
    → e ≡ sets b at (x ++ (y ++ z))
put_three b c d e at x y z m n p q r i j =
    rw (r, q, p, ← j, ← i, sets-append b at x (y ++ z), sets-append (sets b at x) (at + length x) y z) refl

-- the bytes of an arrival, and of a record of any other kind: head, then the rest
pub arrival-bytes : (channel word stamp : ℕ) → bytes_of (made arrival channel word stamp [])
    ≡ (two (length_of arrival) ++ (two arrival ++ two channel)) ++ (four word ++ four stamp)
unfolding bytes_of body_of length_of two four
arrival-bytes channel word stamp = refl

pub length_body : (kind channel : ℕ) (cs : List ℕ) → length cs ≡ commands_of kind → eqb kind arrival ≡ false
    → length (two kind ++ (two channel ++ fours cs)) ≡ length_of kind
unfolding length_of
length_body kind channel cs n k =
    rw (length-append (two kind) (two channel ++ fours cs), length-append (two channel) (fours cs), length_two kind, length_two channel, length-fours cs, n, k) (omega arith)

pub image-bytes : (kind channel word stamp : ℕ) (cs : List ℕ) → length cs ≡ commands_of kind → eqb kind arrival ≡ false
    → bytes_of (made kind channel word stamp cs) ≡ (two (length_of kind) ++ (two kind ++ two channel)) ++ fours cs
unfolding bytes_of body_of
image-bytes kind channel word stamp cs n k =
    rw (k, length_body kind channel cs n k, append_assoc (two (length_of kind)) (two kind ++ two channel) (fours cs), append_assoc (two kind) (two channel) (fours cs)) refl

pub length_head : (a b c : ℕ) → length (two a ++ (two b ++ two c)) ≡ half + half + half
unfolding two
length_head a b c = refl

-- an arrival stored part by part, and an image
pub put_arrival : (b c d e : List ℕ) (at channel word stamp : ℕ) → c ≡ sets b at (two (length_of arrival) ++ (two arrival ++ two channel))
    → d ≡ sets c (at + half + half + half) (four word) → e ≡ sets d (at + half + half + half + whole) (four stamp)
    → e ≡ sets b at (bytes_of (made arrival channel word stamp []))
put_arrival b c d e at channel word stamp p q r =
    rw (arrival-bytes channel word stamp)
    (put_three b c d e at (two (length_of arrival) ++ (two arrival ++ two channel)) (four word) (four stamp) (at + half + half + half) (at + half + half + half + whole) p q r
    (rw (length_head (length_of arrival) arrival channel) (omega arith)) (rw (length-four word) refl))

pub put_image : (b c d cs : List ℕ) (at kind channel word stamp : ℕ) → length cs ≡ commands_of kind → eqb kind arrival ≡ false
    → c ≡ sets b at (two (length_of kind) ++ (two kind ++ two channel)) → d ≡ sets c (at + half + half + half) (fours cs)
    → d ≡ sets b at (bytes_of (made kind channel word stamp cs))
put_image b c d cs at kind channel word stamp n k p q =
    let i : at + half + half + half ≡ at + length (two (length_of kind) ++ (two kind ++ two channel)) = rw (length_head (length_of kind) kind channel) (omega arith) in
    rw (image-bytes kind channel word stamp cs n k, sets-append b at (two (length_of kind) ++ (two kind ++ two channel)) (fours cs), ← p, ← i) q

-- an arrival's bytes show no commands, and an image's neither word nor stamp
pub any_commands : (kind channel word stamp : ℕ) (cs : List ℕ) → kind ≡ arrival
    → bytes_of (made arrival channel word stamp []) ≡ bytes_of (made kind channel word stamp cs)
unfolding bytes_of body_of
any_commands kind channel word stamp cs e = rw e refl

pub any_values : (kind channel word stamp : ℕ) (cs : List ℕ) → (kind ≡ arrival → ⊥)
    → bytes_of (made kind channel 0 0 cs) ≡ bytes_of (made kind channel word stamp cs)
unfolding bytes_of body_of
any_values kind channel word stamp cs n = rw (ne_eqb kind arrival n) refl
