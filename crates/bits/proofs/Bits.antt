-- A word with one bit written: it is a word, the bit is as written, and the other bits stay.
-- Assumes nothing.
use mathlib.Core.Path.{◌≡◌, sym, ap, ◌∙◌, subst}
use Prim.Native.Nat.{ℕ, suc, ◌+◌, ◌-◌, ◌*◌, ◌/◌, ◌%◌, ◌^◌, ◌≤◌, ◌<◌}
use native.Mathlib.Nat.{pow-suc, mod-lt, add-mul-div_right, mul_assoc, mul-one, mul-le-mul_left, add_comm}
use native.Mathlib.Omega.{arith}
use lib.Arith.{digits_lt}
use lib.Pow.{pow_pos, pow-add, shr_lt, shr-shr, high, split}
use Rattle.bits.specs.Bits.{bit_at, with_bit}

-- the bits above bit k, with another bit k, are as few
fits_high : (m q v : ℕ) → q < m * 2 → v ≤ 1 → q / 2 * 2 + v < m * 2
fits_high m q v h l = omega arith

pub bit_fits : (w k v : ℕ) → w < 2 ^ 32 → k < 32 → v ≤ 1 → with_bit w k v < 2 ^ 32
bit_fits w k v h l u =
    let j : ℕ = 31 - k in
    let whole : suc j + k ≡ 32 = omega arith in
    let product : 2 ^ suc j * 2 ^ k ≡ 2 ^ 32 = sym (pow-add 2 (suc j) k) ∙ ap (λ (n : ℕ). 2 ^ n) whole in
    let below : w / 2 ^ k < 2 ^ suc j = shr_lt (suc j) k (subst (λ (n : ℕ). w < 2 ^ n) (sym whole) h) in
    let above : w / 2 ^ k / 2 * 2 + v < 2 ^ suc j = rw pow-suc (fits_high (2 ^ j) (w / 2 ^ k) v (rw pow-suc at below) u) in
    subst (λ (n : ℕ). with_bit w k v < n) product (digits_lt above (mod-lt w (pow_pos k)))

odd_part : (h v : ℕ) → v ≤ 1 → (h * 2 + v) % 2 ≡ v
odd_part h v u = omega arith

-- the bit is as written
pub bit-same : (w k v : ℕ) → v ≤ 1 → bit_at (with_bit w k v) k ≡ v
bit-same w k v u = ap (λ (n : ℕ). n % 2) (high (w / 2 ^ k / 2 * 2 + v) k (mod-lt w (pow_pos k))) ∙ odd_part (w / 2 ^ k / 2) v u

-- a bit below bit k is one of the low part
low_bit : (x l d j : ℕ) → bit_at (x * 2 ^ (suc d + j) + l) j ≡ bit_at l j
low_bit x l d j =
    let e : x * 2 ^ (suc d + j) ≡ x * 2 ^ d * 2 * 2 ^ j = ap (λ (n : ℕ). x * n) (pow-add 2 (suc d) j ∙ ap (λ (n : ℕ). n * 2 ^ j) (pow-suc 2 d)) ∙ regroup in
    ap (λ (n : ℕ). (n + l) / 2 ^ j % 2) e
    ∙ ap (λ (n : ℕ). n / 2 ^ j % 2) (add_comm (x * 2 ^ d * 2 * 2 ^ j) l)
    ∙ ap (λ (n : ℕ). n % 2) (add-mul-div_right l (x * 2 ^ d * 2) (pow_pos j))
    ∙ even (l / 2 ^ j) (x * 2 ^ d)
  where
    regroup : x * (2 ^ d * 2 * 2 ^ j) ≡ x * 2 ^ d * 2 * 2 ^ j
    regroup = sym (mul_assoc x (2 ^ d * 2) (2 ^ j)) ∙ ap (λ (n : ℕ). n * 2 ^ j) (sym (mul_assoc x (2 ^ d) 2))

    even : (a b : ℕ) → (a + b * 2) % 2 ≡ a % 2
    even a b = omega arith

-- and one above bit k is one of the high part without bit k
high_bit : (x k d : ℕ) {l : ℕ} → l < 2 ^ k → bit_at (x * 2 ^ k + l) (k + suc d) ≡ bit_at (x / 2) d
high_bit x k d {l} h =
    ap (λ (n : ℕ). n % 2)
    (sym (shr-shr (x * 2 ^ k + l) k (suc d)) ∙ ap (λ (n : ℕ). n / 2 ^ suc d) (high x k h)
    ∙ ap (λ (n : ℕ). x / 2 ^ n) one ∙ sym (shr-shr x 1 d))
  where
    one : suc d ≡ 1 + d
    one = omega arith

half_of : (q v : ℕ) → v ≤ 1 → (q / 2 * 2 + v) / 2 ≡ q / 2
half_of q v u = omega arith

-- the other bits stay
pub bit_below : (w k v j : ℕ) → j < k → bit_at (with_bit w k v) j ≡ bit_at w j
bit_below w k v j h =
    let d : ℕ = k - suc j in
    let e : suc d + j ≡ k = omega arith in
    subst (λ (n : ℕ). bit_at (with_bit w n v) j ≡ bit_at w j) e
    (low_bit (w / 2 ^ (suc d + j) / 2 * 2 + v) (w % 2 ^ (suc d + j)) d j
    ∙ sym (ap (λ (n : ℕ). bit_at n j) (sym (split w (suc d + j))) ∙ low_bit (w / 2 ^ (suc d + j)) (w % 2 ^ (suc d + j)) d j))

pub bit-above : (w k v j : ℕ) → v ≤ 1 → k < j → bit_at (with_bit w k v) j ≡ bit_at w j
bit-above w k v j u h =
    let d : ℕ = j - suc k in
    let e : k + suc d ≡ j = omega arith in
    subst (λ (n : ℕ). bit_at (with_bit w k v) n ≡ bit_at w n) e
    (high_bit (w / 2 ^ k / 2 * 2 + v) k d (mod-lt w (pow_pos k))
    ∙ ap (λ (n : ℕ). bit_at n d) (half_of (w / 2 ^ k) v u)
    ∙ sym (ap (λ (n : ℕ). bit_at n (k + suc d)) (sym (split w k)) ∙ high_bit (w / 2 ^ k) k d (mod-lt w (pow_pos k))))

-- ---- the weight p of bit k, as the code computes it

pub positive : (p k : ℕ) → p ≡ 2 ^ k → 0 < p
positive p k e = rw e (pow_pos k)

pub weighed : (p w k v : ℕ) → p ≡ 2 ^ k → w < 2 ^ 32 → k < 32 → v ≤ 1 → (w / p / 2 * 2 + v) * p + w % p < 2 ^ 32
weighed p w k v e h l u = rw e (bit_fits w k v h l u)

-- a product is no less than what is multiplied
pub product_low : (a p : ℕ) → 0 < p → a ≤ a * p
product_low a p h = subst (λ (n : ℕ). n ≤ a * p) (mul-one a) (mul-le-mul_left a h)
