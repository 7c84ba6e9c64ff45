-- `bits::bits::with_bit` meets its contract: the word with the bit written is a word.
-- Assumes nothing.
use native.Mathlib.Omega.{arith}
use Prim.Native.Nat.{◌+◌, ◌*◌, ◌/◌, ◌%◌, ◌^◌, ◌<◌}
use Rattle.bits.proofs.Bits.{positive, weighed, product_low}
use Rattle.bits.proofs.with_bit.Goals as goal

-- the weight is positive, and the word with the bit written fits
nonzero : (c : goal.After-weight-p) → 0 < c.weight-p.result
nonzero c = positive _ _ c.weight-p.ensures

bound : (c : goal.After-weight-p)
    → (c.args.word / c.weight-p.result / 2 * 2 + c.args.value) * c.weight-p.result + c.args.word % c.weight-p.result < 2 ^ 32
bound c = weighed _ _ _ _ c.weight-p.ensures c.ranges.word.fits c.requires.0 c.requires.1

pub overflow_add-result : goal.overflow_add-result
overflow_add-result c = omega (arith, bound c, product_low (c.args.word / c.weight-p.result / 2 * 2 + c.args.value) c.weight-p.result (nonzero c))

pub overflow_mul-result : goal.overflow_mul-result
overflow_mul-result c = omega (arith, overflow_add-result c)

pub overflow_mul-result-2 : goal.overflow_mul-result-2
overflow_mul-result-2 c = omega (arith, bound c)

pub overflow_add-result-2 : goal.overflow_add-result-2
overflow_add-result-2 c = record { fits = bound c }

pub returns : goal.returns
returns c = rw c.weight-p.ensures

pub nonzero_div-result : goal.nonzero_div-result
nonzero_div-result c = nonzero c

pub nonzero_rem-result : goal.nonzero_rem-result
nonzero_rem-result c = nonzero c
