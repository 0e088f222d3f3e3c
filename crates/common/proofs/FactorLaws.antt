-- The factor up to the limit of the count is the written one: count + 2, at most 2 ^ 53, is exact as an f64. Assumes nothing.
use Rattle.std.proofs.Common.{◌≡◌, ℕ, ◌+◌, ◌≤◌, false, pos, refl, arith}
use lib.Ieee.{binary64, round, div, of_int, of_bits}
use lib.Ieee.Exact.{HasValue}
use Rattle.common.specs.Deviation.{one64, count_limit, factor_of}
use Rattle.common.specs.FactorRule.{CountIsExact, written_factor, FactorIsWritten}
use Rattle.common.proofs.WholeFloats.{whole_value}
use Rattle.common.proofs.RoundOrder.{div_value}

pub count_is_exact : CountIsExact
count_is_exact n h = whole_value binary64 (pos (n + 2)) (omega arith)

one_value : HasValue one64 false 1 1
unfolding of_bits
one_value = (refl, refl)

-- the quotient of the floats is the fraction of the numbers, rounded once
reciprocal : (n : ℕ) → n ≤ count_limit → div binary64 one64 (of_int binary64 (pos (n + 2))) ≡ round binary64 false 1 (n + 2)
reciprocal n h = div_value binary64 one64 (of_int binary64 (pos (n + 2))) false false 1 (n + 2) (omega arith) one_value (count_is_exact n h)

pub factor_is_written : FactorIsWritten
unfolding factor_of written_factor
factor_is_written d n h = rw (reciprocal n h)
