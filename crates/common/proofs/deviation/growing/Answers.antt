-- `common::deviation::growing` meets its contract: the table's entry or the formula, each of which is `growing_at`. Assumes nothing.
use Rattle.std.proofs.Common.{ℕ, ◌^◌, ◌≤◌, T, pos, refl, arith, le→leb}
use lib.Ieee.{binary64, in_float}
use Rattle.factors.specs.Factors.{growing_at}
use Rattle.common.proofs.deviation.growing.Goals as goal

-- every whole number up to 2 ^ 53 is an f64
counts : (n : ℕ) → n ≤ 2 ^ 53 → T (in_float binary64 (pos n))
unfolding in_float
counts n h = le→leb n (2 ^ 53) h

pub int_to_float-result : goal.int_to_float-result
int_to_float-result c = counts _ (omega arith)

pub returns : goal.returns
unfolding growing_at
returns c = refl
