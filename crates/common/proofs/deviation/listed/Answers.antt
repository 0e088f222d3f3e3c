-- `common::deviation::listed` meets its contract: the table's entry is the number's bits (`listed_float`). Assumes nothing.
use Rattle.std.proofs.Common.{◌≡◌, ℕ, ◌<◌, not, T, sym, ap, ◌∙◌, subst}
use lib.Ieee.{binary64, of_bits, nan_bits}
use Rattle.factors.specs.Factors.{table_length, growing_at, listed_of}
use Rattle.factors.proofs.Entries.{listed_float, listed_number}
use Rattle.common.proofs.deviation.listed.Goals as goal

number : (x n : ℕ) → x ≡ listed_of n → n < table_length → T (not (nan_bits binary64 x))
number x n e h = subst (λ (y : ℕ). T (not (nan_bits binary64 y))) (sym e) (listed_number n h)

float : (x n : ℕ) → x ≡ listed_of n → n < table_length → of_bits binary64 x ≡ growing_at n
float x n e h = ap (λ (y : ℕ). of_bits binary64 y) e ∙ listed_float n h

pub float_from_bits-result : goal.float_from_bits-result
float_from_bits-result c = number _ _ c.listed.ensures c.requires

pub returns : goal.returns
returns c = float _ _ c.listed.ensures c.requires
