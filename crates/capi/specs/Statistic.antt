-- One reading of a list's statistic put right (request #111), at C's border: the new weight, sum and sum of squares in lent memory. Discount and count do
-- not change.
use Rattle.std.specs.Prelude.{ℕ, cond, List, [], ◌∷◌, ltb, length, Float, Result, Ok, Err}
use Rattle.refusal.specs.Lent.{over}
use Rattle.common.specs.Corrected.{corrected_of}
use Rattle.common.specs.declared.deviation.Deviation.{Deviation}

pub record StatisticGot : Type 0 where
  pub row : ℕ
  pub out : List Float

abbrev pub statistic_got : ℕ → List Float → StatisticGot
statistic_got n out = record { row = n; out = out }

-- row 20 where the lent memory is shorter than the three numbers
unfoldable pub statistic_told : Deviation → List Float → StatisticGot
statistic_told s out =
    cond (ltb (length out) 3) (statistic_got 20 out) (statistic_got 0 (over out (s.weight ∷ s.sum ∷ s.sum_squared ∷ [])))

-- a refusal leaves it as it was
abbrev pub result_told : Result Deviation ℕ → List Float → StatisticGot
result_told (Ok s) out = statistic_told s out
result_told (Err n) out = statistic_got n out

unfoldable pub corrected_at : Deviation → Float → Float → List Float → StatisticGot
corrected_at s wrong right out = result_told (corrected_of s wrong right) out
