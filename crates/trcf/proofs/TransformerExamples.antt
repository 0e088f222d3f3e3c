-- Worked examples of the transform, by computation. Assumes nothing.
use Prim.Native.Nat.{ℕ}
use mathlib.Core.Path.{◌≡◌, refl}
use mathlib.Core.List.{List, [], ◌∷◌}
use lib.IntN.{pos}
use lib.ListN.{replicate}
use lib.Ieee.{Float, binary32, binary64, add, sub, mul, div, lt, le, eq, of_int, of_bits}
use Rattle.numeric.specs.Narrow.{narrowed}
use Rattle.numeric.specs.Root.{root_of}
use Rattle.refusal.specs.Lent.{over}
use Rattle.common.specs.Deviation.{zero64, outside_unit, is_empty, factor_of, step_of, mean_of, deviation_of, root_above}
use Rattle.ranges.specs.RangeVector.{ranges, RangeOutcome, range_outcome, unblocked, range_at, put_at, shifted, scaled, settled, cascade_to}
use Rattle.trcf.specs.Settings.{all_one}
use Rattle.trcf.specs.Transformer.{zero32, one32, statistic_at, put_statistic, deviations_at, put_deviations, fed, fed_at, channels_fed, updated}
use Rattle.trcf.specs.Transformer.{normalized_scale, basic_shift, basic_drift, weight_at, transformed, unweighted, inverted, reciprocal, forecast_at, forecast_to}
use Rattle.trcf.specs.Transformer.{inverted_forecast, scales, shifts, difference_deviations}
use Rattle.trcf.specs.TransformerCalls.{Made, TransformerOutput, transformer_output, transformer_head, not_long, new_row, update_row, transform_row, output_row, forecast_row}
use Rattle.trcf.specs.TransformerCalls.{transformer_new, transformer_update, transformer_transform, transformer_invert, transformer_invert_forecast, transformer_scale, transformer_shift}
use Rattle.trcf.specs.TransformerCalls.{transformer_difference_deviations}
use Rattle.trcf.specs.declared.types.TransformMethod.{TransformMethod}
use Rattle.trcf.specs.declared.types.TransformMethod.TheVariants.{NONE, WEIGHTED, DIFFERENCE, NORMALIZE}
use Rattle.trcf.specs.declared.transformer.WeightedTransformer.{WeightedTransformer}

unfoldable pub single : ℕ → Float
single n = of_int binary32 (pos n)

-- 1.5
abbrev pub one_and_half : Float
one_and_half = of_bits binary32 0x3fc0_0000

-- one channel of the weight 2
unfoldable pub head : TransformMethod → WeightedTransformer
head m = transformer_head m 1 zero64 (over (replicate 16 zero32) (single 2 ∷ [])) 0

-- no reading fed
abbrev pub empty : List Float
empty = replicate 15 zero64

-- WEIGHTED 2: 3 becomes 6, and `invert` divides 6 twice. A lent list keeps what lies past the answer. Then a refusal by each row: 2, 4, 10, 20.
unfoldable pub given : List TransformerOutput
given =
    transformer_transform (head WEIGHTED) empty (single 3 ∷ []) (single 0 ∷ []) (single 7 ∷ single 8 ∷ [])
    ∷ transformer_invert (head WEIGHTED) empty (single 6 ∷ []) (single 0 ∷ []) (single 7 ∷ single 8 ∷ [])
    ∷ transformer_transform (head DIFFERENCE) empty (single 9 ∷ []) (single 5 ∷ []) (single 7 ∷ [])
    ∷ transformer_scale (head NORMALIZE) empty (single 7 ∷ [])
    ∷ transformer_shift (head NORMALIZE) empty (single 7 ∷ [])
    ∷ transformer_difference_deviations (head NORMALIZE) empty (single 7 ∷ [])
    ∷ transformer_transform (transformer_head NONE 0 zero64 [] 0) empty [] [] []
    ∷ transformer_transform (transformer_head NONE 17 zero64 [] 0) empty [] [] []
    ∷ transformer_transform (head WEIGHTED) empty (single 3 ∷ []) [] (single 7 ∷ [])
    ∷ transformer_transform (head WEIGHTED) empty (single 3 ∷ []) (single 0 ∷ []) []
    ∷ transformer_scale (head WEIGHTED) (replicate 14 zero64) (single 7 ∷ [])
    ∷ []

unfoldable pub expected : List TransformerOutput
expected =
    transformer_output 0 (single 6 ∷ single 8 ∷ [])
    ∷ transformer_output 0 (one_and_half ∷ single 8 ∷ [])
    ∷ transformer_output 0 (single 4 ∷ [])
    ∷ transformer_output 0 (single 2 ∷ [])
    ∷ transformer_output 0 (single 0 ∷ [])
    ∷ transformer_output 0 (single 0 ∷ [])
    ∷ transformer_output 2 []
    ∷ transformer_output 4 []
    ∷ transformer_output 10 (single 7 ∷ [])
    ∷ transformer_output 20 []
    ∷ transformer_output 20 (single 7 ∷ [])
    ∷ []

pub samples : given ≡ expected
unfolding single head given expected transformer_transform transformer_invert transformer_scale transformer_shift transformer_difference_deviations
    transform_row output_row not_long over transformed inverted scales shifts difference_deviations weight_at unweighted normalized_scale basic_shift
    statistic_at is_empty mean_of narrowed add sub mul div lt le eq of_int of_bits
samples = refl

-- ---- feeding and the forecast

abbrev pub row_of : Made → ℕ
row_of m = m.row

abbrev pub left : Made → List Float
left m = m.statistics

unfoldable pub double : ℕ → Float
double n = of_int binary64 (pos n)

-- 4 after 1 is fed: value 4, difference 3, and nothing but zeros for the deviations; the mean of the difference is 3
unfoldable pub fed_once : List Float
fed_once = left (transformer_update (head DIFFERENCE) empty (single 4 ∷ []) (single 1 ∷ []))

pub feeding : fed_once
    ≡ (double 1 ∷ double 4 ∷ double 16 ∷ double 1 ∷ double 3 ∷ double 9 ∷ double 1 ∷ zero64 ∷ zero64 ∷ double 1 ∷ double 3 ∷ double 9 ∷ double 1 ∷ zero64 ∷ zero64 ∷ [])
unfolding single double head fed_once transformer_update update_row not_long over updated channels_fed fed_at put_deviations put_statistic fed deviations_at
    statistic_at factor_of step_of mean_of deviation_of root_above root_of is_empty add sub mul div lt le eq of_int of_bits
feeding = refl

-- the drift is then 3: block i is shifted by i × 3 under NONE too,
unfoldable pub forecasts : List RangeOutcome
forecasts =
    let v = single 1 ∷ single 1 ∷ single 1 ∷ [] in
    transformer_invert_forecast (transformer_head NONE 1 zero64 (over (replicate 16 zero32) (one32 ∷ [])) 1) fed_once (single 5 ∷ []) (ranges v v v)
    ∷ transformer_invert_forecast (transformer_head DIFFERENCE 1 zero64 (over (replicate 16 zero32) (one32 ∷ [])) 1) empty (single 10 ∷ []) (ranges v v v)
    ∷ transformer_invert_forecast (head DIFFERENCE) empty (single 10 ∷ []) (ranges [] [] [])
    ∷ transformer_invert_forecast (head WEIGHTED) empty (single 10 ∷ []) (ranges v v [])
    ∷ []

unfoldable pub inverses : List RangeOutcome
inverses =
    let v = single 1 ∷ single 1 ∷ single 1 ∷ [] in
    let w = single 1 ∷ single 4 ∷ single 7 ∷ [] in
    let z = single 11 ∷ single 12 ∷ single 13 ∷ [] in
    range_outcome 0 (ranges w w w) ∷ range_outcome 0 (ranges z z z) ∷ range_outcome 16 (ranges [] [] []) ∷ range_outcome 16 (ranges v v []) ∷ []

pub forecast_samples : forecasts ≡ inverses
unfolding forecasts inverses single double head fed_once transformer_invert_forecast forecast_row unblocked inverted_forecast forecast_to forecast_at reciprocal
    weight_at normalized_scale basic_drift basic_shift cascade_to range_at put_at shifted scaled settled narrowed transformer_update update_row not_long over
    updated channels_fed fed_at put_deviations put_statistic fed deviations_at statistic_at factor_of step_of mean_of deviation_of root_above root_of is_empty
    add sub mul div lt le eq of_int of_bits
forecast_samples = refl

-- ---- the rows of `new` and `update`

unfoldable pub rows : List ℕ
rows =
    row_of (transformer_new NONE 0 zero64 [] empty)
    ∷ row_of (transformer_new NONE 17 zero64 [] empty)
    ∷ row_of (transformer_new NONE 2 zero64 (one32 ∷ []) empty)
    ∷ row_of (transformer_new NONE 1 (double 1) (one32 ∷ []) empty)
    ∷ row_of (transformer_new NONE 1 zero64 (single 2 ∷ []) empty)
    ∷ row_of (transformer_new WEIGHTED 1 zero64 (single 2 ∷ []) (replicate 14 zero64))
    ∷ row_of (transformer_new WEIGHTED 1 zero64 (single 2 ∷ []) empty)
    ∷ row_of (transformer_update (transformer_head NONE 1 zero64 (replicate 16 one32) 2147483646) empty (single 1 ∷ []) (single 1 ∷ []))
    ∷ row_of (transformer_update (transformer_head NONE 1 zero64 (replicate 16 one32) 9007199254740989) empty (single 1 ∷ []) (single 1 ∷ []))
    ∷ row_of (transformer_update (transformer_head NONE 1 zero64 (replicate 16 one32) 9007199254740990) empty (single 1 ∷ []) (single 1 ∷ []))
    ∷ row_of (transformer_update (transformer_head NONE 1 zero64 (replicate 16 one32) 0) empty [] (single 1 ∷ []))
    ∷ []

pub row_samples : rows ≡ (2 ∷ 4 ∷ 5 ∷ 6 ∷ 9 ∷ 20 ∷ 0 ∷ 0 ∷ 0 ∷ 18 ∷ 10 ∷ [])
unfolding rows single double transformer_new new_row outside_unit all_one transformer_update update_row not_long over updated channels_fed fed_at put_deviations
    put_statistic fed deviations_at statistic_at factor_of step_of mean_of deviation_of root_above root_of is_empty add sub mul div lt le eq of_int of_bits
row_samples = refl
