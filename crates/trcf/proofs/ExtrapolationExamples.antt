-- Computed examples of `invert_extrapolation`: a short last block is dropped, times cascade from the last one, tails stay; and the rows. Assumes nothing.
use Prim.Native.Nat.{ℕ}
use mathlib.Core.Path.{◌≡◌, refl}
use mathlib.Core.List.{[], ◌∷◌}
use lib.ListN.{replicate}
use lib.IntN.{pos}
use lib.Ieee.{Float, binary32, binary64, add, sub, mul, div, lt, le, eq, of_int, of_bits}
use Rattle.numeric.specs.Narrow.{narrowed}
use Rattle.refusal.specs.Lent.{over}
use Rattle.common.specs.Deviation.{zero64, is_empty, mean_of}
use Rattle.ranges.specs.RangeVector.{ranges, unblocked, range_at, put_at, shifted, scaled, settled, cascade_to}
use Rattle.trcf.specs.Lists.{last_n}
use Rattle.trcf.specs.Transformer.{one32, statistic_at, normalized_scale, basic_shift, basic_drift, weight_at, reciprocal, forecast_at, forecast_to, inverted_forecast}
use Rattle.trcf.specs.Settings.{block, dimension, waiting}
use Rattle.trcf.specs.Calls.{Forecast, lookahead, forecast_unfit, forecast_output_short}
use Rattle.trcf.specs.Preprocessor.{timescale, timedrift, invert_time, previous, numbers_of, times_of, turned_back}
use Rattle.trcf.specs.View.{counting, head_from, view, counters_unfit, head_row}
use Rattle.trcf.specs.Extrapolation.{Extrapolation, extrapolation, forecast, viewed, read_short, read_short_row, row_at, extrapolation_row, extrapolation_of}
use Rattle.trcf.specs.declared.head.Preprocessor.{Preprocessor}
use Rattle.trcf.specs.declared.types.TransformMethod.{TransformMethod}
use Rattle.trcf.specs.declared.types.TransformMethod.TheVariants.{NONE, DIFFERENCE}
use Rattle.trcf.specs.declared.types.ForestMode.{ForestMode}
use Rattle.trcf.specs.declared.types.ForestMode.TheVariants.{STANDARD, TIME_AUGMENTED}

-- the definitions, opened
all : Unit {0}
unfolding extrapolation_of extrapolation_row row_at viewed view read_short read_short_row counters_unfit waiting head_row forecast_unfit forecast_output_short lookahead dimension block
    unblocked over
    turned_back numbers_of times_of previous last_n timescale timedrift invert_time statistic_at mean_of is_empty narrowed normalized_scale basic_shift basic_drift weight_at reciprocal
    forecast_at forecast_to inverted_forecast range_at put_at shifted scaled settled cascade_to add sub mul div lt le eq of_int of_bits
all = tt

-- one channel
abbrev head : ForestMode → TransformMethod → Preprocessor
head mode method =
    head_from
    (record { mode = mode; method = method; d = 1; k = 1; start = 0; stop = 0; decay = zero64; weight_time = one32; weights = one32 ∷ []; codes = 0 ∷ [] })

-- nothing learned but the last input 10 and the last time 10
abbrev turned_by : Preprocessor → Forecast → Extrapolation
turned_by h = extrapolation_of h (replicate 30 zero64) (of_int binary32 (pos 10) ∷ []) (10 ∷ [])

abbrev turned_of : ForestMode → TransformMethod → Forecast → Extrapolation
turned_of mode method = turned_by (head mode method)

abbrev single : ℕ → Float
single n = of_int binary32 (pos n)

abbrev double : ℕ → Float
double n = of_int binary64 (pos n)

abbrev none : Forecast
none = forecast (ranges [] [] []) (ranges [] [] []) (ranges [] [] [])

-- in place, each value onto the one before: 10 and 1, 2, 3
cascades : turned_of STANDARD DIFFERENCE
    (forecast (ranges (single 1 ∷ single 2 ∷ single 3 ∷ []) (single 1 ∷ single 2 ∷ single 4 ∷ []) (single 1 ∷ single 1 ∷ single 3 ∷ [])) (ranges [] [] []) (ranges [] [] []))
    ≡ extrapolation 0
    (forecast (ranges (single 11 ∷ single 13 ∷ single 16 ∷ []) (single 11 ∷ single 13 ∷ single 17 ∷ []) (single 11 ∷ single 12 ∷ single 16 ∷ [])) (ranges [] [] []) (ranges [] [] []))
unfolding all
cascades = refl

-- blocks of a number and a time; the fifth number is a broken block; the third place of each output keeps its 9
augmented : turned_of TIME_AUGMENTED NONE
    (forecast (ranges (single 7 ∷ single 1 ∷ single 8 ∷ single 2 ∷ single 5 ∷ []) (single 7 ∷ single 0 ∷ single 8 ∷ single 2 ∷ single 5 ∷ [])
    (single 7 ∷ single 1 ∷ single 8 ∷ single 3 ∷ single 5 ∷ []))
    (ranges (replicate 3 (single 9)) (replicate 3 (single 9)) (replicate 3 (single 9))) (ranges (replicate 3 (double 9)) (replicate 3 (double 9)) (replicate 3 (double 9))))
    ≡ extrapolation 0
    (forecast (ranges (single 7 ∷ single 1 ∷ single 8 ∷ single 2 ∷ single 5 ∷ []) (single 7 ∷ single 0 ∷ single 8 ∷ single 2 ∷ single 5 ∷ [])
    (single 7 ∷ single 1 ∷ single 8 ∷ single 3 ∷ single 5 ∷ []))
    (ranges (single 7 ∷ single 8 ∷ single 9 ∷ []) (single 7 ∷ single 8 ∷ single 9 ∷ []) (single 7 ∷ single 8 ∷ single 9 ∷ []))
    (ranges (double 11 ∷ double 13 ∷ double 9 ∷ []) (double 11 ∷ double 13 ∷ double 9 ∷ []) (double 11 ∷ double 13 ∷ double 9 ∷ [])))
unfolding all
augmented = refl

-- document 01's example of row 16: DIFFERENCE, empty
empty_refused : turned_of STANDARD DIFFERENCE none ≡ extrapolation 16 none
unfolding all
empty_refused = refl

-- under one block
under_a_block : turned_of TIME_AUGMENTED NONE none ≡ extrapolation 16 none
unfolding all
under_a_block = refl

-- no room for the answer
no_room : turned_of TIME_AUGMENTED NONE (forecast (ranges (single 7 ∷ single 1 ∷ []) (single 7 ∷ single 1 ∷ []) (single 7 ∷ single 1 ∷ [])) (ranges [] [] []) (ranges [] [] []))
    ≡ extrapolation 20 (forecast (ranges (single 7 ∷ single 1 ∷ []) (single 7 ∷ single 1 ∷ []) (single 7 ∷ single 1 ∷ [])) (ranges [] [] []) (ranges [] [] []))
unfolding all
no_room = refl

-- a reading that waits under a method that never waits
abbrev misfitted : Forecast → Extrapolation
misfitted = turned_by (counting (head STANDARD DIFFERENCE) 0 0 0 1)

abbrev one_value : Forecast
one_value = forecast (ranges (single 1 ∷ []) (single 1 ∷ []) (single 1 ∷ [])) (ranges [] [] []) (ranges [] [] [])

counters_refused : misfitted one_value ≡ extrapolation 20 one_value
unfolding all
counters_refused = refl

-- as in every call, its own rows come first
row_16_first : misfitted none ≡ extrapolation 16 none
unfolding all
row_16_first = refl
