-- The transform of a reading, channel by channel: document 01, 'transformer.rs', in the source's order of operations.
use Rattle.std.specs.Prelude.{ℕ, zero, suc, ◌+◌, ◌*◌, ◌/◌, ◌%◌, Bool, cond, not, List, pos, length, get_or, set, Float}
use Rattle.std.specs.Float.{nan, binary32, binary64}
use Rattle.std.specs.Float.Ieee.{add, sub, mul, div, eq, of_int, of_bits}
use Rattle.numeric.specs.Narrow.{narrowed}
use Rattle.common.specs.declared.deviation.Deviation.{Deviation}
use Rattle.common.specs.Deviation.{zero64, one64, statistic, step_of, mean_of, deviation_of}
use Rattle.ranges.specs.RangeVector.{Range, Ranges, shifted, scaled, range_at, put_at, cascade_to}
use Rattle.trcf.specs.Lists.{tabulate}
use Rattle.trcf.specs.Types.{is_none, normalizes, differences, centres}
use Rattle.trcf.specs.declared.types.TransformMethod.{TransformMethod}
use Rattle.trcf.specs.declared.types.TransformMethod.TheVariants.{NONE, WEIGHTED, DIFFERENCE, SUBTRACT_MA, NORMALIZE, NORMALIZE_DIFFERENCE}
use Rattle.trcf.specs.declared.statistics.Deviations.{Deviations}

abbrev pub zero32 : Float
zero32 = of_bits binary32 0

abbrev pub one32 : Float
one32 = of_bits binary32 0x3f80_0000

abbrev pub tenth : Float
tenth = of_bits binary64 0x3fb9_9999_9999_999a

-- What a transform reads: the settings, and the statistics in the order of the `dev` lines, three numbers each (weight, sum, squares):
-- "5d lines, first statistic of each channel, then second and so on". All have been fed `count` readings.
pub record Transformer : Type 0 where
  pub method : TransformMethod
  pub d : ℕ
  pub decay : Float
  pub weights : List Float
  pub count : ℕ
  pub statistics : List Float

-- "The last three use 0.1 × decay."
abbrev pub slow_decay : Float → Float
slow_decay decay = mul binary64 tenth decay

-- ---- a statistic in the list, by its place

unfoldable pub statistic_at : List Float → ℕ → Float → ℕ → Deviation
statistic_at l n decay count = statistic decay (get_or l (3 * n) nan) (get_or l (3 * n + 1) nan) (get_or l (3 * n + 2) nan) count

unfoldable pub put_statistic : List Float → ℕ → Deviation → List Float
put_statistic l n s = set (set (set l (3 * n) s.weight) (3 * n + 1) s.sum) (3 * n + 2) s.sum_squared

-- mean and deviation look neither at the discount nor at the count
abbrev pub mean_at : List Float → ℕ → Float
mean_at l n = mean_of (statistic_at l n zero64 0)

abbrev pub deviation_at : List Float → ℕ → Float
deviation_at l n = deviation_of (statistic_at l n zero64 0)

-- ---- feeding

-- "Five statistics a channel: value; difference from the previous reading (f32 subtraction); deviation of the first; mean of the second; deviation of the second."
unfoldable pub fed : Deviations → Float → Float → Deviations
fed s x dx =
    let a = step_of s.value x in
    let b = step_of s.difference dx in
    record {
      value = a;
      difference = b;
      deviation = step_of s.deviation (deviation_of a);
      difference_mean = step_of s.difference_mean (mean_of b);
      difference_deviation = step_of s.difference_deviation (deviation_of b);
    }

-- the five at the places b, b + w, b + 2w and so on
unfoldable pub deviations_at : List Float → ℕ → ℕ → Float → ℕ → Deviations
deviations_at l b w decay count =
    record {
      value = statistic_at l b decay count;
      difference = statistic_at l (b + w) decay count;
      deviation = statistic_at l (b + 2 * w) (slow_decay decay) count;
      difference_mean = statistic_at l (b + 3 * w) (slow_decay decay) count;
      difference_deviation = statistic_at l (b + 4 * w) (slow_decay decay) count;
    }

unfoldable pub put_deviations : List Float → ℕ → ℕ → Deviations → List Float
put_deviations l b w s =
    put_statistic
    (put_statistic (put_statistic (put_statistic (put_statistic l b s.value) (b + w) s.difference) (b + 2 * w) s.deviation) (b + 3 * w)
    s.difference_mean) (b + 4 * w) s.difference_deviation

unfoldable pub fed_at : List Float → ℕ → ℕ → Float → ℕ → Float → Float → List Float
fed_at l b w decay count x dx = put_deviations l b w (fed (deviations_at l b w decay count) x dx)

-- the first n of d channels, one after the other
unfoldable pub channels_fed : ℕ → List Float → ℕ → Float → ℕ → List Float → List Float → List Float
channels_fed zero l d decay count x previous = l
channels_fed (suc n) l d decay count x previous =
    fed_at (channels_fed n l d decay count x previous) n d decay count (get_or x n nan) (sub binary32 (get_or x n nan) (get_or previous n nan))

-- the statistics after `update`
unfoldable pub updated : Transformer → List Float → List Float → List Float
updated t x previous = channels_fed t.d t.statistics t.d t.decay t.count x previous

-- ---- what the statistics of channel i say

unfoldable pub normalized_scale : Transformer → ℕ → Float
normalized_scale t i = narrowed (add binary64 (mean_at t.statistics (i + 2 * t.d)) one64)

unfoldable pub basic_shift : Transformer → ℕ → Float
basic_shift t i = narrowed (mean_at t.statistics i)

unfoldable pub basic_drift : Transformer → ℕ → Float
basic_drift t i = narrowed (mean_at t.statistics (i + 3 * t.d))

unfoldable pub weight_at : Transformer → ℕ → Float
weight_at t i = get_or t.weights i nan

-- ---- `transform` and `invert`

-- "Six methods as the Rust has them, in its order of operations."
abbrev pub transform_by : TransformMethod → Transformer → ℕ → Float → Float → Float
transform_by NONE t i x p = x
transform_by WEIGHTED t i x p = mul binary32 x (weight_at t i)
transform_by DIFFERENCE t i x p = sub binary32 x p
transform_by SUBTRACT_MA t i x p = sub binary32 x (basic_shift t i)
transform_by NORMALIZE t i x p = div binary32 (sub binary32 x (basic_shift t i)) (normalized_scale t i)
transform_by NORMALIZE_DIFFERENCE t i x p = div binary32 (sub binary32 x p) (normalized_scale t i)

unfoldable pub transformed : Transformer → List Float → List Float → List Float
transformed t x previous = tabulate t.d (λ i. transform_by t.method t i (get_or x i nan) (get_or previous i nan))

-- divided by the weight; by 0 it gives 0
unfoldable pub unweighted : Float → Float → Float
unweighted w x = cond (eq w zero32) zero32 (div binary32 x w)

abbrev pub invert_by : TransformMethod → Transformer → ℕ → Float → Float → Float
invert_by NONE t i x p = x
invert_by WEIGHTED t i x p = unweighted (weight_at t i) x
invert_by DIFFERENCE t i x p = add binary32 x p
invert_by SUBTRACT_MA t i x p = add binary32 x (basic_shift t i)
invert_by NORMALIZE t i x p = add binary32 (mul binary32 x (normalized_scale t i)) (basic_shift t i)
invert_by NORMALIZE_DIFFERENCE t i x p = add binary32 (mul binary32 x (normalized_scale t i)) p

-- "`invert` divides by weights first for every method, so twice for WEIGHTED"
unfoldable pub inverted : Transformer → List Float → List Float → List Float
inverted t x previous = tabulate t.d (λ i. invert_by t.method t i (unweighted (weight_at t i) (get_or x i nan)) (get_or previous i nan))

-- ---- `invert_forecast`

-- 1 / weight, 0 for weight 0
unfoldable pub reciprocal : Float → Float
reciprocal w = cond (eq w zero32) zero32 (div binary32 one32 w)

-- r scaled by x where b says so
abbrev pub scaled_if : Bool → Range → Float → Range
scaled_if b r x = cond b (scaled binary32 r x) r

abbrev pub shifted_if : Bool → Range → Float → Range
shifted_if b r x = cond b (shifted binary32 r x) r

-- what stands for channel j in block i: "forecast block i is shifted by i × drift even under NONE"
unfoldable pub forecast_at : Transformer → ℕ → ℕ → Range → Range
forecast_at t i j r =
    let a = scaled_if (not (is_none t.method)) r (reciprocal (weight_at t j)) in
    let b = scaled_if (normalizes t.method) a (normalized_scale t j) in
    let c = shifted binary32 b (mul binary32 (of_int binary32 (pos i)) (basic_drift t j)) in
    shifted_if (centres t.method) c (basic_shift t j)

-- the first n places, each on its own
unfoldable pub forecast_to : Transformer → ℕ → Ranges → Ranges
forecast_to t zero v = v
forecast_to t (suc n) v = let w = forecast_to t n v in put_at w n (forecast_at t (n / t.d) (n % t.d) (range_at w n))

-- "Under methods without differences a STANDARD tail beyond the last whole block is untouched."
unfoldable pub inverted_forecast : Transformer → List Float → Ranges → Ranges
inverted_forecast t previous v =
    let w = forecast_to t (length v.values / t.d * t.d) v in
    cond (differences t.method) (cascade_to binary32 previous (length v.values) w) w

-- ---- `scale`, `shift`, `difference_deviations`

unfoldable pub scales : Transformer → List Float
scales t = tabulate t.d (λ i. cond (normalizes t.method) (mul binary32 (weight_at t i) (normalized_scale t i)) (weight_at t i))

unfoldable pub shifts : Transformer → List Float
shifts t = tabulate t.d (λ i. cond (centres t.method) (add binary32 zero32 (basic_shift t i)) zero32)

unfoldable pub difference_deviations : Transformer → List Float
difference_deviations t = tabulate t.d (λ i. narrowed (mean_at t.statistics (i + 4 * t.d)))
