-- Request #107 by computation: a broken last block of STANDARD stays crossed, so the statement has to ask for whole blocks; and instances of the theorem. Assumes nothing.
use Prim.Native.Nat.{ℕ}
use mathlib.Core.Path.{◌≡◌, refl}
use native.Mathlib.Omega.{arith}
use mathlib.Core.Bool.{true}
use mathlib.Core.List.{[], ◌∷◌}
use lib.ListN.{get_or}
use lib.IntN.{pos}
use lib.Ieee.{Float, nan, binary32, binary64, add, sub, mul, div, lt, le, eq, of_int, of_bits}
use Rattle.numeric.specs.Narrow.{narrowed}
use Rattle.refusal.specs.Lent.{over}
use Rattle.common.specs.Deviation.{zero64, is_empty, mean_of, outside_unit}
use Rattle.ranges.specs.RangeVector.{Ranges, ranges, unequal, unblocked, shorter, range_at, put_at, shifted, scaled, settled, cascade_to}
use Rattle.trcf.specs.Lists.{last_n}
use Rattle.trcf.specs.Transformer.{one32, statistic_at, normalized_scale, basic_shift, basic_drift, weight_at, reciprocal, forecast_at, forecast_to, inverted_forecast}
use Rattle.trcf.specs.Settings.{Settings, block, dimension, settings_row, all_one}
use Rattle.trcf.specs.Calls.{Forecast, lookahead, forecast_unfit, forecast_output_short, table, rows}
use Rattle.trcf.specs.Preprocessor.{fresh, facts, timescale, timedrift, invert_time, previous, numbers_of, times_of, turned_back, refusal, reply, answer}
use Rattle.trcf.specs.Extrapolation.{forecast}
use Rattle.trcf.specs.declared.types.TransformMethod.{TransformMethod}
use Rattle.trcf.specs.declared.types.TransformMethod.TheVariants.{NONE, WEIGHTED}
use Rattle.trcf.specs.declared.types.ForestMode.{ForestMode}
use Rattle.trcf.specs.declared.types.ForestMode.TheVariants.{STANDARD, TIME_AUGMENTED, GAP_AUGMENTED}
use Rattle.band.specs.Band.{Turns, UprightBand, SameValues, SameUppers}
use Rattle.band.proofs.Upright.{band}

-- the definitions, opened
all : Unit {0}
unfolding answer refusal reply facts rows table forecast_unfit forecast_output_short lookahead dimension block unequal unblocked shorter over fresh
    turned_back numbers_of times_of previous last_n timescale timedrift invert_time statistic_at mean_of is_empty narrowed normalized_scale basic_shift basic_drift weight_at reciprocal
    forecast_at forecast_to inverted_forecast range_at put_at shifted scaled settled cascade_to add sub mul div lt le eq of_int of_bits
all = tt

abbrev single : ℕ → Float
single n = of_int binary32 (pos n)

abbrev double : ℕ → Float
double n = of_int binary64 (pos n)

abbrev empty : Ranges
empty = ranges [] [] []

-- d = 2, k = 1
abbrev two : ForestMode → TransformMethod → Float → Settings
two mode method x =
    record { mode = mode; method = method; d = 2; k = 1; start = 0; stop = 0; decay = zero64; weight_time = one32; weights = x ∷ x ∷ []; codes = 0 ∷ 0 ∷ [] }

-- ---- a broken tail

-- three numbers where a block has two: the third is crossed, and stays so
abbrev crossed : Forecast
crossed = forecast (ranges (single 1 ∷ single 2 ∷ single 5 ∷ []) (single 0 ∷ single 2 ∷ single 4 ∷ []) (single 1 ∷ single 3 ∷ single 6 ∷ [])) empty empty

abbrev left : Forecast
left = forecast (ranges (single 1 ∷ single 2 ∷ single 5 ∷ []) (single 1 ∷ single 2 ∷ single 4 ∷ []) (single 1 ∷ single 2 ∷ single 6 ∷ [])) empty empty

settings_stand : settings_row (two STANDARD NONE one32) ≡ 0
unfolding all settings_row outside_unit all_one
settings_stand = refl

pub broken_tail : Turns (fresh (two STANDARD NONE one32)) crossed left
unfolding all
broken_tail = refl

pub tail_upper_below : lt (get_or left.forecast.upper 2 nan) (get_or left.forecast.values 2 nan) ≡ true
unfolding all
tail_upper_below = refl

pub tail_lower_above : lt (get_or left.forecast.values 2 nan) (get_or left.forecast.lower 2 nan) ≡ true
unfolding all
tail_lower_above = refl

-- ---- instances of the theorem, so that its premises can be met

abbrev minus : Float
minus = of_bits binary32 0xbf80_0000

-- weight −1 turns the band over, and it is put right; a not-a-number stays one
abbrev over_turned : Forecast
over_turned = forecast (ranges (single 2 ∷ single 2 ∷ []) (single 3 ∷ nan ∷ []) (single 1 ∷ single 1 ∷ [])) empty empty

abbrev put_right : Forecast
put_right =
    let m = of_bits binary32 0xc000_0000 in
    forecast (ranges (m ∷ m ∷ []) (m ∷ nan ∷ []) (m ∷ m ∷ [])) empty empty

negative_turns : Turns (fresh (two STANDARD WEIGHTED minus)) over_turned put_right
unfolding all
negative_turns = refl

pub negative_upright : UprightBand (two STANDARD WEIGHTED minus) over_turned put_right
unfolding fresh
negative_upright = band.upright (fresh (two STANDARD WEIGHTED minus)) over_turned put_right negative_turns (λ e. refl)

-- numbers and times: a block of two numbers and a time, crossed, and a short block after it
abbrev block_crossed : Forecast
block_crossed =
    forecast (ranges (single 1 ∷ single 2 ∷ single 3 ∷ single 9 ∷ []) (single 0 ∷ single 2 ∷ single 2 ∷ single 8 ∷ []) (single 1 ∷ single 3 ∷ single 4 ∷ single 9 ∷ []))
    (ranges (single 9 ∷ single 9 ∷ []) (single 9 ∷ single 9 ∷ []) (single 9 ∷ single 9 ∷ []))
    (ranges (double 9 ∷ double 8 ∷ []) (double 9 ∷ double 7 ∷ []) (double 9 ∷ double 9 ∷ []))

abbrev block_left : Forecast
block_left =
    forecast block_crossed.forecast (ranges (single 1 ∷ single 2 ∷ []) (single 1 ∷ single 2 ∷ []) (single 1 ∷ single 2 ∷ []))
    (ranges (double 3 ∷ double 8 ∷ []) (double 3 ∷ double 7 ∷ []) (double 3 ∷ double 9 ∷ []))

block_turns : Turns (fresh (two TIME_AUGMENTED NONE one32)) block_crossed block_left
unfolding all
block_turns = refl

pub block_upright : UprightBand (two TIME_AUGMENTED NONE one32) block_crossed block_left
unfolding fresh
block_upright =
    band.upright (fresh (two TIME_AUGMENTED NONE one32)) block_crossed block_left block_turns
    (λ e. absurd (let z : ◌≡◌ {A = ℕ} 0 1 = cc in omega arith))

-- gaps: with nothing fed the drift is 0, so the same is left
gap_turns : Turns (fresh (two GAP_AUGMENTED NONE one32)) block_crossed block_left
unfolding all
gap_turns = refl

pub gap_upright : UprightBand (two GAP_AUGMENTED NONE one32) block_crossed block_left
unfolding fresh
gap_upright =
    band.upright (fresh (two GAP_AUGMENTED NONE one32)) block_crossed block_left gap_turns
    (λ e. absurd (let z : ◌≡◌ {A = ℕ} 0 1 = cc in omega arith))

-- ---- two calls that differ in their bounds alone: the same values; in their lowers alone: the same uppers

abbrev wider : Forecast
wider = forecast (ranges (single 2 ∷ single 2 ∷ []) (single 5 ∷ single 5 ∷ []) (single 0 ∷ single 0 ∷ [])) empty empty

abbrev lowered : Forecast
lowered = forecast (ranges (single 2 ∷ single 2 ∷ []) (single 5 ∷ single 5 ∷ []) (single 1 ∷ nan ∷ [])) empty empty

abbrev wider_right : Forecast
wider_right =
    let m = of_bits binary32 0xc000_0000 in
    forecast (ranges (m ∷ m ∷ []) (m ∷ m ∷ []) (m ∷ m ∷ [])) empty empty

abbrev lowered_right : Forecast
lowered_right =
    let m = of_bits binary32 0xc000_0000 in
    forecast (ranges (m ∷ m ∷ []) (m ∷ m ∷ []) (m ∷ nan ∷ [])) empty empty

wider_turns : Turns (fresh (two STANDARD WEIGHTED minus)) wider wider_right
unfolding all
wider_turns = refl

lowered_turns : Turns (fresh (two STANDARD WEIGHTED minus)) lowered lowered_right
unfolding all
lowered_turns = refl

pub same_values : SameValues (two STANDARD WEIGHTED minus) over_turned put_right wider wider_right
unfolding fresh
same_values = band.values (fresh (two STANDARD WEIGHTED minus)) over_turned wider put_right wider_right negative_turns wider_turns refl

pub same_uppers : SameUppers (two STANDARD WEIGHTED minus) wider wider_right lowered lowered_right
unfolding fresh
same_uppers = band.uppers (fresh (two STANDARD WEIGHTED minus)) wider lowered wider_right lowered_right wider_turns lowered_turns refl refl
