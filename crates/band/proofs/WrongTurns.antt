-- Request #107's three wrong turns, each as the parts of a turn-back that differs from trcf's in it alone, and what the statement says of each. Two of them keep the
-- band: bounds put in order before a shift and not after it (addition keeps order), and a scale without order (a shift follows every scale, and orders). The
-- third, a cascade by the uppers, makes the values depend on them. And what the first two leave undone together with no order at all crosses. Assumes nothing.
use Prim.Native.Nat.{ℕ}
use mathlib.Core.Path.{◌≡◌, refl, sym, ap, ◌∙◌}
use mathlib.Core.Bool.{Bool, true, false, cond, false≢true}
use mathlib.Core.List.{List, [], ◌∷◌}
use native.Mathlib.Omega.{arith}
use lib.ListN.{get_or}
use lib.IntN.{pos}
use lib.Ieee.{Float, nan, Format, binary32, add, sub, mul, div, lt, le, eq, of_int, of_bits, to_bits}
use Rattle.numeric.specs.Narrow.{narrowed}
use Rattle.common.specs.Deviation.{zero64, is_empty, mean_of, outside_unit}
use Rattle.ranges.specs.RangeVector.{Range, range, Ranges, ranges, settled, shifted, scaled, range_at, put_at, unequal, unblocked, shorter}
use Rattle.ranges.proofs.RangeLaws.{Ordered, settled_ordered}
use Rattle.trcf.specs.Lists.{last_n}
use Rattle.trcf.specs.Transformer.{one32, statistic_at, normalized_scale, basic_shift, basic_drift, weight_at, reciprocal}
use Rattle.trcf.specs.Settings.{Settings, transformer, block, dimension, settings_row, all_one}
use Rattle.trcf.specs.Calls.{invert_extrapolation, lookahead, forecast_unfit, forecast_output_short, table, rows}
use Rattle.trcf.specs.Preprocessor.{fresh, facts, refusal, previous}
use Rattle.trcf.specs.Extrapolation.{forecast}
use Rattle.trcf.specs.declared.types.TransformMethod.{TransformMethod}
use Rattle.trcf.specs.declared.types.TransformMethod.TheVariants.{WEIGHTED, DIFFERENCE}
use Rattle.trcf.specs.declared.types.ForestMode.TheVariants.{STANDARD}
use Rattle.band.proofs.AddOrder.{add_order}
use Rattle.band.proofs.Steps.{Parts, walk_to, forecast_at_by, inverted_by, Agree, BandBy, band_by, real_sound, scaled_agrees, shifted_agrees}

-- ---- "raising the upper before the last shift": before every shift, and not after it

abbrev pub raised_first : Format → Range → Float → Range
raised_first f r x =
    let q = settled r.value r.upper r.lower in
    range (add f q.value x) (add f q.upper x) (add f q.lower x)

abbrev pub raised_before : Parts
raised_before = record { scale = scaled binary32; shift = raised_first; bases = λ v. v.values }

raised_ordered : (f : Format) (r : Range) (x : Float) → Ordered (raised_first f r x)
unfolding settled
raised_ordered f r x =
    let o = settled_ordered r.value r.upper r.lower in
    record { upper_not_below = add_order f _ _ x o.upper_not_below; lower_not_above = add_order f _ _ x o.lower_not_above }

raised_agrees : (above : Bool) (f : Format) (r q : Range) (x : Float) → Agree above r q → Agree above (raised_first f r x) (raised_first f q x)
unfolding settled
raised_agrees above f r q x e = (ap (λ (v : Float). add f v x) e.0, λ a j. add f (cond (lt (e.1 a j) (e.0 j)) (e.0 j) (e.1 a j)) x)

-- no wrong program by the statement
pub raised_before_keeps : BandBy raised_before
raised_before_keeps =
    band_by raised_before (record { shift_orders = raised_ordered; scale_agrees = scaled_agrees; shift_agrees = raised_agrees; bases_agree = λ v w e. e })

-- ---- "a scale by a negative weight without reordering": every scale without order

abbrev pub unordered : Range → Float → Range
unordered r x = range (mul binary32 r.value x) (mul binary32 r.upper x) (mul binary32 r.lower x)

abbrev pub unordered_scale : Parts
unordered_scale = record { scale = unordered; shift = shifted; bases = λ v. v.values }

unordered_agrees : (above : Bool) (r q : Range) (x : Float) → Agree above r q → Agree above (unordered r x) (unordered q x)
unordered_agrees above r q x e = (ap (λ (v : Float). mul binary32 v x) e.0, λ a. ap (λ (u : Float). mul binary32 u x) (e.1 a))

-- no wrong program by the statement
pub unordered_scale_keeps : BandBy unordered_scale
unordered_scale_keeps =
    band_by unordered_scale
    (record { shift_orders = real_sound.shift_orders; scale_agrees = unordered_agrees; shift_agrees = shifted_agrees; bases_agree = λ v w e. e })

-- nor are the two together: the bounds are in order before the first shift
abbrev pub both_turns : Parts
both_turns = record { scale = unordered; shift = raised_first; bases = λ v. v.values }

pub both_keep : BandBy both_turns
both_keep =
    band_by both_turns (record { shift_orders = raised_ordered; scale_agrees = unordered_agrees; shift_agrees = raised_agrees; bases_agree = λ v w e. e })

-- ---- calls that are accepted, of settings that no row refuses: d 1, k 1

abbrev of : TransformMethod → Float → Settings
of method x =
    record { mode = STANDARD; method = method; d = 1; k = 1; start = 0; stop = 0; decay = zero64; weight_time = one32; weights = x ∷ []; codes = 0 ∷ [] }

abbrev empty : Ranges
empty = ranges [] [] []

abbrev single : ℕ → Float
single n = of_int binary32 (pos n)

abbrev minus : Float
minus = of_bits binary32 0xbf80_0000

-- the definitions, opened
all : Unit {0}
unfolding refusal facts rows table forecast_unfit forecast_output_short lookahead dimension block unequal unblocked shorter fresh previous last_n
    statistic_at mean_of is_empty narrowed normalized_scale basic_shift basic_drift weight_at reciprocal settings_row outside_unit all_one
    walk_to forecast_at_by inverted_by range_at put_at shifted scaled settled add sub mul div lt le eq of_int of_bits to_bits
all = tt

-- the numbers that a call on a fresh preprocessor leaves, by these parts
abbrev turned_by : Parts → Settings → Ranges → Ranges
turned_by p s v = inverted_by p (transformer s 0 (fresh s).statistics) (previous (fresh s)).value v

-- ---- "cascading values by the upper's base"

abbrev pub by_uppers : Parts
by_uppers = record { scale = scaled binary32; shift = shifted; bases = λ v. v.upper }

-- two forecasts of the values 1, 1 that differ in an upper
abbrev above : ℕ → Ranges
above u = ranges (single 1 ∷ single 1 ∷ []) (single u ∷ single 1 ∷ []) (single 1 ∷ single 1 ∷ [])

differences_stand : (settings_row (of DIFFERENCE one32) ≡ 0) × (refusal (fresh (of DIFFERENCE one32)) (invert_extrapolation (forecast (above 1) empty empty)) ≡ 0)
    × (refusal (fresh (of DIFFERENCE one32)) (invert_extrapolation (forecast (above 2) empty empty)) ≡ 0)
unfolding all
differences_stand = (refl, refl, refl)

abbrev second_bits : Ranges → ℕ
second_bits v = to_bits binary32 (get_or v.values 1 nan)

-- the value of the second is 1 + 1, or 1 + 2
value_by_1 : second_bits (turned_by by_uppers (of DIFFERENCE one32) (above 1)) ≡ 0x4000_0000
unfolding all
value_by_1 = refl

value_by_2 : second_bits (turned_by by_uppers (of DIFFERENCE one32) (above 2)) ≡ 0x4040_0000
unfolding all
value_by_2 = refl

-- the wrong program: "the values … depend on the values list and the trace only"
pub by_uppers_depends : BandBy by_uppers → ⊥
by_uppers_depends b =
    let s : Settings = of DIFFERENCE one32 in
    let same =
    (b.numbers_agree false (transformer s 0 (fresh s).statistics) (previous (fresh s)).value (above 1) (above 2) (refl, λ e. absurd (false≢true e))).0 in
    let z : ◌≡◌ {A = ℕ} 0x4000_0000 0x4040_0000 = sym value_by_1 ∙ ap (λ (l : List Float). to_bits binary32 (get_or l 1 nan)) same ∙ value_by_2 in
    omega (arith, z)

-- ---- no order at all, neither after a scale nor at a shift

abbrev pub bare : Format → Range → Float → Range
bare f r x = range (add f r.value x) (add f r.upper x) (add f r.lower x)

abbrev pub never_ordered : Parts
never_ordered = record { scale = unordered; shift = bare; bases = λ v. v.values }

-- 2 between 1 and 3, with a weight of −1
abbrev upright : Ranges
upright = ranges (single 2 ∷ []) (single 3 ∷ []) (single 1 ∷ [])

weighted_stands : (settings_row (of WEIGHTED minus) ≡ 0) × (refusal (fresh (of WEIGHTED minus)) (invert_extrapolation (forecast upright empty empty)) ≡ 0)
unfolding all
weighted_stands = (refl, refl)

abbrev turned_over : Range
turned_over = range_at (turned_by never_ordered (of WEIGHTED minus) upright) 0

crossed : lt turned_over.upper turned_over.value ≡ true
unfolding all
crossed = refl

pub never_ordered_crosses : BandBy never_ordered → ⊥
never_ordered_crosses b =
    let s : Settings = of WEIGHTED minus in
    let o : Ordered turned_over = b.numbers_upright (transformer s 0 (fresh s).statistics) (previous (fresh s)).value upright 0 refl (omega arith) in
    false≢true (sym o.upper_not_below ∙ crossed)
