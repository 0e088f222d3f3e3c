-- Row 26 on both sides of each border, answers, and the theorems at 3, 5, −7 with the 5 put right, by computation. Assumes nothing.
use Rattle.std.specs.Prelude.{Result, Ok, Err}
use Rattle.std.proofs.Common.{◌≡◌, ℕ, T, List, [], ◌∷◌, ◌++◌, map, ℤ, pos, negsuc, refl, lit≤}
use lib.Ieee.{Float, binary64, round, add, sub, mul, div, lt, le, eq, of_int, of_bits, to_bits}
use Rattle.common.specs.declared.deviation.Deviation.{Deviation}
use Rattle.common.specs.Deviation.{deviation_row, zero64, statistic, empty_with, factor_of, step_of, deviation_update, mean_of}
use Rattle.common.specs.WholeScores.{whole_float}
use Rattle.common.specs.Corrected.{reading_limit, whole_within, integer_of, correction_rows, corrected_statistic, corrected_of, AllWhole, updates, Moved}
use Rattle.common.proofs.CorrectedTheorems.{corrected_is_the_lists, corrected_moves, raised_never_lowers_the_mean}

-- row 26 or 0 of a call: the statistic's decay, weight, sum and squares as f64 bits, the readings as bits of an f64 (what `to_f64` makes of the f32)
abbrev row : Deviation → Float → Float → ℕ
row s wrong right = deviation_row (corrected_of s wrong right)

-- the statistic of 3, 5, −7
abbrev three : Deviation
three = statistic zero64 (whole_float (pos 3)) (whole_float (pos 1)) (whole_float (pos 83)) 3

abbrev whole : ℤ → Float
whole z = whole_float z

-- every right reading of the list, against a wrong 5: −65,536 and 65,536 are taken and −65,537, 65,537, 1.5, ∞, −∞ and a not-a-number are not; −0 is the whole number 0
pub right_readings : map (λ (b : ℕ). row three (whole (pos 5)) (of_bits binary64 b))
    (0xc0f0_0000_0000_0000 ∷ 0xc0f0_0010_0000_0000 ∷ 0x40f0_0000_0000_0000 ∷ 0x40f0_0010_0000_0000 ∷ 0x3ff8_0000_0000_0000 ∷ 0x8000_0000_0000_0000
    ∷ 0x7ff0_0000_0000_0000 ∷ 0xfff0_0000_0000_0000 ∷ 0x7ff8_0000_0000_0000 ∷ [])
    ≡ 0 ∷ 26 ∷ 0 ∷ 26 ∷ 26 ∷ 0 ∷ 26 ∷ 26 ∷ 26 ∷ []
unfolding corrected_of correction_rows corrected_statistic whole_within eq le of_bits of_int round
right_readings = refl

-- the same of the wrong one
pub wrong_readings : map (λ (b : ℕ). row three (of_bits binary64 b) (whole (pos 5)))
    (0xc0f0_0000_0000_0000 ∷ 0xc0f0_0010_0000_0000 ∷ 0x40f0_0000_0000_0000 ∷ 0x40f0_0010_0000_0000 ∷ 0x3ff8_0000_0000_0000 ∷ 0x8000_0000_0000_0000
    ∷ 0x7ff0_0000_0000_0000 ∷ 0xfff0_0000_0000_0000 ∷ 0x7ff8_0000_0000_0000 ∷ [])
    ≡ 0 ∷ 26 ∷ 0 ∷ 26 ∷ 26 ∷ 0 ∷ 26 ∷ 26 ∷ 26 ∷ []
unfolding corrected_of correction_rows corrected_statistic whole_within eq le of_bits of_int round
wrong_readings = refl

-- decay 0, −0, 0.1, −0.1, 1, and a not-a-number: outside 0 ≤ it < 1 it is 26 too
pub decays : map (λ (b : ℕ). row (statistic (of_bits binary64 b) (whole (pos 3)) (whole (pos 1)) (whole (pos 83)) 3) (whole (pos 5)) (whole (pos 6)))
    (0 ∷ 0x8000_0000_0000_0000 ∷ 0x3fb9_9999_9999_999a ∷ 0xbfb9_9999_9999_999a ∷ 0x3ff0_0000_0000_0000 ∷ 0x7ff8_0000_0000_0000 ∷ [])
    ≡ 0 ∷ 0 ∷ 26 ∷ 26 ∷ 26 ∷ 26 ∷ []
unfolding corrected_of correction_rows corrected_statistic whole_within eq le of_bits of_int round
decays = refl

-- counts 0, 1, 1,048,576 and 1,048,577, each with the weight that it is, and one past a statistic's own limit
pub counts : map (λ (n : ℕ). row (statistic zero64 (whole (pos n)) (whole (pos 0)) (whole (pos 0)) n) (whole (pos 5)) (whole (pos 6))) (0 ∷ 1 ∷ 1048576 ∷ 1048577 ∷ 9007199254740991 ∷ [])
    ≡ 26 ∷ 0 ∷ 0 ∷ 26 ∷ 26 ∷ []
unfolding corrected_of correction_rows corrected_statistic whole_within eq le of_bits of_int round
counts = refl

-- weights one below the count, the count itself, one above it, and a not-a-number
pub weights : map (λ (w : Float). row (statistic zero64 w (whole (pos 1)) (whole (pos 83)) 3) (whole (pos 5)) (whole (pos 6)))
    (whole (pos 2) ∷ whole (pos 3) ∷ whole (pos 4) ∷ of_bits binary64 0x7ff8_0000_0000_0000 ∷ [])
    ≡ 26 ∷ 0 ∷ 26 ∷ 26 ∷ []
unfolding corrected_of correction_rows corrected_statistic whole_within eq le of_bits of_int round
weights = refl

-- sums around 65,536 × 3 on either side, 0.5, −0 and an infinity
pub sums : map (λ (a : Float). row (statistic zero64 (whole (pos 3)) a (whole (pos 83)) 3) (whole (pos 5)) (whole (pos 6)))
    (whole (pos 196608) ∷ whole (pos 196609) ∷ whole (negsuc 196607) ∷ whole (negsuc 196608) ∷ of_bits binary64 0x3fe0_0000_0000_0000 ∷ of_bits binary64 0x8000_0000_0000_0000
    ∷ of_bits binary64 0x7ff0_0000_0000_0000 ∷ [])
    ≡ 0 ∷ 26 ∷ 0 ∷ 26 ∷ 26 ∷ 0 ∷ 26 ∷ []
unfolding corrected_of correction_rows corrected_statistic whole_within eq le of_bits of_int round
sums = refl

-- squares around 65,536 × 65,536 × 3, below 0, 0, −0 and 0.5
pub squares : map (λ (q : Float). row (statistic zero64 (whole (pos 3)) (whole (pos 1)) q 3) (whole (pos 5)) (whole (pos 6)))
    (whole (pos 12884901888) ∷ whole (pos 12884901889) ∷ whole (negsuc 0) ∷ whole (pos 0) ∷ of_bits binary64 0x8000_0000_0000_0000 ∷ of_bits binary64 0x3fe0_0000_0000_0000 ∷ [])
    ≡ 0 ∷ 26 ∷ 26 ∷ 0 ∷ 0 ∷ 26 ∷ []
unfolding corrected_of correction_rows corrected_statistic whole_within eq le of_bits of_int round
squares = refl

-- ---- answers

abbrev minus : Float
minus = of_bits binary64 0x8000_0000_0000_0000

-- discount, weight, sum and squares as bits, and the count
abbrev numbers : Result Deviation ℕ → List ℕ
numbers (Ok s) = map (to_bits binary64) (s.discount ∷ s.weight ∷ s.sum ∷ s.sum_squared ∷ []) ++ s.count ∷ []
numbers (Err n) = n ∷ []

abbrev listed : List ℤ → Result Deviation ℕ
listed zs = updates (empty_with zero64) (map whole_float zs)

-- 3, 5, −7 with 5 put right to 65,536: the statistic of 3, 65,536, −7, each computed by its own road
pub put_right : (numbers (corrected_of three (whole (pos 5)) (whole (pos 65536))) ∷ numbers (listed (pos 3 ∷ pos 65536 ∷ negsuc 6 ∷ [])) ∷ [])
    ≡ (0 ∷ 0x4008_0000_0000_0000 ∷ 0x40ef_ff80_0000_0000 ∷ 0x41f0_0000_03a0_0000 ∷ 3 ∷ []) ∷ (0 ∷ 0x4008_0000_0000_0000 ∷ 0x40ef_ff80_0000_0000 ∷ 0x41f0_0000_03a0_0000 ∷ 3 ∷ []) ∷ []
unfolding corrected_of correction_rows corrected_statistic whole_within integer_of updates deviation_update step_of factor_of add sub mul div lt le eq of_int of_bits to_bits round
put_right = refl

-- a sum that becomes 0 is +0, from −0 too; with decay −0, which keeps its bits; and where the statistic is no list's the squares may fall below 0 (0 + 9 − 25)
pub zeros : (numbers (corrected_of (statistic zero64 (whole (pos 2)) (whole (pos 3)) (whole (pos 17)) 2) (whole (pos 4)) (whole (pos 1)))
    ∷ numbers (corrected_of (statistic minus (whole (pos 1)) minus minus 1) minus minus)
    ∷ numbers (corrected_of (statistic zero64 (whole (pos 1)) zero64 zero64 1) (whole (pos 5)) (whole (pos 3)))
    ∷ [])
    ≡ (0 ∷ 0x4000_0000_0000_0000 ∷ 0 ∷ 0x4000_0000_0000_0000 ∷ 2 ∷ [])
    ∷ (0x8000_0000_0000_0000 ∷ 0x3ff0_0000_0000_0000 ∷ 0 ∷ 0 ∷ 1 ∷ [])
    ∷ (0 ∷ 0x3ff0_0000_0000_0000 ∷ 0xc000_0000_0000_0000 ∷ 0xc030_0000_0000_0000 ∷ 1 ∷ [])
    ∷ []
unfolding corrected_of correction_rows corrected_statistic whole_within integer_of updates deviation_update step_of factor_of add sub mul div lt le eq of_int of_bits to_bits round
zeros = refl

-- ---- the theorems at that list

three_made : listed (pos 3 ∷ pos 5 ∷ negsuc 6 ∷ []) ≡ Ok three
unfolding corrected_of correction_rows corrected_statistic whole_within integer_of updates deviation_update step_of factor_of add sub mul div lt le eq of_int of_bits to_bits round
three_made = refl

three_whole : AllWhole (map whole_float (pos 3 ∷ pos 5 ∷ negsuc 6 ∷ [])) × T (whole_within reading_limit (whole (pos 65536))) × T (eq zero64 zero64) × T (le (whole (pos 5)) (whole (pos 65536)))
unfolding corrected_of correction_rows corrected_statistic whole_within integer_of updates deviation_update step_of factor_of add sub mul div lt le eq of_int of_bits to_bits round
three_whole = ((tt, (tt, (tt, tt))), tt, tt, tt)

pub three_put_right : corrected_of three (whole (pos 5)) (whole (pos 65536)) ≡ listed (pos 3 ∷ pos 65536 ∷ negsuc 6 ∷ [])
three_put_right =
    corrected_is_the_lists zero64 (whole (pos 3) ∷ []) (whole (negsuc 6) ∷ []) (whole (pos 5)) (whole (pos 65536)) three three_whole.2 (lit≤ tt) three_whole.0 three_whole.1 three_made

abbrev righted : Deviation
righted = statistic zero64 (whole (pos 3)) (whole (pos 65532)) (whole (pos 4294967354)) 3

three_answered : corrected_of three (whole (pos 5)) (whole (pos 65536)) ≡ Ok righted
unfolding corrected_of correction_rows corrected_statistic whole_within integer_of updates deviation_update step_of factor_of add sub mul div lt le eq of_int of_bits to_bits round
three_answered = refl

pub three_moved : Moved three righted (whole (pos 5)) (whole (pos 65536))
three_moved = corrected_moves three righted (whole (pos 5)) (whole (pos 65536)) three_answered

pub three_mean : T (le (mean_of three) (mean_of righted))
three_mean = raised_never_lowers_the_mean three righted (whole (pos 5)) (whole (pos 65536)) three_answered three_whole.3
