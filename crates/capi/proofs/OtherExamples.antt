-- The calls that take no preprocessor, computed. Assumes nothing.
use Prim.Native.Nat.{ℕ}
use mathlib.Core.List.{List, [], ◌∷◌}
use mathlib.Core.Path.{◌≡◌, refl}
use lib.Ieee.{Float, binary32, binary64, of_bits, add, sub, mul, div, of_int, lt, le, eq}
use Rattle.refusal.specs.Lent.{over as over'}
use Rattle.common.specs.Deviation.{statistic}
use Rattle.common.specs.Corrected.{whole_within, integer_of, correction_rows, corrected_statistic, corrected_of}
use Rattle.stranding.specs.Counts.{row_counts as counted, counts_by, counts, out_of_range, strandings_of}
use Rattle.stranding.specs.Standing.{after_drain, after_learn}
use Rattle.series.specs.Imputation.{imputation, interpolated, missing_of, imputed_at, by_place, imputed, cells_misshapen, known_marks, finite_present, all_finite, impute_row, impute_of}
use Rattle.refusal.specs.Lent.{over}
use Rattle.series.specs.Pairs.{near, pair_step, pairs}
use Rattle.series.specs.Gaps.{absolute, difference_size, larger, largest, difference_sizes, gaps}
use Rattle.series.specs.Alignment.{align_outcome, readings, outputs, unusable, align_row, outputs_written, align_of, readings_misshapen as unlike}
use Rattle.capi.specs.Counts.{strandings_at}
use Rattle.capi.specs.Lists.{impute_at, align_at}
use Rattle.capi.specs.Statistic.{statistic_got, statistic_told, corrected_at}

counting : Unit {0}
unfolding strandings_at strandings_of out_of_range counts counts_by after_drain after_learn
counting = tt

filling : Unit {0}
unfolding impute_at impute_of impute_row cells_misshapen known_marks finite_present all_finite imputed by_place imputed_at missing_of interpolated of_bits add sub mul div of_int
filling = tt

comparing : Unit {0}
unfolding align_at align_of align_row unlike unusable pairs pair_step near outputs_written over gaps difference_sizes difference_size absolute largest larger of_bits sub lt
comparing = tt

correcting : Unit {0}
unfolding corrected_at corrected_of correction_rows corrected_statistic whole_within integer_of statistic_told over' of_bits of_int eq le
correcting = tt

-- 2.0, 4.0, 6.0 and 9.0
abbrev two : Float
two = of_bits binary32 0x4000_0000

abbrev four : Float
four = of_bits binary32 0x4080_0000

abbrev six : Float
six = of_bits binary32 0x40c0_0000

abbrev nine : Float
nine = of_bits binary32 0x4110_0000

-- "For n 2 and s 1 they are 6, 2 and 1"; refused, the lent numbers stay
example_strandings : strandings_at 1 2 7 8 9 ≡ counted 0 6 2 1
unfolding counting
example_strandings = refl

example_strandings_refused : strandings_at 4294967297 2 7 8 9 ≡ counted 25 7 8 9
unfolding counting
example_strandings_refused = refl

-- one missing cell between 2.0 and 6.0, by each rule and by a number that names none
abbrev cells : List Float
cells = two ∷ nine ∷ six ∷ []

abbrev marks : List ℕ
marks = 0 ∷ 1 ∷ 0 ∷ []

example_fixed : impute_at 0 1 cells marks (four ∷ []) ≡ imputation 0 (two ∷ four ∷ six ∷ [])
unfolding filling
example_fixed = refl

example_previous : impute_at 1 1 cells marks (four ∷ []) ≡ imputation 0 (two ∷ two ∷ six ∷ [])
unfolding filling
example_previous = refl

example_next : impute_at 2 1 cells marks (four ∷ []) ≡ imputation 0 (two ∷ six ∷ six ∷ [])
unfolding filling
example_next = refl

example_linear : impute_at 3 1 cells marks (nine ∷ []) ≡ imputation 0 (two ∷ four ∷ six ∷ [])
unfolding filling
example_linear = refl

-- 19 before 2
example_no_rule : impute_at 4 0 cells marks [] ≡ imputation 19 cells
unfolding filling
example_no_rule = refl

-- two readings and one: a pair at the second, in outputs one longer; one too short
example_align : align_at 1 (readings (two ∷ six ∷ []) (0 ∷ 10 ∷ [])) (readings (four ∷ []) (11 ∷ [])) 1 5 (outputs (7 ∷ 7 ∷ []) (8 ∷ 8 ∷ []) (nine ∷ nine ∷ []))
    ≡ align_outcome 0 1 (outputs (1 ∷ 7 ∷ []) (0 ∷ 8 ∷ []) (two ∷ nine ∷ []))
unfolding comparing
example_align = refl

example_align_short : align_at 1 (readings (two ∷ six ∷ []) (0 ∷ 10 ∷ [])) (readings (four ∷ []) (11 ∷ [])) 1 5 (outputs [] (8 ∷ []) (nine ∷ []))
    ≡ align_outcome 20 5 (outputs [] (8 ∷ []) (nine ∷ []))
unfolding comparing
example_align_short = refl

-- of the list 2.0, 6.0 (weight 2, sum 8, squares 40) the 6.0 was a 4.0: sum 6, squares 20, what lies after is kept; a weight of 3 is refused, and 26 comes
-- before 20
abbrev double : ℕ → Float
double n = of_bits binary64 n

example_corrected : corrected_at (statistic (double 0) (double 0x4000_0000_0000_0000) (double 0x4020_0000_0000_0000) (double 0x4044_0000_0000_0000) 2) six four
    (nine ∷ nine ∷ nine ∷ nine ∷ [])
    ≡ statistic_got 0 (double 0x4000_0000_0000_0000 ∷ double 0x4018_0000_0000_0000 ∷ double 0x4034_0000_0000_0000 ∷ nine ∷ [])
unfolding correcting
example_corrected = refl

example_corrected_short : corrected_at (statistic (double 0) (double 0x4000_0000_0000_0000) (double 0x4020_0000_0000_0000) (double 0x4044_0000_0000_0000) 2) six four
    (nine ∷ nine ∷ [])
    ≡ statistic_got 20 (nine ∷ nine ∷ [])
unfolding correcting
example_corrected_short = refl

example_corrected_refused : corrected_at (statistic (double 0) (double 0x4008_0000_0000_0000) (double 0x4020_0000_0000_0000) (double 0x4044_0000_0000_0000) 2) six four
    (nine ∷ nine ∷ [])
    ≡ statistic_got 26 (nine ∷ nine ∷ [])
unfolding correcting
example_corrected_refused = refl
