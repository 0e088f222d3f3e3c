-- Document 01's starred samples of the running statistic, and closed cases of the refusals, by computation. Assumes nothing.
use Rattle.std.specs.Prelude.{Result, Ok, Err}
use Rattle.std.proofs.Common.{◌≡◌, ℕ, ◌+◌, false, List, [], ◌∷◌, ◌++◌, map, pos, negsuc, refl}
use lib.Ieee.{binary64, round, add, sub, mul, div, lt, le, eq, of_int, of_bits, to_bits}
use Rattle.numeric.specs.Root.{root_within, halves, rooted, root_of}
use Rattle.common.specs.declared.deviation.Deviation.{Deviation}
use Rattle.common.specs.Deviation.{zero64, one64, statistic, empty_with, deviation_row, outside_unit, deviation_new, deviation_create, factor_of, next_factor, step_of, deviation_update, is_empty, mean_of, root_above, deviation_of, deviation_set_count}
use Rattle.common.specs.WholeScores.{whole_float, statistic_after}

-- weight, sum, squares, mean and deviation, as bits
abbrev numbers : Deviation → List ℕ
numbers s = map (to_bits binary64) (s.weight ∷ s.sum ∷ s.sum_squared ∷ mean_of s ∷ deviation_of s ∷ [])

abbrev scored : ℕ → List ℕ → List ℕ
scored discount scores = numbers (statistic_after (empty_with (of_bits binary64 discount)) (map (λ (n : ℕ). whole_float (pos n)) scores))

-- "Decay 0, scores 3, 5: weight 2, sum 8, squares 34, mean 4, deviation 1. Decay 0.5, scores 4, 1: weight 1.5, sum 3, squares 9, mean 2, deviation bits 3ff6a09e667f3bcd."
pub samples : (scored 0 (3 ∷ 5 ∷ []) ∷ scored 0x3fe0_0000_0000_0000 (4 ∷ 1 ∷ []) ∷ [])
    ≡ (0x4000_0000_0000_0000 ∷ 0x4020_0000_0000_0000 ∷ 0x4041_0000_0000_0000 ∷ 0x4010_0000_0000_0000 ∷ 0x3ff0_0000_0000_0000 ∷ [])
    ∷ (0x3ff8_0000_0000_0000 ∷ 0x4008_0000_0000_0000 ∷ 0x4022_0000_0000_0000 ∷ 0x4000_0000_0000_0000 ∷ 0x3ff6_a09e_667f_3bcd ∷ [])
    ∷ []
unfolding statistic_after step_of factor_of is_empty mean_of root_above deviation_of root_of rooted halves root_within add sub mul div lt le eq of_int of_bits to_bits
samples = refl

-- scores −3 and 3: the sum is +0, the squares 18
pub cancelled : numbers (statistic_after (empty_with zero64) (map whole_float (negsuc 2 ∷ pos 3 ∷ []))) ≡ 0x4000_0000_0000_0000 ∷ 0 ∷ 0x4032_0000_0000_0000 ∷ 0 ∷ 0x4008_0000_0000_0000 ∷ []
unfolding statistic_after step_of factor_of is_empty mean_of root_above deviation_of root_of rooted halves root_within add sub mul div lt le eq of_int of_bits to_bits
cancelled = refl

-- row 6 at discounts 0, −0, 0.5, the last below 1, 1, −2 ^ −1074, infinity and not-a-number
pub discounts : map (λ (b : ℕ). deviation_row (deviation_new (of_bits binary64 b)))
    (0 ∷ 0x8000_0000_0000_0000 ∷ 0x3fe0_0000_0000_0000 ∷ 0x3fef_ffff_ffff_ffff ∷ 0x3ff0_0000_0000_0000 ∷ 0x8000_0000_0000_0001 ∷ 0x7ff0_0000_0000_0000 ∷ 0x7ff8_0000_0000_0000 ∷ [])
    ≡ 0 ∷ 0 ∷ 0 ∷ 0 ∷ 6 ∷ 6 ∷ 6 ∷ 6 ∷ []
unfolding deviation_new outside_unit lt le eq of_bits
discounts = refl

-- the factor of the next update with discount 0.25: at count 0 the one that grows, at the last count 1 − 0.25, at the limit none; and with discount 0
pub next_factors : map (λ (n : ℕ). to_bits binary64 (next_factor (of_bits binary64 0x3fd0_0000_0000_0000) n)) (0 ∷ 9007199254740989 ∷ 9007199254740990 ∷ [])
    ++ map (λ (n : ℕ). to_bits binary64 (next_factor zero64 n)) (0 ∷ 9007199254740990 ∷ [])
    ≡ 0x3fe0_0000_0000_0000 ∷ 0x3fe8_0000_0000_0000 ∷ 0 ∷ 0x3ff0_0000_0000_0000 ∷ 0 ∷ []
unfolding next_factor factor_of add sub mul div lt le eq of_int of_bits to_bits
next_factors = refl

abbrev counted : ℕ → Deviation
counted n = statistic zero64 zero64 zero64 zero64 n

-- the last count at which the Rust updates, one before and two after it; then the limit of row 18, one before and one after it
abbrev around : List ℕ
around = 0 ∷ 2147483644 ∷ 2147483645 ∷ 2147483646 ∷ 2147483647 ∷ 9007199254740989 ∷ 9007199254740990 ∷ 9007199254740991 ∷ []

-- row 18: `create` and `set_count` take the limit itself, `update` has to stay below it; row 6 comes first
pub limits : (map (λ (n : ℕ). deviation_row (deviation_create zero64 zero64 zero64 zero64 n)) around
    ∷ map (λ (n : ℕ). deviation_row (deviation_set_count (counted 0) n)) around
    ∷ map (λ (n : ℕ). deviation_row (deviation_update (counted n) zero64)) around
    ∷ (deviation_row (deviation_create (of_bits binary64 0x3ff0_0000_0000_0000) zero64 zero64 zero64 9007199254740991) ∷ [])
    ∷ [])
    ≡ (0 ∷ 0 ∷ 0 ∷ 0 ∷ 0 ∷ 0 ∷ 0 ∷ 18 ∷ []) ∷ (0 ∷ 0 ∷ 0 ∷ 0 ∷ 0 ∷ 0 ∷ 0 ∷ 18 ∷ []) ∷ (0 ∷ 0 ∷ 0 ∷ 0 ∷ 0 ∷ 0 ∷ 18 ∷ 18 ∷ []) ∷ (6 ∷ []) ∷ []
unfolding deviation_create deviation_set_count deviation_update outside_unit lt le eq of_bits
limits = refl

-- an answer's row, weight, sum and squares as bits, and count
abbrev told : Result Deviation ℕ → List ℕ
told (Ok s) = 0 ∷ map (to_bits binary64) (s.weight ∷ s.sum ∷ s.sum_squared ∷ []) ++ s.count ∷ []
told (Err n) = n ∷ []

-- discount 2 ^ −60, so that the factor is 1 − 1/(count + 2); weight 2 ^ 31, sum 10 ^ 10 / 3, squares 10 ^ 20 / 7
abbrev heavy : ℕ → Deviation
heavy n = statistic (of_bits binary64 0x3c30_0000_0000_0000) (of_bits binary64 0x41e0_0000_0000_0000) (of_bits binary64 0x41e8_d5d4_2aaa_aaab) (of_bits binary64 0x43e8_c821_ae86_5725) n

-- the score 0.1 fed at the Rust's last count, at the two after it, at 2 ^ 40, and up to the limit
pub fed_far : map (λ (n : ℕ). told (deviation_update (heavy n) (of_bits binary64 0x3fb9_9999_9999_999a)))
    (2147483645 ∷ 2147483646 ∷ 2147483647 ∷ 1099511627776 ∷ 9007199254740988 ∷ 9007199254740989 ∷ 9007199254740990 ∷ [])
    ≡ (0 ∷ 0x41e0_0000_0000_0000 ∷ 0x41e8_d5d4_2a7c_3236 ∷ 0x43e8_c821_ae54_c6e2 ∷ 2147483646 ∷ [])
    ∷ (0 ∷ 0x41e0_0000_0000_0000 ∷ 0x41e8_d5d4_2a7c_3236 ∷ 0x43e8_c821_ae54_c6e2 ∷ 2147483647 ∷ [])
    ∷ (0 ∷ 0x41e0_0000_0000_0000 ∷ 0x41e8_d5d4_2a7c_3236 ∷ 0x43e8_c821_ae54_c6e2 ∷ 2147483648 ∷ [])
    ∷ (0 ∷ 0x41e0_0000_001f_f000 ∷ 0x41e8_d5d4_2aad_c508 ∷ 0x43e8_c821_ae86_3e5d ∷ 1099511627777 ∷ [])
    ∷ (0 ∷ 0x41e0_0000_0020_0000 ∷ 0x41e8_d5d4_2aad_dddd ∷ 0x43e8_c821_ae86_5724 ∷ 9007199254740989 ∷ [])
    ∷ (0 ∷ 0x41e0_0000_0020_0000 ∷ 0x41e8_d5d4_2aad_dddd ∷ 0x43e8_c821_ae86_5724 ∷ 9007199254740990 ∷ [])
    ∷ (18 ∷ [])
    ∷ []
unfolding deviation_update step_of factor_of add sub mul div lt eq of_int of_bits to_bits
fed_far = refl

-- 1/(count + 2) and the factor as bits, at the Rust's last count, at the two after it, and at the limit
pub factors : map (λ (n : ℕ). map (to_bits binary64) (div binary64 one64 (of_int binary64 (pos (n + 2))) ∷ factor_of (of_bits binary64 1) n ∷ []))
    (2147483645 ∷ 2147483646 ∷ 2147483647 ∷ 9007199254740990 ∷ [])
    ≡ (0x3e00_0000_0020_0000 ∷ 0x3fef_ffff_ffc0_0000 ∷ [])
    ∷ (0x3e00_0000_0000_0000 ∷ 0x3fef_ffff_ffc0_0000 ∷ [])
    ∷ (0x3dff_ffff_ffc0_0000 ∷ 0x3fef_ffff_ffc0_0000 ∷ [])
    ∷ (0x3ca0_0000_0000_0000 ∷ 0x3fef_ffff_ffff_ffff ∷ [])
    ∷ []
unfolding factor_of sub div lt eq of_int of_bits to_bits
factors = refl

-- one past the limit count + 2 is no f64: it becomes 2 ^ 53, and the quotient is not the fraction rounded once
pub inexact : map (to_bits binary64) (of_int binary64 (pos 9007199254740993) ∷ div binary64 one64 (of_int binary64 (pos 9007199254740993)) ∷ round binary64 false 1 9007199254740993 ∷ [])
    ≡ 0x4340_0000_0000_0000 ∷ 0x3ca0_0000_0000_0000 ∷ 0x3c9f_ffff_ffff_ffff ∷ []
unfolding div round of_int of_bits to_bits
inexact = refl
