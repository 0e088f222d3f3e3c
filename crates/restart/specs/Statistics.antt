-- The history's statistics, from document 01 alone: each is the fold of the update over the sequence of its own scores, channel by channel.
-- Nothing here names the preprocessor's `feed`, its list of statistics or the places in it; proofs/Scores.antt shows that `feed` makes the same.
use Rattle.std.specs.Prelude.{ℕ, zero, suc, ◌-◌, List, [], ◌∷◌, ◌++◌, map, pos, get_or, Float}
use Rattle.std.specs.Float.{nan, binary32, binary64}
use Rattle.std.specs.Float.Ieee.{sub, mul, of_int, of_bits}
use Rattle.common.specs.declared.deviation.Deviation.{Deviation}
use Rattle.common.specs.Deviation.{empty_with, step_of, mean_of, deviation_of}
use Rattle.trcf.specs.Settings.{Settings}
use Rattle.trcf.specs.Preprocessor.{Reading}

-- a reading with its previous one
pub record Fed : Type 0 where
  pub now : Reading
  pub before : Reading

abbrev pub fed_after : Reading → Reading → Fed
fed_after p r = record { now = r; before = p }

-- ---- one statistic

-- fed its scores, one after the other
abbrev pub fold_from : Deviation → List Float → Deviation
fold_from s [] = s
fold_from s (x ∷ xs) = fold_from (step_of s x) xs

-- "All start empty"
abbrev pub statistic_of : Float → List Float → Deviation
statistic_of discount xs = fold_from (empty_with discount) xs

-- what it is after each score
abbrev pub course_from : Deviation → List Float → List Deviation
course_from s [] = []
course_from s (x ∷ xs) = step_of s x ∷ course_from (step_of s x) xs

abbrev pub course_of : Float → List Float → List Deviation
course_of discount xs = course_from (empty_with discount) xs

-- ---- scores, from the readings fed and their previous ones

-- "value": channel i
abbrev pub values_at : ℕ → List Fed → List Float
values_at i ps = map (λ p. get_or p.now.value i nan) ps

-- "difference from the previous reading (f32 subtraction)"
abbrev pub differences_at : ℕ → List Fed → List Float
differences_at i ps = map (λ p. sub binary32 (get_or p.now.value i nan) (get_or p.before.value i nan)) ps

-- the time's, whole numbers made f64
abbrev pub fed_times : List Fed → List Float
fed_times ps = map (λ p. of_int binary64 (pos p.now.time)) ps

abbrev pub time_differences : List Fed → List Float
time_differences ps = map (λ p. of_int binary64 (pos (p.now.time - p.before.time))) ps

-- ---- "value; difference …; deviation of the first; mean of the second; deviation of the second. The last three use 0.1 × decay."

-- 0.1
abbrev pub slowly : Float → Float
slowly decay = mul binary64 (of_bits binary64 0x3fb9_9999_9999_999a) decay

abbrev pub first : Float → List Float → Deviation
first decay xs = statistic_of decay xs

abbrev pub second : Float → List Float → Deviation
second decay ds = statistic_of decay ds

abbrev pub third : Float → List Float → Deviation
third decay xs = statistic_of (slowly decay) (map deviation_of (course_of decay xs))

abbrev pub fourth : Float → List Float → Deviation
fourth decay ds = statistic_of (slowly decay) (map mean_of (course_of decay ds))

abbrev pub fifth : Float → List Float → Deviation
fifth decay ds = statistic_of (slowly decay) (map deviation_of (course_of decay ds))

-- ---- "`dev` weight, sum, squares: 5d lines, first statistic of each channel, then second and so on, then time's five"

abbrev pub dev_of : Deviation → List Float
dev_of s = s.weight ∷ s.sum ∷ s.sum_squared ∷ []

abbrev pub lines_to : ℕ → (ℕ → Deviation) → List Float
lines_to zero f = []
lines_to (suc n) f = lines_to n f ++ dev_of (f n)

unfoldable pub statistics_from : Settings → List Fed → List Float
statistics_from s ps =
    lines_to s.d (λ i. first s.decay (values_at i ps))
    ++ (lines_to s.d (λ i. second s.decay (differences_at i ps))
    ++ (lines_to s.d (λ i. third s.decay (values_at i ps))
    ++ (lines_to s.d (λ i. fourth s.decay (differences_at i ps))
    ++ (lines_to s.d (λ i. fifth s.decay (differences_at i ps))
    ++ (dev_of (first s.decay (fed_times ps))
    ++ (dev_of (second s.decay (time_differences ps))
    ++ (dev_of (third s.decay (fed_times ps))
    ++ (dev_of (fourth s.decay (time_differences ps))
    ++ dev_of (fifth s.decay (time_differences ps))))))))))
