-- The running statistic: document 01, 'deviation.rs', in the source's order of operations.
use Rattle.std.specs.Prelude.{ℕ, ◌+◌, Result, Ok, Err, Bool, cond, not, ◌&&◌, [], ◌∷◌, pos, from_bits, nat_le, nat_lt, Float}
use Rattle.std.specs.Float.{binary64}
use Rattle.std.specs.Float.Ieee.{add, sub, mul, div, lt, le, eq, of_int}
use Rattle.numeric.specs.Root.{root_of}
use Rattle.refusal.specs.Refusal.{first_of, accepted}
use Rattle.common.specs.declared.deviation.Deviation.{Deviation}

abbrev pub zero64 : Float
zero64 = from_bits binary64 0

abbrev pub one64 : Float
one64 = from_bits binary64 0x3ff0_0000_0000_0000

-- the largest count: row 18. "Count … may reach 9,007,199,254,740,990, so count + 2 is still exact as f64." (document 02, #101)
abbrev pub count_limit : ℕ
count_limit = 9007199254740990

-- "A running statistic holds discount, weight, sum, sum of squares and count."
abbrev pub statistic : Float → Float → Float → Float → ℕ → Deviation
statistic d w s q n = record { discount = d; weight = w; sum_squared = q; sum = s; count = n }

-- ---- answers: the number of an answer, 0 for a statistic

abbrev pub deviation_row : Result Deviation ℕ → ℕ
deviation_row (Ok s) = 0
deviation_row (Err n) = n

-- the statistic, or the number of the row
abbrev pub deviation_answer : ℕ → Deviation → Result Deviation ℕ
deviation_answer n s = accepted n (Ok s) (Err n)

-- row 6: "the discount of a new or (+) created statistic, outside 0 ≤ it < 1"
unfoldable pub outside_unit : Float → Bool
outside_unit d = not (le zero64 d && lt d one64)

-- ---- the functions

abbrev pub empty_with : Float → Deviation
empty_with d = statistic d zero64 zero64 zero64 0

unfoldable pub deviation_new : Float → Result Deviation ℕ
deviation_new d = deviation_answer (first_of ((outside_unit d, 6) ∷ [])) (empty_with d)

-- row 18: "statistic `create`: count outside 0 to" the limit
unfoldable pub deviation_create : Float → Float → Float → Float → ℕ → Result Deviation ℕ
deviation_create d w s q n = deviation_answer (first_of ((outside_unit d, 6) ∷ (nat_lt count_limit n, 18) ∷ [])) (statistic d w s q n)

-- the source's `reset`: all but the discount begins anew
abbrev pub deviation_reset : Deviation → Deviation
deviation_reset s = empty_with s.discount

-- "The factor is 1.0 when discount is 0, otherwise the smaller of 1 − discount and 1 − 1/(count + 2)."
unfoldable pub factor_of : Float → ℕ → Float
factor_of d n =
    let a = sub binary64 one64 d in
    let b = sub binary64 one64 (div binary64 one64 (of_int binary64 (pos (n + 2)))) in
    cond (eq d zero64) one64 (cond (lt a b) a b)

-- "Update multiplies weight, sum and squares by it, then adds 1, score and score × score."
unfoldable pub step_of : Deviation → Float → Deviation
step_of s x =
    let f = factor_of s.discount s.count in
    statistic s.discount (add binary64 (mul binary64 s.weight f) one64) (add binary64 (mul binary64 s.sum f) x)
    (add binary64 (mul binary64 s.sum_squared f) (mul binary64 x x)) (s.count + 1)

-- the factor of the next update; 0 where there is none, row 18
unfoldable pub next_factor : Float → ℕ → Float
next_factor d n = cond (nat_lt n count_limit) (factor_of d n) zero64

-- an update by a factor that is given: the statistics of one discount and one count share it
unfoldable pub step_by : Float → Deviation → Float → Deviation
step_by f s x =
    statistic s.discount (add binary64 (mul binary64 s.weight f) one64) (add binary64 (mul binary64 s.sum f) x)
    (add binary64 (mul binary64 s.sum_squared f) (mul binary64 x x)) (s.count + 1)

-- row 18: "count would pass" the limit
unfoldable pub update_by : Float → Deviation → Float → Result Deviation ℕ
update_by f s x = deviation_answer (first_of ((nat_le count_limit s.count, 18) ∷ [])) (step_by f s x)

unfoldable pub deviation_update : Deviation → Float → Result Deviation ℕ
deviation_update s x = deviation_answer (first_of ((nat_le count_limit s.count, 18) ∷ [])) (step_of s x)

unfoldable pub is_empty : Deviation → Bool
is_empty s = le s.weight zero64

-- "Mean is 0 when weight ≤ 0, else sum/weight."
unfoldable pub mean_of : Deviation → Float
mean_of s = cond (is_empty s) zero64 (div binary64 s.sum s.weight)

-- the root of v if that is above 0, else 0
unfoldable pub root_above : Float → Float
root_above v = cond (lt zero64 v) (root_of v) zero64

-- "Deviation is 0 when weight ≤ 0, else the root of squares/weight − mean × mean if that is above 0, else 0."
unfoldable pub deviation_of : Deviation → Float
deviation_of s =
    let m = div binary64 s.sum s.weight in
    cond (is_empty s) zero64 (root_above (sub binary64 (div binary64 s.sum_squared s.weight) (mul binary64 m m)))

-- ---- the setters

abbrev pub deviation_set_discount : Deviation → Float → Deviation
deviation_set_discount s d = statistic d s.weight s.sum s.sum_squared s.count

-- row 18 beyond the limit, as `create` has it
unfoldable pub deviation_set_count : Deviation → ℕ → Result Deviation ℕ
deviation_set_count s n = deviation_answer (first_of ((nat_lt count_limit n, 18) ∷ [])) (statistic s.discount s.weight s.sum s.sum_squared n)
