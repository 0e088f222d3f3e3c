-- Worked examples of the range, at both widths, by computation. Assumes nothing.
use Prim.Native.Nat.{ℕ}
use mathlib.Core.Path.{◌≡◌, refl}
use mathlib.Core.List.{List, [], ◌∷◌}
use lib.IntN.{pos, negsuc}
use lib.Ieee.{Float, nan, Format, binary32, binary64, add, mul, lt, le, of_int, of_bits}
use Rattle.ranges.specs.RangeVector.{RangeOutcome, Ranges, ranges, range_outcome, range_shift, range_scale, range_cascaded_add, range_new, range_from, range_create}
use Rattle.ranges.specs.RangeVector.{past_any, unequal, unblocked, shorter, in_order, cascade_to, shifted, scaled, settled, range_at, put_at}
use Rattle.refusal.specs.Lent.{over}

unfoldable pub whole : Format → ℕ → Float
whole f n = of_int f (pos n)

-- three equal lists
unfoldable pub alike : List Float → Ranges
alike l = ranges l l l

unfoldable pub one : Float → Float → Float → Ranges
one v u l = ranges (v ∷ []) (u ∷ []) (l ∷ [])

-- Base 10 on 1, 2, 3. Value 2, upper 3, lower 1 times −1. Then a refusal by each row: 14, 16, 17, 20.
unfoldable pub given : Format → List RangeOutcome
given f =
    let n = whole f in
    range_cascaded_add f (n 10 ∷ []) (alike (n 1 ∷ n 2 ∷ n 3 ∷ []))
    ∷ range_scale f (one (n 2) (n 3) (n 1)) 0 (of_int f (negsuc 0))
    ∷ range_cascaded_add f (n 10 ∷ n 20 ∷ []) (alike (n 1 ∷ n 2 ∷ n 3 ∷ n 4 ∷ []))
    ∷ range_create (one (n 2) (n 3) (n 1)) (alike (n 7 ∷ n 8 ∷ []))
    ∷ range_new f 1 (alike (n 7 ∷ n 8 ∷ []))
    ∷ range_shift f (one (n 2) (n 3) (n 1)) 1 (n 1)
    ∷ range_cascaded_add f (n 10 ∷ n 20 ∷ []) (alike (n 1 ∷ n 2 ∷ n 3 ∷ []))
    ∷ range_create (one (n 2) (n 1) (n 1)) (alike (n 7 ∷ []))
    ∷ range_create (one (n 2) nan (n 1)) (alike (n 7 ∷ []))
    ∷ range_from (n 1 ∷ n 2 ∷ []) (alike (n 7 ∷ []))
    ∷ []

unfoldable pub expected : Format → List RangeOutcome
expected f =
    let n = whole f in
    let m = of_int f (negsuc 1) in
    range_outcome 0 (alike (n 11 ∷ n 13 ∷ n 16 ∷ []))
    ∷ range_outcome 0 (one m m m)
    ∷ range_outcome 0 (alike (n 11 ∷ n 22 ∷ n 14 ∷ n 26 ∷ []))
    ∷ range_outcome 0 (ranges (n 2 ∷ n 8 ∷ []) (n 3 ∷ n 8 ∷ []) (n 1 ∷ n 8 ∷ []))
    ∷ range_outcome 0 (alike (n 0 ∷ n 8 ∷ []))
    ∷ range_outcome 14 (one (n 2) (n 3) (n 1))
    ∷ range_outcome 16 (alike (n 1 ∷ n 2 ∷ n 3 ∷ []))
    ∷ range_outcome 17 (alike (n 7 ∷ []))
    ∷ range_outcome 17 (alike (n 7 ∷ []))
    ∷ range_outcome 20 (alike (n 7 ∷ []))
    ∷ []

pub samples : (given binary32 ∷ given binary64 ∷ []) ≡ (expected binary32 ∷ expected binary64 ∷ [])
unfolding whole alike one given expected range_shift range_scale range_cascaded_add range_new range_from range_create past_any unequal unblocked shorter in_order cascade_to
    shifted scaled settled range_at put_at over add mul lt le of_int of_bits
samples = refl
