-- What is promised of the factor up to the limit of the count (document 02, #101): count + 2 is exact as an f64, so that nothing is rounded but what the rule rounds.
-- Definitions only; the theorems stand in proofs/FactorLaws.antt.
use Rattle.std.specs.Prelude.{◌≡◌, ℕ, ◌+◌, ◌≤◌, false, cond, pos, Float}
use Rattle.std.specs.Float.{binary64}
use Rattle.std.specs.Float.Ieee.{round, sub, lt, eq, of_int}
use Rattle.std.specs.Float.Ieee.Exact.{HasValue}
use Rattle.common.specs.Deviation.{zero64, one64, count_limit, factor_of}

-- "so count + 2 is still exact as f64": the float is the number itself
abbrev pub CountIsExact : Type 0
CountIsExact = (n : ℕ) → n ≤ count_limit → HasValue (of_int binary64 (pos (n + 2))) false (n + 2) 1

-- "The factor is 1.0 when discount is 0, otherwise the smaller of 1 − discount and 1 − 1/(count + 2)." Of the whole numbers 1 and count + 2 the fraction is rounded, once,
-- and each difference once; count + 2 is not.
unfoldable pub written_factor : Float → ℕ → Float
written_factor d n =
    let a = sub binary64 one64 d in
    let b = sub binary64 one64 (round binary64 false 1 (n + 2)) in
    cond (eq d zero64) one64 (cond (lt a b) a b)

-- "from it on the written rule of the factor stands in its place": there and below
abbrev pub FactorIsWritten : Type 0
FactorIsWritten = (d : Float) (n : ℕ) → n ≤ count_limit → factor_of d n ≡ written_factor d n
