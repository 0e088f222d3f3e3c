-- Whole-number scores and their sums, for the law that a statistic with discount 0 holds them exactly. Definitions only.
use Rattle.std.specs.Prelude.{ℕ, ◌≤◌, List, [], ◌∷◌, ℤ, pos, ◌+ℤ◌, ◌*ℤ◌, unsigned_abs, Float}
use Rattle.std.specs.Float.{binary64}
use Rattle.std.specs.Float.Ieee.{of_int}
use Rattle.common.specs.declared.deviation.Deviation.{Deviation}
use Rattle.common.specs.Deviation.{step_of}

-- an integer as an f64
abbrev pub whole_float : ℤ → Float
whole_float z = of_int binary64 z

-- the statistic after the scores of the list, the first one first
unfoldable pub statistic_after : Deviation → List Float → Deviation
statistic_after s [] = s
statistic_after s (x ∷ xs) = statistic_after (step_of s x) xs

unfoldable pub total : List ℤ → ℤ
total [] = pos 0
total (z ∷ zs) = z +ℤ total zs

unfoldable pub total_of_squares : List ℤ → ℤ
total_of_squares [] = pos 0
total_of_squares (z ∷ zs) = z *ℤ z +ℤ total_of_squares zs

-- every one of size at most b
abbrev pub AllWithin : ℕ → List ℤ → Type 0
AllWithin b [] = Unit {0}
AllWithin b (z ∷ zs) = (unsigned_abs z ≤ b) × AllWithin b zs
