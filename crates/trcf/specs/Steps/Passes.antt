-- A reading fed in passes over the channels: the statistics that need no root, then all roots, then the two statistics that take them. No public contract cites these:
-- `updated` feeds channel by channel, and proofs/PassLaws.antt shows that it comes to the same.
use Rattle.std.specs.Prelude.{ℕ, zero, suc, ◌+◌, ◌*◌, cond, List, get_or, set, Float}
use Rattle.std.specs.Float.{nan, binary32, binary64}
use Rattle.std.specs.Float.Ieee.{sub, mul, div, lt}
use Rattle.common.specs.declared.deviation.Deviation.{Deviation}
use Rattle.common.specs.Deviation.{zero64, step_of, is_empty, mean_of}
use Rattle.trcf.specs.Transformer.{statistic_at, put_statistic, slow_decay}

-- what the deviation of a statistic is the root of, 0 where it is 0
unfoldable pub radicand_of : Deviation → Float
radicand_of s =
    let m = div binary64 s.sum s.weight in
    let v = sub binary64 (div binary64 s.sum_squared s.weight) (mul binary64 m m) in
    cond (is_empty s) zero64 (cond (lt zero64 v) v zero64)

-- the statistic at place n fed x
unfoldable pub step_at : List Float → ℕ → Float → ℕ → Float → List Float
step_at l n discount count x = put_statistic l n (step_of (statistic_at l n discount count) x)

-- channel i of d: the value, the difference and the mean of the differences
unfoldable pub first_at : List Float → ℕ → ℕ → Float → ℕ → Float → Float → List Float
first_at l i d decay count x dx =
    let a = step_at l i decay count x in
    step_at (step_at a (i + d) decay count dx) (i + 3 * d) (slow_decay decay) count (mean_of (step_of (statistic_at a (i + d) decay count) dx))

-- channel i of d: the two that take a root
unfoldable pub last_at : List Float → ℕ → ℕ → Float → ℕ → Float → Float → List Float
last_at l i d slow count y z = step_at (step_at l (i + 2 * d) slow count y) (i + 4 * d) slow count z

-- the difference of channel i
abbrev pub difference_of : List Float → List Float → ℕ → Float
difference_of x previous i = sub binary32 (get_or x i nan) (get_or previous i nan)

-- the first pass over n of d channels
unfoldable pub firsts : ℕ → List Float → ℕ → Float → ℕ → List Float → List Float → List Float
firsts zero l d decay count x previous = l
firsts (suc n) l d decay count x previous =
    first_at (firsts n l d decay count x previous) n d decay count (get_or x n nan) (difference_of x previous n)

-- the two radicands of each of n channels, written into a
unfoldable pub radicands : ℕ → List Float → List Float → ℕ → Float → ℕ → List Float → List Float → List Float
radicands zero a l d decay count x previous = a
radicands (suc n) a l d decay count x previous =
    let s = firsts n l d decay count x previous in
    set (set (radicands n a l d decay count x previous) (2 * n) (radicand_of (step_of (statistic_at s n decay count) (get_or x n nan)))) (2 * n + 1)
    (radicand_of (step_of (statistic_at s (n + d) decay count) (difference_of x previous n)))

-- the last pass over n of d channels, with the roots r
unfoldable pub lasts : ℕ → List Float → ℕ → Float → ℕ → List Float → List Float
lasts zero l d slow count r = l
lasts (suc n) l d slow count r = last_at (lasts n l d slow count r) n d slow count (get_or r (2 * n) nan) (get_or r (2 * n + 1) nan)
