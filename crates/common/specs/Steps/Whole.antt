-- The steps by which `corrected` tests for whole numbers and moves one. Definitions only.
use Rattle.std.specs.Prelude.{cond, T, Float}
use Rattle.std.specs.Float.Ieee.{neg, lt}
use Rattle.common.specs.Deviation.{zero64}
use Rattle.common.specs.Corrected.{whole_within}

-- the size of a float; a zero keeps its sign
unfoldable pub float_size : Float → Float
float_size x = cond (lt x zero64) (neg x) x

-- whole, and of size at most 2 ^ 52: a sum of two such is exact as an f64
abbrev pub Summand : Float → Type 0
Summand x = T (whole_within 4503599627370496 x)
