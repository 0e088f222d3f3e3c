-- Turn-back as the code works it out: what a row 0 says of the lengths, and the times over the numbers that no block changes. Only private contracts and proofs cite this.
use Rattle.std.specs.Prelude.{ℕ, ◌+◌, ◌*◌, ◌≤◌, ◌≡◌, Bool, true, false, cond, ◌&&◌, Float}
use Rattle.std.specs.Float.{binary64}
use Rattle.std.specs.Float.Ieee.{mul, div, eq}
use Rattle.common.specs.Deviation.{zero64, one64}
use Rattle.ranges.specs.RangeVector.{Range, range, Ranges, ranges, shifted, scaled, range_at, unblocked}
use Rattle.trcf.specs.Lists.{tabulate}
use Rattle.trcf.specs.Types.{augments, differences}
use Rattle.trcf.specs.Transformer.{zero32}
use Rattle.trcf.specs.Settings.{Settings, dimension}
use Rattle.trcf.specs.Calls.{Sizes, lookahead}
use Rattle.trcf.specs.Preprocessor.{statistics_length}
use Rattle.trcf.specs.View.{Bounded}

-- what a row 0 says of each
pub record Unbroken (s : Settings) (v u l : ℕ) : Type 0 where
  pub upper : u ≡ v
  pub lower : l ≡ v
  pub blocks : augments s.mode ≡ true → dimension s ≤ v
  pub cascades : augments s.mode ≡ false → (differences s.method && unblocked s.d v) ≡ false

pub record Longer (n v u l : ℕ) : Type 0 where
  pub values : n ≤ v
  pub upper : n ≤ u
  pub lower : n ≤ l

pub record Long (s : Settings) (z : Sizes) : Type 0 where
  pub numbers : Longer (lookahead s z.values * (s.d * s.k)) z.values_out z.upper_out z.lower_out
  pub times : Longer (lookahead s z.values) z.times_out z.times_upper_out z.times_lower_out

pub record Readable (s : Settings) (st x ts : ℕ) : Type 0 where
  pub statistics : statistics_length s ≤ st
  pub inputs : s.d * s.k ≤ x
  pub times : s.k ≤ ts

pub record Invertible (s : Settings) (st x ts : ℕ) (z : Sizes) : Type 0 where
  pub bounded : Bounded s
  pub unbroken : Unbroken s z.values z.upper z.lower
  pub long : augments s.mode ≡ true → Long s z
  pub readable : Readable s st x ts

unfoldable pub time_factor : Float → Float
time_factor w = cond (eq w zero32) zero64 (div binary64 one64 w)

abbrev pub stretched : Float → Float → Float → Float
stretched factor scale x = mul binary64 (mul binary64 x factor) scale

-- a time with its bounds, put in order by the last step: in G that is the scale, elsewhere the drift's shift
unfoldable pub time_by : Bool → Float → Float → Float → Range → Range
time_by gap factor scale drift r =
    cond gap (scaled binary64 (range (mul binary64 r.value factor) (mul binary64 r.upper factor) (mul binary64 r.lower factor)) scale)
    (shifted binary64 (range (stretched factor scale r.value) (stretched factor scale r.upper) (stretched factor scale r.lower)) drift)

-- the time of block i of a numbers, after m of them
abbrev pub time_at : Bool → Float → Float → Float → ℕ → ℕ → Ranges → ℕ → Range
time_at gap factor scale drift a m v i = time_by gap factor scale drift (range_at v (i * a + m))

-- of the first h blocks
unfoldable pub times_by : Bool → Float → Float → Float → ℕ → ℕ → Ranges → ℕ → Ranges
times_by gap factor scale drift a m v h =
    ranges (tabulate h (λ i. (time_at gap factor scale drift a m v i).value)) (tabulate h (λ i. (time_at gap factor scale drift a m v i).upper))
    (tabulate h (λ i. (time_at gap factor scale drift a m v i).lower))
