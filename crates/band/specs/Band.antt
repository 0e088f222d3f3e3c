-- Request #107, the band the right way up: what every accepted turn-back leaves, and what it depends on. proofs/Upright.antt proves it, proofs/HeldUpright.antt of what the program holds.
use Rattle.std.specs.Prelude.{ℕ, ◌*◌, ◌%◌, ◌≡◌, Bool, true, false, cond, List, [], length, take, get_or, Float}
use Rattle.std.specs.Float.{nan}
use Rattle.std.specs.Float.Ieee.{lt}
use Rattle.ranges.specs.RangeVector.{Ranges, ranges}
use Rattle.trcf.specs.Types.{augments}
use Rattle.trcf.specs.Settings.{Settings}
use Rattle.trcf.specs.Calls.{Forecast, invert_extrapolation, lookahead}
use Rattle.trcf.specs.Preprocessor.{State, Answer, turned, answer, refusal}
use Rattle.trcf.specs.Extrapolation.{extrapolation_of}
use Rattle.trcf.specs.View.{settings_of}
use Rattle.trcf.specs.declared.head.Preprocessor.{Preprocessor}

-- "no upper below its value and no lower above it … not-a-numbers included": `lt` is IEEE's of any width, false where one of the two is not a number.
-- n of each; past the end stands a not-a-number, so no index is left out.
pub record Upright (n : ℕ) (v : Ranges) : Type 0 where
  pub values_long : length v.values ≡ n
  pub upper_long : length v.upper ≡ n
  pub lower_long : length v.lower ≡ n
  pub no_upper_below : (i : ℕ) → lt (get_or v.upper i nan) (get_or v.values i nan) ≡ false
  pub no_lower_above : (i : ℕ) → lt (get_or v.values i nan) (get_or v.lower i nan) ≡ false

-- ---- what the call c writes, and where it stands in what it leaves, r

abbrev pub first_ranges : ℕ → Ranges → Ranges
first_ranges n v = ranges (take n v.values) (take n v.upper) (take n v.lower)

-- STANDARD works in place; a mode with a time element writes d × k numbers and one time a block
abbrev pub numbers_count : Settings → Forecast → ℕ
numbers_count s c = cond (augments s.mode) (lookahead s (length c.forecast.values) * (s.d * s.k)) (length c.forecast.values)

abbrev pub times_count : Settings → Forecast → ℕ
times_count s c = cond (augments s.mode) (lookahead s (length c.forecast.values)) 0

abbrev pub numbers_in : Settings → Forecast → Forecast → Ranges
numbers_in s c r = first_ranges (numbers_count s c) (cond (augments s.mode) r.values_out r.forecast)

abbrev pub times_in : Settings → Forecast → Forecast → Ranges
times_in s c r = first_ranges (times_count s c) r.times_out

-- "a whole number of d-blocks in mode S"; equal lengths are row 16's, so every accepted call has them
abbrev pub WholeBlocks : Settings → Forecast → Type 0
WholeBlocks s c = augments s.mode ≡ false → length c.forecast.values % s.d ≡ 0

pub record UprightBand (s : Settings) (c r : Forecast) : Type 0 where
  pub numbers : Upright (numbers_count s c) (numbers_in s c r)
  pub times : Upright (times_count s c) (times_in s c r)

-- the values, or the uppers, of all that c and e write are the same
pub record Same (part : Ranges → List Float) (s : Settings) (c r e q : Forecast) : Type 0 where
  pub numbers : part (numbers_in s c r) ≡ part (numbers_in s e q)
  pub times : part (times_in s c r) ≡ part (times_in s e q)

abbrev pub SameValues : Settings → Forecast → Forecast → Forecast → Forecast → Type 0
SameValues = Same (λ v. v.values)

abbrev pub SameUppers : Settings → Forecast → Forecast → Forecast → Forecast → Type 0
SameUppers = Same (λ v. v.upper)

-- ---- lengths, all that the rows look at

pub record AsLong (v w : Ranges) : Type 0 where
  pub values : length v.values ≡ length w.values
  pub upper : length v.upper ≡ length w.upper
  pub lower : length v.lower ≡ length w.lower

pub record AllAsLong (c e : Forecast) : Type 0 where
  pub forecast : AsLong c.forecast e.forecast
  pub values_out : AsLong c.values_out e.values_out
  pub times_out : AsLong c.times_out e.times_out

-- ---- the statement: every state, every method, any weights, both modes

abbrev pub Turns : State → Forecast → Forecast → Type 0
Turns w c r = answer w (invert_extrapolation c) ≡ turned r

pub record Band : Type 0 where
  pub upright : (w : State) (c r : Forecast) → Turns w c r → WholeBlocks w.settings c → UprightBand w.settings c r
  -- "the values, and the value of each time, depend on the values list and the trace only"
  pub values : (w : State) (c e r q : Forecast) → Turns w c r → Turns w e q → c.forecast.values ≡ e.forecast.values → SameValues w.settings c r e q
  -- "Upper likewise never depends on lower."
  pub uppers : (w : State) (c e r q : Forecast) → Turns w c r → Turns w e q → c.forecast.values ≡ e.forecast.values
      → c.forecast.upper ≡ e.forecast.upper → SameUppers w.settings c r e q
  -- and whether it is refused, on lengths only
  pub refused : (w : State) (c e : Forecast) → AllAsLong c e → refusal w (invert_extrapolation c) ≡ refusal w (invert_extrapolation e)

-- the same of what the program holds: a head, the three lent lists that the call reads, and what it leaves in the nine that are lent to be written
abbrev pub Leaves : Preprocessor → List Float → List Float → List ℕ → Forecast → Forecast → Type 0
Leaves h st x ts c r = ((extrapolation_of h st x ts c).row ≡ 0) × ((extrapolation_of h st x ts c).left ≡ r)

pub record HeldBand : Type 0 where
  pub upright : (h : Preprocessor) (st x : List Float) (ts : List ℕ) (c r : Forecast) → Leaves h st x ts c r → WholeBlocks (settings_of h) c
      → UprightBand (settings_of h) c r
  pub values : (h : Preprocessor) (st x : List Float) (ts : List ℕ) (c e r q : Forecast) → Leaves h st x ts c r → Leaves h st x ts e q
      → c.forecast.values ≡ e.forecast.values → SameValues (settings_of h) c r e q
  pub uppers : (h : Preprocessor) (st x : List Float) (ts : List ℕ) (c e r q : Forecast) → Leaves h st x ts c r → Leaves h st x ts e q
      → c.forecast.values ≡ e.forecast.values → c.forecast.upper ≡ e.forecast.upper → SameUppers (settings_of h) c r e q
  pub refused : (h : Preprocessor) (st x : List Float) (ts : List ℕ) (c e : Forecast) → AllAsLong c e
      → (extrapolation_of h st x ts c).row ≡ (extrapolation_of h st x ts e).row
