-- The calls of demand 3, and rows 10 to 20 (document 01) and 28 (request 114) over the values that they name.
use Rattle.std.specs.Prelude.{ℕ, suc, ◌+◌, ◌*◌, ◌/◌, ◌≤◌, Bool, true, false, cond, not, ◌&&◌, ◌||◌, List, [], ◌∷◌, ltb, leb, eqb, ℤ, pos, negsuc, length, Float}
use Rattle.std.proofs.Math.Option.{Option, none, some}
use Rattle.std.specs.Float.{nan, inf, fin, binary32}
use Rattle.std.specs.Float.Ieee.{lt}
use Rattle.refusal.specs.Refusal.{first_of}
use Rattle.common.specs.Deviation.{count_limit}
use Rattle.ranges.specs.RangeVector.{Ranges, unequal_at, unblocked, shorter_at}
use Rattle.trcf.specs.Lists.{last_or, null}
use Rattle.trcf.specs.Types.{augments, is_gap, differences}
use Rattle.trcf.specs.Transformer.{zero32}
use Rattle.trcf.specs.Settings.{Settings, block, dimension, waiting, Fits, whole_max}

-- ---- calls. Lent memory stands with its old contents

-- `post_process` (document 01: learn)
pub record Learn : Type 0 where
  pub input : List Float
  pub timestamp : ℕ
  pub rcf_point : Option (List Float)  -- y
  pub expected_point : Option (List Float)
  pub grade : Float
  pub relative_index : ℤ
  pub deviations_out : List Float
  pub past_out : List Float
  pub expected_out : List Float

-- `invert_extrapolation` (document 01: turn-back): the forecast, and where TIME_AUGMENTED writes numbers and times
pub record Forecast : Type 0 where
  pub forecast : Ranges
  pub values_out : Ranges
  pub times_out : Ranges

-- Document 01's point, learn, drain, transform, turn-back, scale, shift, status.
pub data Call : Type 0 where
  shingled_point : List Float → ℕ → List Float → Call
  post_process : Learn → Call
  drain : Call
  transform : List Float → ℕ → List Float → Call
  invert_extrapolation : Forecast → Call
  scale : List Float → Call
  shift : List Float → Call
  status : List Float → Call

-- ---- what the rows name

pub record Facts : Type 0 where
  pub values_seen : ℕ
  pub internal_timestamp : ℕ
  pub count : ℕ
  pub previous_timestamps : List ℕ  -- the `tim` line
  pub initial_timestamps : List ℕ  -- the times of the `buf` lines

-- row 18: "values_seen or internal 2^63 − 1"
abbrev pub seen_limit : ℕ
seen_limit = 9223372036854775807

unfoldable pub finite : List Float → Bool
finite [] = true
finite (nan ∷ xs) = false
finite (inf s ∷ xs) = false
finite (fin s m e ∷ xs) = finite xs

-- drain has something to do: values_seen = start, something waiting
unfoldable pub due : Settings → Facts → Bool
due s f = eqb f.values_seen s.start && not (null f.initial_timestamps)

-- row 12's newest: "last in `tim`; with internal 0 the last `buf`, else 0"
unfoldable pub newest : Facts → ℕ
newest f = cond (eqb f.internal_timestamp 0) (last_or 0 f.initial_timestamps) (last_or 0 f.previous_timestamps)

-- "(28: point or transform in G with a time below the newest; after 12.)" (request 114)
unfoldable pub before_newest : Settings → Facts → ℕ → Bool
before_newest s f t = is_gap s.mode && ltb t (newest f)

-- row 13: where given, not `get_dimension` long
unfoldable pub wrong_length : Settings → Option (List Float) → Bool
wrong_length s none = false
wrong_length s (some v) = not (eqb (length v) (dimension s))

module _ {A : Type 0} where
  abbrev pub given : Option A → Bool
  given none = false
  given (some v) = true

-- grade > 0
abbrev pub anomalous : Learn → Bool
anomalous l = lt zero32 l.grade

-- outside 1 − k to 0
unfoldable pub outside : ℕ → ℤ → Bool
outside k (pos n) = not (eqb n 0)
outside k (negsuc n) = leb k (suc n)

-- row 18 of a drain: count + start above the limit, or internal + start above 2^63 − 1
unfoldable pub drain_full : Settings → Facts → Bool
drain_full s f = ltb count_limit (f.count + s.start) || ltb seen_limit (f.internal_timestamp + s.start)

-- row 18 of a learn with y: it looks at count only where values_seen < stop
unfoldable pub learn_full : Settings → Facts → Bool
learn_full s f = (ltb f.values_seen s.stop && leb count_limit f.count) || (leb seen_limit f.values_seen || leb seen_limit f.internal_timestamp)

-- blocks in a TIME_AUGMENTED forecast; "drops a short last block"
unfoldable pub lookahead : Settings → ℕ → ℕ
lookahead s n = n / dimension s

-- the lengths of what is lent to a turn-back: the forecast, and where TIME_AUGMENTED writes numbers and times
pub record Sizes : Type 0 where
  pub values : ℕ
  pub upper : ℕ
  pub lower : ℕ
  pub values_out : ℕ
  pub upper_out : ℕ
  pub lower_out : ℕ
  pub times_out : ℕ
  pub times_upper_out : ℕ
  pub times_lower_out : ℕ

abbrev pub sizes : ℕ → ℕ → ℕ → ℕ → ℕ → ℕ → ℕ → ℕ → ℕ → Sizes
sizes v u l vo uo lo t tu tl =
    record {
      values = v;
      upper = u;
      lower = l;
      values_out = vo;
      upper_out = uo;
      lower_out = lo;
      times_out = t;
      times_upper_out = tu;
      times_lower_out = tl;
    }

abbrev pub sizes_of : Forecast → Sizes
sizes_of c =
    sizes (length c.forecast.values) (length c.forecast.upper) (length c.forecast.lower)
    (length c.values_out.values) (length c.values_out.upper) (length c.values_out.lower)
    (length c.times_out.values) (length c.times_out.upper) (length c.times_out.lower)

-- row 16 of a turn-back: "unequal lengths; where blocks are cascaded, none or a broken one; TIME_AUGMENTED under one block of `get_dimension` numbers"
unfoldable pub forecast_unfit : Settings → ℕ → ℕ → ℕ → Bool
forecast_unfit s v u l =
    unequal_at v u l
    || cond (augments s.mode) (ltb v (dimension s)) (differences s.method && unblocked s.d v)

-- row 20 of a turn-back: TIME_AUGMENTED writes d × k numbers and one time a block; STANDARD works in place
unfoldable pub forecast_output_short : Settings → Sizes → Bool
forecast_output_short s z =
    let h = lookahead s z.values in
    augments s.mode
    && (shorter_at z.values_out z.upper_out z.lower_out (h * (s.d * s.k)) || shorter_at z.times_out z.times_upper_out z.times_lower_out h)

-- row 20 of a learn: the deviations of the waiting reading that completes start, and of every learnt one; past and expected values of an anomaly
unfoldable pub waiting_short : Settings → Facts → Learn → Bool
waiting_short s f l = eqb (suc f.values_seen) s.start && ltb (length l.deviations_out) (block s)

unfoldable pub learn_short : Settings → Learn → Bool
learn_short s l =
    ltb (length l.deviations_out) (block s)
    || ((anomalous l && given l.expected_point) && (ltb (length l.past_out) s.d || ltb (length l.expected_out) s.d))

-- ---- the rows of each call, in document 01's order, each a test and its number

-- a turn-back's, over lengths alone
abbrev pub forecast_table : Settings → Sizes → List (Bool × ℕ)
forecast_table s z = (forecast_unfit s z.values z.upper z.lower, 16) ∷ (forecast_output_short s z, 20) ∷ []

unfoldable pub table : Settings → Facts → Call → List (Bool × ℕ)
table s f (shingled_point x t out) =
    let past = not (waiting s f.values_seen) in
    (not (eqb (length x) s.d), 10)
    ∷ (not (finite x), 11)
    ∷ (before_newest s f t, 28)
    ∷ (past && (due s f && drain_full s f), 18)
    ∷ (past && ltb (length out) (dimension s), 20)
    ∷ []
table s f (post_process l) =
    let waits = waiting s f.values_seen in
    let past = not waits in
    (not (eqb (length l.input) s.d), 10)
    ∷ (not (finite l.input), 11)
    ∷ (ltb l.timestamp (newest f), 12)
    ∷ (past && (wrong_length s l.rcf_point || wrong_length s l.expected_point), 13)
    ∷ (past && (given l.rcf_point && (anomalous l && outside s.k l.relative_index)), 14)
    ∷ (cond waits (leb seen_limit f.values_seen) (given l.rcf_point && learn_full s f), 18)
    ∷ (cond waits (waiting_short s f l) (given l.rcf_point && learn_short s l), 20)
    ∷ []
table s f drain = (eqb f.values_seen s.start && null f.initial_timestamps, 15) ∷ (due s f && drain_full s f, 18) ∷ []
table s f (transform x t out) = (not (eqb (length x) s.d), 10) ∷ (before_newest s f t, 28) ∷ (ltb (length out) (block s), 20) ∷ []
table s f (invert_extrapolation c) = forecast_table s (sizes_of c)
table s f (scale out) = (ltb (length out) (block s), 20) ∷ []
table s f (shift out) = (ltb (length out) (block s), 20) ∷ []
table s f (status out) = (ltb (length out) (block s), 20) ∷ []

-- the number of the row that refuses, 0 for none
unfoldable pub rows : Settings → Facts → Call → ℕ
rows s f c = first_of (table s f c)

-- ---- machine values

abbrev pub FitsGiven : Option (List Float) → Type 0
FitsGiven none = Unit {0}
FitsGiven (some y) = Fits binary32 y

-- the arguments that the preprocessor keeps are ones that the program can hold
abbrev pub Machine : Call → Type 0
Machine (shingled_point x t out) = Unit {0}
Machine (post_process l) = Fits binary32 l.input × (l.timestamp ≤ whole_max) × FitsGiven l.rcf_point
Machine drain = Unit {0}
Machine (transform x t out) = Unit {0}
Machine (invert_extrapolation c) = Unit {0}
Machine (scale out) = Unit {0}
Machine (shift out) = Unit {0}
Machine (status out) = Unit {0}
