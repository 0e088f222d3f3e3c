-- The preprocessor: what a snapshot holds of it, and what each call makes and answers, step by step as the source does.
use Rattle.std.specs.Prelude.{ℕ, zero, suc, ◌+◌, ◌-◌, ◌*◌, Bool, true, false, cond, List, [], ◌∷◌, ◌++◌, ltb, leb, eqb, ℤ, pos, negsuc, length, take, drop, get_or, replicate, Float}
use Rattle.std.proofs.Math.Option.{Option, none, some}
use Rattle.std.specs.Float.{Format, nan, binary32, binary64}
use Rattle.std.specs.Float.Ieee.{add, sub, mul, div, eq, of_int}
use Rattle.numeric.specs.Narrow.{narrowed}
use Rattle.common.specs.Deviation.{zero64, one64}
pub use Rattle.refusal.specs.Refusal.{accepted}
use Rattle.refusal.specs.Lent.{over}
use Rattle.ranges.specs.RangeVector.{Ranges, ranges, settled, cascade_to, over_all}
use Rattle.trcf.specs.Lists.{last_n, last_or, shift_in, overwrite}
use Rattle.trcf.specs.Types.{augments, is_gap}
use Rattle.trcf.specs.Transformer.{zero32, one32, mean_at, deviation_at, fed_at, updated, transformed, inverted, inverted_forecast, scales, shifts, difference_deviations}
use Rattle.trcf.specs.Settings.{Settings, transformer, dimension, waiting}
use Rattle.trcf.specs.Calls.{Learn, Forecast, Call, shingled_point, post_process, drain, transform, invert_extrapolation, scale, shift, status, Facts, rows, due, newest, anomalous, lookahead}
use Rattle.trcf.specs.declared.types.TransformMethod.{TransformMethod}
use Rattle.trcf.specs.declared.types.ForestMode.{ForestMode}
pub use Rattle.trcf.specs.declared.head.Anomaly.{Anomaly}

-- ---- the state (document 01: watch): exactly what the snapshot holds

pub record State : Type 0 where
  pub settings : Settings
  pub values_seen : ℕ
  pub internal_timestamp : ℕ
  pub count : ℕ  -- readings fed to the statistics
  pub statistics : List Float  -- three numbers to each of 5d + 5
  pub last_shingled_input : List Float
  pub last_shingled_point : List Float
  pub previous_timestamps : List ℕ
  pub initial_values : List Float
  pub initial_timestamps : List ℕ

-- "5d lines … then time's five"
abbrev pub statistics_length : Settings → ℕ
statistics_length s = 3 * (5 * s.d + 5)

-- what `build` gives
unfoldable pub fresh : Settings → State
fresh s =
    record {
      settings = s;
      values_seen = 0;
      internal_timestamp = 0;
      count = 0;
      statistics = replicate (statistics_length s) zero64;
      last_shingled_input = replicate (s.d * s.k) zero32;
      last_shingled_point = replicate (dimension s) zero32;
      previous_timestamps = replicate s.k 0;
      initial_values = [];
      initial_timestamps = [];
    }

unfoldable pub facts : State → Facts
facts w =
    record {
      values_seen = w.values_seen;
      internal_timestamp = w.internal_timestamp;
      count = w.count;
      previous_timestamps = w.previous_timestamps;
      initial_timestamps = w.initial_timestamps;
    }

unfoldable pub refusal : State → Call → ℕ
refusal w c = rows w.settings (facts w) c

-- ---- readings, and feeding one to all statistics

pub record Reading : Type 0 where
  pub value : List Float
  pub time : ℕ

abbrev pub reading : List Float → ℕ → Reading
reading x t = record { value = x; time = t }

-- "Time has five statistics too", after the channels'
unfoldable pub time_fed : Settings → ℕ → List Float → ℕ → ℕ → List Float
time_fed s count st t previous =
    fed_at st (5 * s.d) 1 s.decay count (of_int binary64 (pos t)) (of_int binary64 (pos (t - previous)))

-- r fed to all statistics, after the reading p; count is how many were fed before
unfoldable pub feed : Settings → ℕ → List Float → Reading → Reading → List Float
feed s count st p r = time_fed s count (updated (transformer s count st) r.value p.value) r.time p.time

-- ---- what the time's statistics say

unfoldable pub timescale : Settings → List Float → Float
timescale s st = add binary64 (mean_at st (5 * s.d + 4)) one64

unfoldable pub timedrift : Settings → List Float → Float
timedrift s st = mean_at st (5 * s.d + 3)

-- whole numbers "turned to f64, multiplied, divided"
abbrev pub weighted : Settings → List Float → ℕ → Float
weighted s st n = div binary64 (mul binary64 (of_int binary64 (pos n)) s.weight_time) (timescale s st)

-- "the time element is timestamp − (previous × weight_time / timescale)"; in G "(timestamp − newest time) × weight_time / timescale … subtracted as whole
-- numbers, turned to f64, multiplied, divided and narrowed once" (request 114)
unfoldable pub time_element : Settings → List Float → ℕ → ℕ → Float
time_element s st t previous =
    narrowed (cond (is_gap s.mode) (weighted s st (t - previous)) (sub binary64 (of_int binary64 (pos t)) (weighted s st previous)))

-- "Turned-back gaps and the time shift omit the drift" (request 114): it is not added, so not even as 0
abbrev pub drifted : Format → Settings → Float → Float → Float
drifted f s x drift = cond (is_gap s.mode) x (add f x drift)

-- where the mode has a time element, one number more
abbrev pub with_time : Settings → List Float → Float → List Float
with_time s v x = v ++ cond (augments s.mode) (x ∷ []) []

-- `transform` of r after the reading p: the time counts as its own previous while values_seen is 0
unfoldable pub transformed_after : Settings → List Float → ℕ → Reading → Reading → List Float
transformed_after s st seen p r =
    with_time s (transformed (transformer s 0 st) r.value p.value) (time_element s st r.time (cond (eqb seen 0) r.time p.time))

-- ---- the parts of a call

-- newest input and newest time
unfoldable pub previous : State → Reading
previous w = reading (last_n w.settings.d w.last_shingled_input) (last_or 0 w.previous_timestamps)

-- the time that a point's and a transform's time element is counted from: "with row 12's newest" (request 114), otherwise the last of `tim`
unfoldable pub time_base : State → ℕ
time_base w = cond (is_gap w.settings.mode) (newest (facts w)) (last_or 0 w.previous_timestamps)

-- newest input and that time
unfoldable pub preceding : State → Reading
preceding w = reading (last_n w.settings.d w.last_shingled_input) (time_base w)

-- the waiting readings, out of the flat lists
abbrev pub blocks : ℕ → List Float → List ℕ → List Reading
blocks n v [] = []
blocks n v (t ∷ ts) = reading (take n v) t ∷ blocks n (drop n v) ts

-- drain's first pass: all are fed, each after the one before it
abbrev pub feed_all : Settings → ℕ → List Float → Reading → List Reading → List Float
feed_all s c st p [] = st
feed_all s c st p (r ∷ rs) = feed_all s (suc c) (feed s c st p r) r rs

-- between the passes: the first reading stands as the newest
unfoldable pub primed : State → Reading → List Reading → State
primed w r rs =
    record {
      settings = w.settings;
      values_seen = w.values_seen;
      internal_timestamp = w.internal_timestamp;
      count = w.count + length rs;
      statistics = feed_all w.settings w.count w.statistics r rs;
      last_shingled_input = overwrite w.last_shingled_input r.value;
      last_shingled_point = w.last_shingled_point;
      previous_timestamps = overwrite w.previous_timestamps (r.time ∷ []);
      initial_values = [];
      initial_timestamps = [];
    }

-- drain's second pass: one reading comes into the shingles; "in F each W's newest is the W before, the first its own" (request 114), as the last of `tim` is
unfoldable pub drain_one : State → Reading → State
drain_one w r =
    record {
      settings = w.settings;
      values_seen = w.values_seen;
      internal_timestamp = suc w.internal_timestamp;
      count = w.count;
      statistics = w.statistics;
      last_shingled_input = shift_in w.last_shingled_input r.value;
      last_shingled_point = shift_in w.last_shingled_point (transformed_after w.settings w.statistics w.values_seen (previous w) r);
      previous_timestamps = shift_in w.previous_timestamps (r.time ∷ []);
      initial_values = w.initial_values;
      initial_timestamps = w.initial_timestamps;
    }

abbrev pub drain_each : State → List Reading → State
drain_each w [] = w
drain_each w (r ∷ rs) = drain_each (drain_one w r) rs

unfoldable pub drain_all : State → List Reading → State
drain_all w [] = w
drain_all w (r ∷ rs) = drain_each (primed w r (r ∷ rs)) (r ∷ rs)

unfoldable pub drained : State → State
drained w = cond (due w.settings (facts w)) (drain_all w (blocks w.settings.d w.initial_values w.initial_timestamps)) w

-- the reading waits
unfoldable pub buffered : State → Learn → State
buffered w l =
    record {
      settings = w.settings;
      values_seen = suc w.values_seen;
      internal_timestamp = w.internal_timestamp;
      count = w.count;
      statistics = w.statistics;
      last_shingled_input = w.last_shingled_input;
      last_shingled_point = w.last_shingled_point;
      previous_timestamps = w.previous_timestamps;
      initial_values = w.initial_values ++ l.input;
      initial_timestamps = w.initial_timestamps ++ (l.timestamp ∷ []);
    }

-- `update`
unfoldable pub learned : State → Reading → List Float → State
learned w r y =
    let feeds = ltb w.values_seen w.settings.stop in
    record {
      settings = w.settings;
      values_seen = suc w.values_seen;
      internal_timestamp = suc w.internal_timestamp;
      count = cond feeds (suc w.count) w.count;
      statistics = cond feeds (feed w.settings w.count w.statistics (previous w) r) w.statistics;
      last_shingled_input = shift_in w.last_shingled_input r.value;
      last_shingled_point = y;
      previous_timestamps = shift_in w.previous_timestamps (r.time ∷ []);
      initial_values = w.initial_values;
      initial_timestamps = w.initial_timestamps;
    }

unfoldable pub learned_with : State → Reading → Option (List Float) → State
learned_with w r none = w
learned_with w r (some y) = learned w r y

-- ---- what a call leaves

-- a call that no row refuses
unfoldable pub change : State → Call → State
change w (shingled_point x t out) = cond (waiting w.settings w.values_seen) w (drained w)
change w (post_process l) = cond (waiting w.settings w.values_seen) (buffered w l) (learned_with w (reading l.input l.timestamp) l.rcf_point)
change w drain = drained w
change w (transform x t out) = w
change w (invert_extrapolation c) = w
change w (scale out) = w
change w (shift out) = w
change w (status out) = w

-- "a refusal leaves state and lent memory unchanged"
unfoldable pub next : State → Call → State
next w c = accepted (refusal w c) (change w c) w

abbrev pub run : State → List Call → State
run w [] = w
run w (c ∷ cs) = run (next w c) cs

-- ---- answers

-- weight_time × the deviation of the time's second statistic stands after the channels' numbers
unfoldable pub deviations : State → List Float
deviations w =
    with_time w.settings (difference_deviations (transformer w.settings 0 w.statistics))
    (mul binary32 w.settings.weight_time (narrowed (deviation_at w.statistics (5 * w.settings.d + 1))))

unfoldable pub scale_of : State → List Float
scale_of w =
    let wt = w.settings.weight_time in
    with_time w.settings (scales (transformer w.settings 0 w.statistics))
    (mul binary32 (cond (eq wt zero32) zero32 (div binary32 one32 wt)) (narrowed (timescale w.settings w.statistics)))

unfoldable pub shift_of : State → List Float
shift_of w =
    with_time w.settings (shifts (transformer w.settings 0 w.statistics))
    (drifted binary32 w.settings (of_int binary32 (pos (last_or 0 w.previous_timestamps))) (narrowed (timedrift w.settings w.statistics)))

-- `transform`
abbrev pub transform_of : Reading → State → List Float
transform_of r w = transformed_after w.settings w.statistics w.values_seen (preceding w) r

-- `shingled_point`: the point with the transformed reading after it
unfoldable pub point_of : State → Reading → List Float
point_of w r = shift_in w.last_shingled_point (transform_of r w)

-- ---- turn-back

-- of each of h blocks of a numbers the first m, and the one after those
abbrev pub fronts : ℕ → ℕ → ℕ → List Float → List Float
fronts a m zero l = []
fronts a m (suc h) l = take m l ++ fronts a m h (drop a l)

abbrev pub backs : ℕ → ℕ → ℕ → List Float → List Float
backs a m zero l = []
backs a m (suc h) l = get_or l m nan ∷ backs a m h (drop a l)

unfoldable pub invert_time : Settings → List Float → Float → Float
invert_time s st x =
    let factor = cond (eq s.weight_time zero32) zero64 (div binary64 one64 s.weight_time) in
    drifted binary64 s (mul binary64 (mul binary64 x factor) (timescale s st)) (timedrift s st)

-- each time turned back, its bounds put in order
abbrev pub invert_times : Settings → List Float → List Float → List Float → List Float → Ranges
invert_times s st [] us ls = ranges [] [] []
invert_times s st (v ∷ vs) [] ls = ranges [] [] []
invert_times s st (v ∷ vs) (u ∷ us) [] = ranges [] [] []
invert_times s st (v ∷ vs) (u ∷ us) (l ∷ ls) =
    let r = settled (invert_time s st v) (invert_time s st u) (invert_time s st l) in
    let rest = invert_times s st vs us ls in
    ranges (r.value ∷ rest.values) (r.upper ∷ rest.upper) (r.lower ∷ rest.lower)

-- "turn-back in TIME_AUGMENTED reads d × k numbers, then one time, per block, and drops a short last block"; in G as in T
unfoldable pub numbers_of : State → Ranges → Ranges
numbers_of w v =
    let s = w.settings in
    let h = lookahead s (length v.values) in
    let cut = fronts (dimension s) (s.d * s.k) h in
    inverted_forecast (transformer s 0 w.statistics) (previous w).value (ranges (cut v.values) (cut v.upper) (cut v.lower))

unfoldable pub times_of : State → Ranges → Ranges
times_of w v =
    let s = w.settings in
    let h = lookahead s (length v.values) in
    let cut = backs (dimension s) (s.d * s.k) h in
    cascade_to binary64 (of_int binary64 (pos (previous w).time) ∷ []) h
    (invert_times s w.statistics (cut v.values) (cut v.upper) (cut v.lower))

-- ---- learn's anomaly: `last_anomaly`

-- k + relative_index − 1
abbrev pub block_at : ℕ → ℤ → ℕ
block_at k (pos n) = k - 1 + n
block_at k (negsuc n) = k - 1 - suc n

abbrev pub is_zero : ℤ → Bool
is_zero (pos n) = eqb n 0
is_zero (negsuc n) = false

unfoldable pub block_from : ℕ → ℕ → List Float → List Float
block_from d i l = take d (drop (i * d) l)

-- `past_values`: the reading itself for index 0, else the block after the one named
unfoldable pub past_values : State → Learn → List Float
past_values w l =
    let d = w.settings.d in
    cond (is_zero l.relative_index) l.input (block_from d (suc (block_at w.settings.k l.relative_index)) w.last_shingled_input)

unfoldable pub expected_values : State → Learn → List Float → List Float
expected_values w l x =
    let b = block_at w.settings.k l.relative_index in
    let d = w.settings.d in
    inverted (transformer w.settings 0 w.statistics) (block_from d b x) (block_from d b w.last_shingled_input)

-- "`past_timestamp` is always one reading before the one in `past_values`"
unfoldable pub anomaly_of : State → Learn → Anomaly
anomaly_of w l = record { past_timestamp = get_or w.previous_timestamps (block_at w.settings.k l.relative_index) 0; likelihood = one32 }

-- ---- an answer: the return, and the final contents of the output lent to the call

pub record Learned : Type 0 where
  pub written : Bool  -- whether `deviations_post` is given
  pub anomaly : Option Anomaly
  pub deviations_out : List Float
  pub past_out : List Float
  pub expected_out : List Float

pub record Status : Type 0 where
  pub values_seen : ℕ
  pub internal_timestamp : ℕ
  pub ready : Bool
  pub input_dimensions : ℕ
  pub shingle_size : ℕ
  pub dimensions : ℕ
  pub method : TransformMethod
  pub mode : ForestMode
  pub start : ℕ
  pub panel : ℕ
  pub deviations_out : List Float

pub data Answer : Type 0 where
  refused : ℕ → Answer  -- everything lent is as it was
  absent : Answer  -- point while waiting: none, and the output is as it was
  done : Answer
  wrote : List Float → Answer
  learnt : Learned → Answer
  turned : Forecast → Answer
  told : Status → Answer

unfoldable pub learned_nothing : Learn → Learned
learned_nothing l =
    record { written = false; anomaly = none; deviations_out = l.deviations_out; past_out = l.past_out; expected_out = l.expected_out }

-- the deviations are written, and there is no anomaly
abbrev pub deviations_alone : Learn → List Float → Learned
deviations_alone l v =
    record { written = true; anomaly = none; deviations_out = over l.deviations_out v; past_out = l.past_out; expected_out = l.expected_out }

unfoldable pub buffered_answer : State → Learn → Learned
buffered_answer w l = cond (eqb (suc w.values_seen) w.settings.start) (deviations_alone l (deviations w)) (learned_nothing l)

-- with y: the deviations after the update; and, where an anomaly's expected point is given, the anomaly, from before it
unfoldable pub learned_answer : State → Learn → List Float → Option (List Float) → Learned
learned_answer w l y (some x) =
    record {
      written = true;
      anomaly = some (anomaly_of w l);
      deviations_out = over l.deviations_out (deviations (learned w (reading l.input l.timestamp) y));
      past_out = over l.past_out (past_values w l);
      expected_out = over l.expected_out (expected_values w l x);
    }
learned_answer w l y none = deviations_alone l (deviations (learned w (reading l.input l.timestamp) y))

unfoldable pub learn_answer : State → Learn → Option (List Float) → Learned
learn_answer w l none = learned_nothing l
-- the expected point counts where the grade is above 0
learn_answer w l (some y) = learned_answer w l y (cond (anomalous l) l.expected_point none)

-- STANDARD works in place; a mode with a time element writes numbers and times
unfoldable pub turned_back : State → Forecast → Forecast
turned_back w c =
    cond (augments w.settings.mode)
    (record {
      forecast = c.forecast;
      values_out = over_all c.values_out (numbers_of w c.forecast);
      times_out = over_all c.times_out (times_of w c.forecast);
    })
    (record {
      forecast = inverted_forecast (transformer w.settings 0 w.statistics) (previous w).value c.forecast;
      values_out = c.values_out;
      times_out = c.times_out;
    })

-- The number on the panel: "The trade now reads the panel as readings fed to the statistics, so it shows count." (request 102)
abbrev pub panel_of : State → ℕ
panel_of w = w.count

-- "Ready means internal ≥ k."
abbrev pub is_ready : State → Bool
is_ready w = leb w.settings.k w.internal_timestamp

unfoldable pub status_of : State → List Float → Status
status_of w out =
    record {
      values_seen = w.values_seen;
      internal_timestamp = w.internal_timestamp;
      ready = is_ready w;
      input_dimensions = w.settings.d;
      shingle_size = w.settings.k;
      dimensions = dimension w.settings;
      method = w.settings.method;
      mode = w.settings.mode;
      start = w.settings.start;
      panel = panel_of w;
      deviations_out = over out (deviations w);
    }

-- past waiting
abbrev pub point_reply : State → List Float → ℕ → List Float → List Float
point_reply w x t out = over out (point_of (drained w) (reading x t))

abbrev pub learn_reply : State → Learn → Learned
learn_reply w l = cond (waiting w.settings w.values_seen) (buffered_answer w l) (learn_answer w l l.rcf_point)

-- a call that no row refuses
unfoldable pub reply : State → Call → Answer
reply w (shingled_point x t out) = cond (waiting w.settings w.values_seen) absent (wrote (point_reply w x t out))
reply w (post_process l) = learnt (learn_reply w l)
reply w drain = done
reply w (transform x t out) = wrote (over out (transform_of (reading x t) w))
reply w (invert_extrapolation c) = turned (turned_back w c)
reply w (scale out) = wrote (over out (scale_of w))
reply w (shift out) = wrote (over out (shift_of w))
reply w (status out) = told (status_of w out)

unfoldable pub answer : State → Call → Answer
answer w c = accepted (refusal w c) (reply w c) (refused (refusal w c))

abbrev pub answers : State → List Call → List Answer
answers w [] = []
answers w (c ∷ cs) = answer w c ∷ answers (next w c) cs
