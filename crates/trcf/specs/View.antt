-- The preprocessor as the program holds it, settings and counters by value and six lent lists, and what each call makes of both.
use Rattle.std.specs.Prelude.{ℕ, zero, suc, ◌*◌, ◌≤◌, ◌<◌, Bool, true, false, cond, not, ◌&&◌, ◌||◌, List, [], ◌∷◌, ◌≡◌, ltb, leb, eqb, ℤ, pos, negsuc, length, take, replicate, Float, Result, Ok, Err}
use Rattle.std.proofs.Math.Option.{Option, none, some}
use Rattle.std.specs.Prelude.{Option as Held, Some, None}
use Rattle.common.specs.Deviation.{zero64, count_limit}
use Rattle.trcf.specs.Lists.{last_or}
use Rattle.refusal.specs.Refusal.{number_of, first_of}
use Rattle.refusal.specs.declared.Refusal.{Refusal}
use Rattle.refusal.specs.Lent.{over}
use Rattle.trcf.specs.Transformer.{zero32}
use Rattle.trcf.specs.Types.{normalizes, method_number, mode_letter, is_gap}
use Rattle.trcf.specs.Settings.{Settings, input_limit, shingle_limit, start_bound, settings_row, dimension, waiting}
use Rattle.trcf.specs.Calls.{Learn, Call, shingled_point, post_process, drain, status, rows, seen_limit, given}
use Rattle.trcf.specs.Preprocessor.{State, Answer, refused, Status, Anomaly, Learned, learned_nothing, statistics_length, fresh, facts, change, is_ready, panel_of, status_of}
use Rattle.trcf.specs.Preprocessor.{point_reply, learn_reply, reply, accepted}
use Rattle.trcf.specs.declared.types.TransformMethod.TheVariants.{NONE}
use Rattle.trcf.specs.declared.types.ForestMode.TheVariants.{STANDARD}
use Rattle.trcf.specs.declared.head.Preprocessor.{Preprocessor}
use Rattle.trcf.specs.declared.head.PreprocessorBuilder.{PreprocessorBuilder}
use Rattle.trcf.specs.declared.head.LentLists.{LentLists}
use Rattle.trcf.specs.declared.head.LentLengths.{LentLengths}
use Rattle.trcf.specs.declared.head.Pointed.{Pointed}
use Rattle.trcf.specs.declared.head.PostProcessed.{PostProcessed}
use Rattle.trcf.specs.declared.head.Status.{Status as Told}

-- ---- what is lent

pub record Lent : Type 0 where
  pub statistics : List Float
  pub last_shingled_input : List Float
  pub last_shingled_point : List Float
  pub previous_timestamps : List ℕ
  pub initial_values : List Float
  pub initial_timestamps : List ℕ

abbrev pub lent : List Float → List Float → List Float → List ℕ → List Float → List ℕ → Lent
lent st x p ts v vt =
    record {
      statistics = st;
      last_shingled_input = x;
      last_shingled_point = p;
      previous_timestamps = ts;
      initial_values = v;
      initial_timestamps = vt;
    }

-- what the program lends to be read
abbrev pub lent_by : LentLists → Lent
lent_by v =
    lent v.statistics.now v.last_shingled_input.now v.last_shingled_point.now v.previous_timestamps.now v.initial_values.now v.initial_timestamps.now

-- ---- the state that a head and the lent lists hold: of each list the part in use

abbrev pub settings_of : Preprocessor → Settings
settings_of h =
    record {
      mode = h.forest_mode;
      method = h.transformer.transform_method;
      d = h.transformer.input_length;
      k = h.shingle_size;
      start = h.start_normalization;
      stop = h.stop_normalization;
      decay = h.transformer.transform_decay;
      weight_time = h.weight_time;
      weights = take h.transformer.input_length h.transformer.weights;
      codes = take h.transformer.input_length h.codes;
    }

unfoldable pub view : Preprocessor → Lent → State
view h l =
    let s = settings_of h in
    record {
      settings = s;
      values_seen = h.values_seen;
      internal_timestamp = h.internal_timestamp;
      count = h.transformer.count;
      statistics = take (statistics_length s) l.statistics;
      last_shingled_input = take (s.d * s.k) l.last_shingled_input;
      last_shingled_point = take (dimension s) l.last_shingled_point;
      previous_timestamps = take s.k l.previous_timestamps;
      initial_values = take (h.initial_len * s.d) l.initial_values;
      initial_timestamps = take h.initial_len l.initial_timestamps;
    }

-- ---- a state written back: its counters into the head, its lists over the lent ones, of which what lies past them stays

abbrev pub counting : Preprocessor → ℕ → ℕ → ℕ → ℕ → Preprocessor
counting h count seen internal n =
    record {
      transformer = record {
        transform_method = h.transformer.transform_method;
        input_length = h.transformer.input_length;
        transform_decay = h.transformer.transform_decay;
        weights = h.transformer.weights;
        count = count;
      };
      forest_mode = h.forest_mode;
      shingle_size = h.shingle_size;
      start_normalization = h.start_normalization;
      stop_normalization = h.stop_normalization;
      weight_time = h.weight_time;
      values_seen = seen;
      internal_timestamp = internal;
      initial_len = n;
      codes = h.codes;
    }

abbrev pub counted : Preprocessor → State → Preprocessor
counted h w = counting h w.count w.values_seen w.internal_timestamp (length w.initial_timestamps)

unfoldable pub written_over : State → Lent → Lent
written_over w l =
    lent (over l.statistics w.statistics) (over l.last_shingled_input w.last_shingled_input)
    (over l.last_shingled_point w.last_shingled_point) (over l.previous_timestamps w.previous_timestamps)
    (over l.initial_values w.initial_values) (over l.initial_timestamps w.initial_timestamps)

-- ---- the rows of a call: those of a head that `build` never made, document 01's of the call, and 20 for what is lent

-- what `build` refuses is refused by its own row
abbrev pub head_table : Settings → List (Bool × ℕ)
head_table s =
    (eqb s.d 0, 2)
    ∷ (eqb s.k 0, 3)
    ∷ (ltb input_limit s.d || ltb shingle_limit s.k, 4)
    ∷ (leb start_bound s.start, 8)
    ∷ []

unfoldable pub head_row : Settings → ℕ
head_row s = first_of (head_table s)

-- how many readings can come to wait: "The watch waits while the method is NORMALIZE or NORMALIZE_DIFFERENCE", so under the others none
abbrev pub initial_room : Settings → ℕ
initial_room s = cond (normalizes s.method) s.start 0

-- how long each lent list is
abbrev pub lengths_of : Lent → LentLengths
lengths_of l =
    record {
      statistics = length l.statistics;
      last_shingled_input = length l.last_shingled_input;
      last_shingled_point = length l.last_shingled_point;
      previous_timestamps = length l.previous_timestamps;
      initial_values = length l.initial_values;
      initial_timestamps = length l.initial_timestamps;
    }

-- one of them is less than the part in use can grow to
abbrev pub lengths_short : Settings → LentLengths → Bool
lengths_short s n =
    ltb n.statistics (statistics_length s)
    || (ltb n.last_shingled_input (s.d * s.k)
    || (ltb n.last_shingled_point (dimension s)
    || (ltb n.previous_timestamps s.k
    || (ltb n.initial_values (initial_room s * s.d) || ltb n.initial_timestamps (initial_room s)))))

unfoldable pub lent_short : Settings → Lent → Bool
lent_short s l = lengths_short s (lengths_of l)

-- Counters that no preprocessor has, by document 01's 'Trace text'. Past waiting: not "none, or start lines under methods 4 and 5 (with such lines,
-- internal is 0 if values_seen = start)".
abbrev pub left_over : Settings → ℕ → ℕ → ℕ → Bool
left_over s seen internal initial =
    not (eqb initial 0) && (not (normalizes s.method) || (not (eqb initial s.start) || (eqb seen s.start && not (eqb internal 0))))

-- "values_seen, internal (each ≤ 2^63 − 1), count"; "While waiting, `buf` lines = values_seen and internal is 0"
abbrev pub miscounted : Settings → ℕ → ℕ → ℕ → ℕ → Bool
miscounted s seen internal count initial =
    ltb seen_limit seen
    || (ltb seen_limit internal
    || (ltb count_limit count
    || cond (waiting s seen) (not (eqb initial seen) || not (eqb internal 0)) (left_over s seen internal initial)))

-- the head's counters are such
unfoldable pub counters_unfit : Preprocessor → Bool
counters_unfit h = miscounted (settings_of h) h.values_seen h.internal_timestamp h.transformer.count h.initial_len

unfoldable pub short_row : Settings → Lent → ℕ
short_row s l = first_of ((lent_short s l, 20) ∷ [])

unfoldable pub lent_row : Preprocessor → Lent → ℕ
lent_row h l = cond (counters_unfit h) 20 (short_row (settings_of h) l)

-- the second only where the first is 0
abbrev pub or_else : ℕ → ℕ → ℕ
or_else zero m = m
or_else (suc n) m = suc n

-- a head that comes from outside: rows 1 to 9, and 20 for counters that no preprocessor has
unfoldable pub outside_row : Preprocessor → ℕ
outside_row h = or_else (settings_row (settings_of h)) (cond (counters_unfit h) 20 0)

-- the row by which every call refuses the head itself, 0 for none
unfoldable pub own_row : Preprocessor → ℕ
own_row h = or_else (head_row (settings_of h)) (cond (counters_unfit h) 20 0)

-- what a row 0 says of each
pub record Bounded (s : Settings) : Type 0 where
  pub d_pos : 0 < s.d
  pub d_few : s.d ≤ input_limit
  pub k_pos : 0 < s.k
  pub k_few : s.k ≤ shingle_limit
  pub start_few : s.start < start_bound

pub record Roomy (s : Settings) (l : Lent) : Type 0 where
  pub in_statistics : statistics_length s ≤ length l.statistics
  pub in_input : s.d * s.k ≤ length l.last_shingled_input
  pub in_point : dimension s ≤ length l.last_shingled_point
  pub in_times : s.k ≤ length l.previous_timestamps
  pub in_values : initial_room s * s.d ≤ length l.initial_values
  pub in_initial : initial_room s ≤ length l.initial_timestamps

pub record Fitted (h : Preprocessor) (l : Lent) : Type 0 where
  pub roomy : Roomy (settings_of h) l
  pub few : h.initial_len ≤ h.start_normalization
  pub in_room : h.initial_len ≤ initial_room (settings_of h)
  pub counted : waiting (settings_of h) h.values_seen ≡ true → h.initial_len ≡ h.values_seen

unfoldable pub row_of : Preprocessor → Lent → Call → ℕ
row_of h l c = or_else (head_row (settings_of h)) (or_else (rows (settings_of h) (facts (view h l)) c) (lent_row h l))

-- what the row 0 of a call says
pub record Ready (h : Preprocessor) (l : Lent) : Type 0 where
  pub bounded : Bounded (settings_of h)
  pub fitted : Fitted h l

-- ---- what the program's parts see

-- a state of which only these lists are looked at
abbrev pub holding : Preprocessor → List Float → List Float → List ℕ → State
holding h st x ts =
    record {
      settings = settings_of h;
      values_seen = h.values_seen;
      internal_timestamp = h.internal_timestamp;
      count = h.transformer.count;
      statistics = st;
      last_shingled_input = x;
      last_shingled_point = [];
      previous_timestamps = ts;
      initial_values = [];
      initial_timestamps = [];
    }

-- the state of a head alone, for the numbers that stand in it
abbrev pub alone : Preprocessor → State
alone h = holding h [] [] []

-- ---- `build`

abbrev pub settings_from : PreprocessorBuilder → List Float → List ℕ → Settings
settings_from b weights codes =
    record {
      mode = b.forest_mode;
      method = b.transform_method;
      d = b.input_dimensions;
      k = b.shingle_size;
      start = b.start_normalization;
      stop = b.stop_normalization;
      decay = b.transform_decay;
      weight_time = b.weight_time;
      weights = weights;
      codes = codes;
    }

pub record Accepted (s : Settings) : Type 0 where
  pub bounded : Bounded s
  pub weighted : length s.weights ≡ s.d
  pub coded : length s.codes ≡ s.d

-- "a fresh watch is what `build` gives"; an array holds the weights, and one the codes, zeros after them
abbrev pub head_from : Settings → Preprocessor
head_from s =
    record {
      transformer = record {
        transform_method = s.method;
        input_length = s.d;
        transform_decay = s.decay;
        weights = over (replicate input_limit zero32) s.weights;
        count = 0;
      };
      forest_mode = s.mode;
      shingle_size = s.k;
      start_normalization = s.start;
      stop_normalization = s.stop;
      weight_time = s.weight_time;
      values_seen = 0;
      internal_timestamp = 0;
      initial_len = 0;
      codes = over (replicate input_limit 0) s.codes;
    }

-- what a refused `build` hands back: every call refuses it
abbrev pub no_head : Preprocessor
no_head =
    head_from
    (record { mode = STANDARD; method = NONE; d = 0; k = 0; start = 0; stop = 0; decay = zero64; weight_time = zero32; weights = []; codes = [] })

-- the row, the head and the final contents of what is lent
pub record Outcome : Type 0 where
  pub row : ℕ
  pub head : Preprocessor
  pub lent : Lent

abbrev pub outcome : ℕ → Preprocessor → Lent → Outcome
outcome n h l = record { row = n; head = h; lent = l }

-- an answer of the head alone; refused, the head is h
abbrev pub head_outcome : Result Preprocessor Refusal → Preprocessor → Lent → Outcome
head_outcome (Ok next) h l = outcome 0 next l
head_outcome (Err r) h l = outcome (number_of r) h l

unfoldable pub build_row : Settings → Lent → ℕ
build_row s l = or_else (settings_row s) (lent_row (head_from s) l)

unfoldable pub build_of : Settings → Lent → Outcome
build_of s l = accepted (build_row s l) (outcome 0 (head_from s) (written_over (fresh s) l)) (outcome (build_row s l) no_head l)

-- ---- a call on what is held

unfoldable pub answer_of : Preprocessor → Lent → Call → Answer
answer_of h l c = accepted (row_of h l c) (reply (view h l) c) (refused (row_of h l c))

unfoldable pub head_after : Preprocessor → Lent → Call → Preprocessor
head_after h l c = accepted (row_of h l c) (counted h (change (view h l) c)) h

unfoldable pub lent_after : Preprocessor → Lent → Call → Lent
lent_after h l c = accepted (row_of h l c) (written_over (change (view h l) c) l) l

-- a call that writes one list, read as its row and that list
pub record Written : Type 0 where
  pub row : ℕ
  pub out : List Float

abbrev pub written : ℕ → List Float → Written
written n out = record { row = n; out = out }

-- the numbers f of the state, at the front of the lent list
unfoldable pub write_of : Preprocessor → Lent → Call → (State → List Float) → List Float → Written
write_of h l c f out = let n = row_of h l c in written n (accepted n (over out (f (view h l))) out)

-- ---- the getters

-- `is_ready`: never of a head that every call refuses
unfoldable pub ready_of : Preprocessor → Bool
ready_of h = accepted (own_row h) (is_ready (alone h)) false

-- `get_dimension`: 0 for a head that no build made
abbrev pub dimension_of : Preprocessor → ℕ
dimension_of h = accepted (head_row (settings_of h)) (dimension (settings_of h)) 0

-- what the getters answer; of the two kinds, the number and the letter that document 01 gives them
pub record Getters : Type 0 where
  pub values_seen : ℕ
  pub internal_timestamp : ℕ
  pub ready : Bool
  pub input_dimensions : ℕ
  pub shingle_size : ℕ
  pub dimensions : ℕ
  pub method : ℕ
  pub mode : ℕ
  pub start : ℕ
  pub panel : ℕ

abbrev pub getters_of : Preprocessor → Getters
getters_of h =
    record {
      values_seen = h.values_seen;
      internal_timestamp = h.internal_timestamp;
      ready = ready_of h;
      input_dimensions = h.transformer.input_length;
      shingle_size = h.shingle_size;
      dimensions = dimension_of h;
      method = method_number h.transformer.transform_method;
      mode = mode_letter h.forest_mode;
      start = h.start_normalization;
      panel = panel_of (alone h);
    }

-- ---- `status`: the row and the numbers

pub record StatusOutcome : Type 0 where
  pub row : ℕ
  pub numbers : Status

-- Refused, it tells the row alone: every number is 0, nothing is ready, the two kinds are those of number 0, and the output is left.
abbrev pub no_status : List Float → Status
no_status out =
    record {
      values_seen = 0;
      internal_timestamp = 0;
      ready = false;
      input_dimensions = 0;
      shingle_size = 0;
      dimensions = 0;
      method = NONE;
      mode = STANDARD;
      start = 0;
      panel = 0;
      deviations_out = out;
    }

abbrev pub status_given : Result Told Refusal → List Float → StatusOutcome
status_given (Ok r) out =
    record {
      row = 0;
      numbers = record {
        values_seen = r.values_seen;
        internal_timestamp = r.internal_timestamp;
        ready = r.ready;
        input_dimensions = r.input_dimensions;
        shingle_size = r.shingle_size;
        dimensions = r.dimensions;
        method = r.transform_method;
        mode = r.forest_mode;
        start = r.start_normalization;
        panel = r.panel;
        deviations_out = out;
      };
    }
status_given (Err r) out = record { row = number_of r; numbers = no_status out }

unfoldable pub status_after : Preprocessor → Lent → List Float → StatusOutcome
status_after h l out = let n = row_of h l (status out) in record { row = n; numbers = accepted n (status_of (view h l) out) (no_status out) }

unfoldable pub drain_of : Preprocessor → Lent → Outcome
drain_of h l = outcome (row_of h l drain) (head_after h l drain) (lent_after h l drain)

-- `shingled_point`: the row, whether a point is given, the head, what is lent, and the output
pub record PointOutcome : Type 0 where
  pub row : ℕ
  pub given : Bool
  pub head : Preprocessor
  pub lent : Lent
  pub out : List Float

abbrev pub pointed : ℕ → Bool → Preprocessor → Lent → List Float → PointOutcome
pointed n b h l out = record { row = n; given = b; head = h; lent = l; out = out }

-- an answer with the head that it leaves; refused, the head is h, and no point is given
abbrev pub point_outcome : Result Pointed Refusal → Preprocessor → Lent → List Float → PointOutcome
point_outcome (Ok p) h l out = pointed 0 p.given p.head l out
point_outcome (Err r) h l out = pointed (number_of r) false h l out

-- a point is given past waiting
unfoldable pub point_after : Preprocessor → Lent → List Float → ℕ → List Float → PointOutcome
point_after h l x t out =
    let c = shingled_point x t out in
    let n = row_of h l c in
    let b = accepted n (not (waiting (settings_of h) h.values_seen)) false in
    pointed n b (head_after h l c) (lent_after h l c) (cond b (point_reply (view h l) x t out) out)

-- ---- `post_process`

-- a list that may be given
abbrev pub optional : Bool → List Float → Option (List Float)
optional true v = some v
optional false v = none

abbrev pub learn_call : List Float → ℕ → Bool → List Float → Bool → List Float → Float → ℤ → List Float → List Float → List Float → Learn
learn_call x t hasY y expects e grade index deviations past expected =
    record {
      input = x;
      timestamp = t;
      rcf_point = optional hasY y;
      expected_point = optional expects e;
      grade = grade;
      relative_index = index;
      deviations_out = deviations;
      past_out = past;
      expected_out = expected;
    }

-- how many readings before the newest; 64, which lies outside every shingle, for one that is to come
abbrev pub back_of : ℤ → ℕ
back_of (pos zero) = 0
back_of (pos (suc n)) = 64
back_of (negsuc n) = suc n

-- row 12's newest, out of the head and the lent times
abbrev pub newest_of : Preprocessor → List ℕ → List ℕ → ℕ
newest_of h ts vt = cond (eqb h.internal_timestamp 0) (last_or 0 (take h.initial_len vt)) (last_or 0 (take h.shingle_size ts))

-- the time that a point's and a transform's time element is counted from
unfoldable pub time_base_of : Preprocessor → List ℕ → List ℕ → ℕ
time_base_of h ts vt = cond (is_gap h.forest_mode) (newest_of h ts vt) (last_or 0 (take h.shingle_size ts))

-- the row; whether the deviations are written; the anomaly, 0 where there is none; the head; what is lent; the outputs
pub record LearnOutcome : Type 0 where
  pub row : ℕ
  pub written : Bool
  pub has_anomaly : Bool
  pub past_timestamp : ℕ
  pub likelihood : Float
  pub head : Preprocessor
  pub lent : Lent
  pub deviations_out : List Float
  pub past_out : List Float
  pub expected_out : List Float

abbrev pub anomaly_time : Option Anomaly → ℕ
anomaly_time none = 0
anomaly_time (some a) = a.past_timestamp

abbrev pub anomaly_likelihood : Option Anomaly → Float
anomaly_likelihood none = zero32
anomaly_likelihood (some a) = a.likelihood

abbrev pub learn_outcome : ℕ → Bool → Bool → ℕ → Float → Preprocessor → Lent → List Float → List Float → List Float → LearnOutcome
learn_outcome n w b t p h l deviations past expected =
    record {
      row = n;
      written = w;
      has_anomaly = b;
      past_timestamp = t;
      likelihood = p;
      head = h;
      lent = l;
      deviations_out = deviations;
      past_out = past;
      expected_out = expected;
    }

-- the anomaly that the program holds
abbrev pub anomaly_held : Held Anomaly → Option Anomaly
anomaly_held (Some a) = some a
anomaly_held None = none

-- an answer with the head that it leaves; refused, the head is h, and there is no anomaly
abbrev pub processed_outcome : Result PostProcessed Refusal → Preprocessor → Lent → List Float → List Float → List Float → LearnOutcome
processed_outcome (Ok p) h l deviations past expected =
    let a = anomaly_held p.anomaly in
    learn_outcome 0 p.written (given a) (anomaly_time a) (anomaly_likelihood a) p.head l deviations past expected
processed_outcome (Err r) h l deviations past expected = learn_outcome (number_of r) false false 0 zero32 h l deviations past expected

abbrev pub learned_outcome : ℕ → Preprocessor → Lent → Learned → LearnOutcome
learned_outcome n h l a =
    learn_outcome n a.written (given a.anomaly) (anomaly_time a.anomaly) (anomaly_likelihood a.anomaly) h l a.deviations_out a.past_out
    a.expected_out

abbrev pub learn_nothing : ℕ → Preprocessor → Lent → Learn → LearnOutcome
learn_nothing n h l c = learned_outcome n h l (learned_nothing c)

unfoldable pub learn_after : Preprocessor → Lent → Learn → LearnOutcome
learn_after h l c =
    let q = post_process c in
    let n = row_of h l q in
    learned_outcome n (head_after h l q) (lent_after h l q) (accepted n (learn_reply (view h l) c) (learned_nothing c))
