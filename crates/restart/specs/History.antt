-- The history (document 01: history sheet): "It keeps the settings and a list of entries", here newest first. It is worked out from the settings
-- and the calls' arguments alone: it looks at no state and at no answer, and uses of the preprocessor the arithmetic of one reading and the table of rows.
use Rattle.std.specs.Prelude.{ℕ, ◌+◌, ◌*◌, Bool, true, false, cond, ◌&&◌, List, [], ◌∷◌, ◌++◌, ltb, leb, eqb, length, replicate, Float}
use Rattle.std.proofs.Math.Option.{Option, none, some}
use Rattle.trcf.specs.Lists.{last_n, last_or}
use Rattle.trcf.specs.Types.{method_number, mode_letter}
use Rattle.trcf.specs.Transformer.{zero32}
use Rattle.trcf.specs.Settings.{Settings, dimension, waiting}
use Rattle.trcf.specs.Calls.{Call, shingled_point, post_process, drain, transform, invert_extrapolation, scale, shift, status, Facts, rows}
use Rattle.trcf.specs.Preprocessor.{Reading, reading, transformed_after, State, accepted, Answer, refused, reply}
use Rattle.trcf.specs.View.{Getters}
use Rattle.snapshot.specs.Text.{render}
use Rattle.restart.specs.Statistics.{Fed, fed_after, statistics_from}

-- Document 01's W(x, t), L(x, t, y) and F.
pub data Entry : Type 0 where
  initial_entry : List Float → ℕ → Entry
  learned_entry : List Float → ℕ → List Float → Entry
  drained_entry : Entry

-- ---- the entries by kind, oldest first

-- the W's
abbrev pub initials : List Entry → List Reading
initials [] = []
initials (initial_entry x t ∷ es) = initials es ++ (reading x t ∷ [])
initials (learned_entry x t y ∷ es) = initials es
initials (drained_entry ∷ es) = initials es

-- the L's
abbrev pub learns : List Entry → List Reading
learns [] = []
learns (initial_entry x t ∷ es) = learns es
learns (learned_entry x t y ∷ es) = learns es ++ (reading x t ∷ [])
learns (drained_entry ∷ es) = learns es

-- F stands
abbrev pub is_drained : List Entry → Bool
is_drained [] = false
is_drained (initial_entry x t ∷ es) = is_drained es
is_drained (learned_entry x t y ∷ es) = is_drained es
is_drained (drained_entry ∷ es) = true

-- nothing but W's
abbrev pub only_initials : List Entry → Bool
only_initials [] = true
only_initials (initial_entry x t ∷ es) = only_initials es
only_initials (learned_entry x t y ∷ es) = false
only_initials (drained_entry ∷ es) = false

abbrev pub values : List Reading → List Float
values [] = []
values (r ∷ rs) = r.value ++ values rs

abbrev pub timestamps : List Reading → List ℕ
timestamps [] = []
timestamps (r ∷ rs) = r.time ∷ timestamps rs

-- ---- counts, inputs and times

-- "values_seen = W's + L's."
unfoldable pub seen_of : List Entry → ℕ
seen_of es = length (initials es) + length (learns es)

-- "internal = L's, plus W's if F stands."
unfoldable pub internal_of : List Entry → ℕ
internal_of es = length (learns es) + cond (is_drained es) (length (initials es)) 0

-- "W's without F wait. An L before F strands them for good. Waiting or stranded, they are the `buf` lines."
unfoldable pub buffer_of : List Entry → List Reading
buffer_of es = cond (is_drained es) [] (initials es)

-- "So the first W may stand twice."
abbrev pub first_and_all : List Reading → List Reading
first_and_all [] = []
first_and_all (r ∷ rs) = r ∷ r ∷ rs

-- "if F, the first W, then all W's; then L's"
unfoldable pub shingled : List Entry → List Reading
shingled es = cond (is_drained es) (first_and_all (initials es)) [] ++ learns es

-- "Inputs and times: zeros; …; the last k."
unfoldable pub inputs_of : Settings → List Entry → List Float
inputs_of s es = last_n (s.d * s.k) (replicate (s.d * s.k) zero32 ++ values (shingled es))

unfoldable pub timestamps_of : Settings → List Entry → List ℕ
timestamps_of s es = last_n s.k (replicate s.k 0 ++ timestamps (shingled es))

-- "newest input and newest time as the next line has them, so 0 for a first L without F"
unfoldable pub newest_reading : Settings → List Entry → Reading
newest_reading s es = reading (last_n s.d (inputs_of s es)) (last_or 0 (timestamps_of s es))

-- ---- statistics and points

-- "each W in order, previous = the W before, the first with itself"
abbrev pub each_after : Reading → List Reading → List Fed
each_after p [] = []
each_after p (r ∷ rs) = fed_after p r ∷ each_after r rs

abbrev pub fed_pairs : List Reading → List Fed
fed_pairs [] = []
fed_pairs (r ∷ rs) = each_after r (r ∷ rs)

-- "An L feeds them if values_seen before it is below stop"
abbrev pub fed_of : Settings → List Entry → List Fed
fed_of s [] = []
fed_of s (initial_entry x t ∷ es) = fed_of s es
fed_of s (learned_entry x t y ∷ es) = fed_of s es ++ cond (ltb (seen_of es) s.stop) (fed_after (newest_reading s es) (reading x t) ∷ []) []
fed_of s (drained_entry ∷ es) = fed_of s es ++ fed_pairs (initials es)

-- "All start empty; count = readings fed."
unfoldable pub count_of : Settings → List Entry → ℕ
count_of s es = length (fed_of s es)

unfoldable pub statistics_of : Settings → List Entry → List Float
statistics_of s es = statistics_from s (fed_of s es)

abbrev pub transforms : Settings → List Float → ℕ → List Fed → List Float
transforms s st seen [] = []
transforms s st seen (p ∷ ps) = transformed_after s st seen p.before p.now ++ transforms s st seen ps

-- "Points: zeros; F shifts in each W's transform, made with all W's fed and its previous as above; each L replaces them by y."
abbrev pub points_of : Settings → List Entry → List Float
points_of s [] = replicate (dimension s) zero32
points_of s (initial_entry x t ∷ es) = points_of s es
points_of s (learned_entry x t y ∷ es) = y
points_of s (drained_entry ∷ es) =
    last_n (dimension s) (points_of s es ++ transforms s (statistics_of s (drained_entry ∷ es)) (seen_of es) (fed_pairs (initials es)))

-- ---- the text

-- "Its text, in the form below, is written from the settings and these"
unfoldable pub history_state : Settings → List Entry → State
history_state s es =
    record {
      settings = s;
      values_seen = seen_of es;
      internal_timestamp = internal_of es;
      count = count_of s es;
      statistics = statistics_of s es;
      last_shingled_input = inputs_of s es;
      last_shingled_point = points_of s es;
      previous_timestamps = timestamps_of s es;
      initial_values = values (buffer_of es);
      initial_timestamps = timestamps (buffer_of es);
    }

-- ---- what a call adds

-- "with its own values_seen, internal, count, times and waiting W's where a row names such a thing"
unfoldable pub history_facts : Settings → List Entry → Facts
history_facts s es =
    record {
      values_seen = seen_of es;
      internal_timestamp = internal_of es;
      count = count_of s es;
      previous_timestamps = timestamps_of s es;
      initial_timestamps = timestamps (buffer_of es);
    }

-- "By the rows below it finds which calls are refused"; 0 for none
unfoldable pub history_refusal : Settings → List Entry → Call → ℕ
history_refusal s es c = rows s (history_facts s es) c

-- "the entries are exactly start W's and start > 0"
unfoldable pub complete : Settings → List Entry → Bool
complete s es = only_initials es && (eqb (length es) s.start && ltb 0 s.start)

-- "learn with a forest point y adds L(x, t, y), and without one adds nothing"
abbrev pub adds_learned : List Entry → Reading → Option (List Float) → List Entry
adds_learned es r none = es
adds_learned es r (some y) = learned_entry r.value r.time y ∷ es

-- "An accepted learn while waiting adds W(x, t). Otherwise learn … Drain, or an accepted point, adds F when … Nothing else adds"
unfoldable pub adds : Settings → List Entry → Call → List Entry
adds s es (shingled_point x t out) = cond (complete s es) (drained_entry ∷ es) es
adds s es (post_process l) =
    cond (waiting s (seen_of es)) (initial_entry l.input l.timestamp ∷ es) (adds_learned es (reading l.input l.timestamp) l.rcf_point)
adds s es drain = cond (complete s es) (drained_entry ∷ es) es
adds s es (transform x t out) = es
adds s es (invert_extrapolation c) = es
adds s es (scale out) = es
adds s es (shift out) = es
adds s es (status out) = es

-- "and a refused call never does"
unfoldable pub enter : Settings → List Entry → Call → List Entry
enter s es c = accepted (history_refusal s es c) (adds s es c) es

-- the entries es, and those of the calls after them
abbrev pub entries_from : Settings → List Entry → List Call → List Entry
entries_from s es [] = es
entries_from s es (c ∷ cs) = entries_from s (enter s es c) cs

-- the entries of a list of calls
unfoldable pub entries : Settings → List Call → List Entry
entries s cs = entries_from s [] cs

-- the text that the history works out from the settings and the calls' arguments
unfoldable pub history_text : Settings → List Call → List ℕ
history_text s cs = render (history_state s (entries s cs))

-- ---- answers: "the one that 01's rows and, where none refuses, demand 2 decide"

unfoldable pub history_answer : Settings → List Entry → Call → Answer
history_answer s es c = accepted (history_refusal s es c) (reply (history_state s es) c) (refused (history_refusal s es c))

abbrev pub history_answers : Settings → List Entry → List Call → List Answer
history_answers s es [] = []
history_answers s es (c ∷ cs) = history_answer s es c ∷ history_answers s (enter s es c) cs

-- ---- the panel: "The sheet's "readings fed" defines the panel number at every place of a trace." (request 102)

unfoldable pub history_panel : Settings → List Entry → ℕ
history_panel s es = count_of s es

-- at each of a list's places: "A list of n calls has n + 1 places."
abbrev pub history_panels : Settings → List Entry → List Call → List ℕ
history_panels s es [] = history_panel s es ∷ []
history_panels s es (c ∷ cs) = history_panel s es ∷ history_panels s (enter s es c) cs

-- ---- the getters: the history's own numbers, "Ready means internal ≥ k.", and the settings

unfoldable pub history_getters : Settings → List Entry → Getters
history_getters s es =
    record {
      values_seen = seen_of es;
      internal_timestamp = internal_of es;
      ready = leb s.k (internal_of es);
      input_dimensions = s.d;
      shingle_size = s.k;
      dimensions = dimension s;
      method = method_number s.method;
      mode = mode_letter s.mode;
      start = s.start;
      panel = history_panel s es;
    }

-- at each of a list's places
abbrev pub history_shown : Settings → List Entry → List Call → List Getters
history_shown s es [] = history_getters s es ∷ []
history_shown s es (c ∷ cs) = history_getters s es ∷ history_shown s (enter s es c) cs
