-- Lists of calls worked out by computation: document 01's samples, a stranded history, and every kind of call with its text at each place.
use Prim.Native.Nat.{ℕ}
use mathlib.Core.Path.{◌≡◌, refl}
use mathlib.Core.Bool.{Bool, true}
use mathlib.Core.List.{List, [], ◌∷◌, ◌++◌, map}
use mathlib.Core.Option.{Option, none, some}
use lib.IntN.{pos, negsuc}
use lib.ListN.{replicate}
use lib.Ieee.{Float, binary32, to_bits, of_bits, size, round, le, lt, eq, add, sub, mul, div, of_int}
use Rattle.restart.specs.Statistics.{statistics_from}
use Rattle.restart.proofs.Step.{answers_history}
use native.Mathlib.Omega.{arith}
use Rattle.restart.specs.History.{Entry, initial_entry, learned_entry, drained_entry, seen_of, internal_of, buffer_of, shingled, inputs_of, timestamps_of, newest_reading, count_of, statistics_of, history_state, history_facts, history_refusal, complete, adds, enter, entries, history_text, history_answer, history_answers, history_panel, history_panels}
use Rattle.restart.specs.Statement.{panel_told, panels}
use Rattle.trcf.specs.declared.types.TransformMethod.{TransformMethod}
use Rattle.trcf.specs.declared.types.TransformMethod.TheVariants.{NONE, NORMALIZE}
use Rattle.trcf.specs.declared.types.ForestMode.{ForestMode}
use Rattle.trcf.specs.declared.types.ForestMode.TheVariants.{STANDARD, TIME_AUGMENTED}
use Rattle.numeric.specs.Narrow.{narrowed}
use Rattle.numeric.specs.Root.{root_within, halves, rooted, root_of}
use Rattle.common.specs.Deviation.{zero64, factor_of, step_of, is_empty, mean_of, root_above, deviation_of}
use Rattle.ranges.specs.RangeVector.{settled, shifted, scaled, ranges, range_at, put_at, cascade_to, unequal, unblocked, shorter}
use Rattle.refusal.specs.Lent.{over}
use Rattle.trcf.specs.Lists.{last_n, shift_in, overwrite}
use Rattle.trcf.specs.Transformer.{zero32, statistic_at, put_statistic, fed, deviations_at, put_deviations, fed_at, channels_fed, updated, normalized_scale, basic_shift, basic_drift, weight_at, transformed, unweighted, inverted, reciprocal, forecast_at, forecast_to, inverted_forecast, scales, shifts, difference_deviations}
use Rattle.trcf.specs.Settings.{Settings, block, dimension, waiting}
use Rattle.trcf.specs.Calls.{Call, shingled_point, post_process, drain, transform, invert_extrapolation, scale, shift, status, finite, due, newest, before_newest, wrong_length, outside, drain_full, learn_full, lookahead, forecast_unfit, forecast_output_short, waiting_short, learn_short, table, rows}
use Rattle.trcf.specs.Preprocessor.{State, fresh, facts, refusal, time_fed, feed, timescale, timedrift, time_element, transformed_after, previous, time_base, preceding, primed, drain_one, drain_all, drained as drainedState, buffered, learned as learnedState, learned_with, change, next, run, deviations, scale_of, shift_of, point_of, invert_time, numbers_of, times_of, block_from, past_values, expected_values, anomaly_of, Answer, refused, absent, done, wrote, learnt, turned, told, learned_nothing, buffered_answer, learned_answer, learn_answer, turned_back, status_of, reply, answer, answers}
use Rattle.snapshot.specs.Text.{whole, float, set_line, singles, cnt_line, dev_line, tim_line, buf_line, chn_line, lines_by, body_lines, render}
use Rattle.snapshot.specs.Read.{same}

-- to unfold this is to unfold whatever its line names
unfoldable pub computing : Unit {0}
unfolding add sub mul div lt le eq of_int of_bits to_bits size round narrowed root_of rooted halves root_within factor_of step_of is_empty mean_of root_above deviation_of settled shifted scaled range_at put_at unequal unblocked shorter cascade_to over statistic_at put_statistic fed deviations_at put_deviations fed_at channels_fed updated normalized_scale basic_shift basic_drift weight_at transformed unweighted inverted reciprocal forecast_at forecast_to inverted_forecast scales shifts difference_deviations block dimension waiting last_n shift_in overwrite finite due newest before_newest wrong_length outside drain_full learn_full lookahead forecast_unfit forecast_output_short waiting_short learn_short table rows time_fed feed timescale timedrift time_element transformed_after
computing = tt

unfoldable pub running : Unit {0}
unfolding computing fresh facts refusal previous time_base preceding primed drain_one drain_all drainedState buffered learnedState learned_with change next
running = tt

unfoldable pub answering : Unit {0}
unfolding running deviations scale_of shift_of point_of invert_time numbers_of times_of block_from past_values expected_values anomaly_of learned_nothing buffered_answer learned_answer learn_answer turned_back status_of reply answer
answering = tt

unfoldable pub recording : Unit {0}
unfolding computing seen_of internal_of buffer_of shingled inputs_of timestamps_of newest_reading count_of statistics_of statistics_from history_state history_facts history_refusal complete adds enter entries history_text history_answer
recording = tt

unfoldable pub writing : Unit {0}
unfolding whole float set_line singles cnt_line dev_line tim_line buf_line lines_by body_lines chn_line render
writing = tt

-- ---- settings and calls

abbrev pub one : Float
one = of_bits binary32 0x3f80_0000

abbrev pub two : Float
two = of_bits binary32 0x4000_0000

abbrev pub four : Float
four = of_bits binary32 0x4080_0000

abbrev pub six : Float
six = of_bits binary32 0x40c0_0000

abbrev seven : Float
seven = of_bits binary32 0x40e0_0000

abbrev minus_seventy : Float
minus_seventy = of_bits binary32 0xc28c_0000

abbrev pub thirty : Float
thirty = of_bits binary32 0x41f0_0000

-- d 1, decay 0, weight 1
abbrev pub sets : ForestMode → TransformMethod → ℕ → ℕ → ℕ → Float → Settings
sets mode method k start stop wt =
    record { mode = mode; method = method; d = 1; k = k; start = start; stop = stop; decay = zero64; weight_time = wt; weights = one ∷ []; codes = 0 ∷ [] }

-- a learn with outputs long enough
abbrev pub learn_at : Float → ℕ → Option (List Float) → Call
learn_at x t y =
    post_process (record {
      input = x ∷ [];
      timestamp = t;
      rcf_point = y;
      expected_point = none;
      grade = zero32;
      relative_index = pos 0;
      deviations_out = zero32 ∷ zero32 ∷ [];
      past_out = [];
      expected_out = [];
    })

-- ---- "Start 2, k 4, W's 4, 6, then drain: inputs 0, 4, 4, 6."

abbrev pub four_six : List Call
four_six = learn_at four 1 none ∷ learn_at six 2 none ∷ drain ∷ []

abbrev pub normalizing : ℕ → ℕ → Settings
normalizing k start = sets STANDARD NORMALIZE k start 9 one

pub inputs_run : (run (fresh (normalizing 4 2)) four_six).last_shingled_input ≡ zero32 ∷ four ∷ four ∷ six ∷ []
unfolding running
inputs_run = refl

pub inputs_history : inputs_of (normalizing 4 2) (entries (normalizing 4 2) four_six) ≡ zero32 ∷ four ∷ four ∷ six ∷ []
unfolding recording
inputs_history = refl

-- ---- "Previous 100, time 130, scale 1: 30; weight_time 2: −70."

pub elements : map (λ (wt : Float). time_element (sets TIME_AUGMENTED NONE 1 0 9 wt) (replicate 30 zero64) 130 100) (one ∷ two ∷ []) ≡ thirty ∷ minus_seventy ∷ []
unfolding computing
elements = refl

-- ---- the bench's sample text

abbrev bench : Settings
bench = sets STANDARD NONE 1 10 20 one

abbrev zeros : ℕ → List ℕ
zeros n = replicate n 48

-- dev 0000000000000000 0000000000000000 0000000000000000
abbrev dev_zeros : List ℕ
dev_zeros = 100 ∷ 101 ∷ 118 ∷ 9 ∷ (zeros 16 ++ 9 ∷ (zeros 16 ++ 9 ∷ (zeros 16 ++ 10 ∷ [])))

abbrev bench_text : List ℕ
bench_text =
    115 ∷ 101 ∷ 116 ∷ 9 ∷ 83 ∷ 9 ∷ 48 ∷ 9 ∷ 49 ∷ 9 ∷ 49 ∷ 9 ∷ 49 ∷ 48 ∷ 9 ∷ 50 ∷ 48 ∷ 9 ∷ (zeros 16 ++ 9 ∷ 51 ∷ 102 ∷ 56 ∷ (zeros 5 ++ 10  -- set S 0 1 1 10 20 0000000000000000 3f800000
    ∷ 119 ∷ 103 ∷ 116 ∷ 9 ∷ 51 ∷ 102 ∷ 56 ∷ (zeros 5 ++ 10  -- wgt 3f800000
    ∷ 99 ∷ 104 ∷ 110 ∷ 9 ∷ 48 ∷ 10  -- chn 0
    ∷ 99 ∷ 110 ∷ 116 ∷ 9 ∷ 48 ∷ 9 ∷ 48 ∷ 9 ∷ 48 ∷ 10  -- cnt 0 0 0
    ∷ (dev_zeros ++ dev_zeros ++ dev_zeros ++ dev_zeros ++ dev_zeros ++ dev_zeros ++ dev_zeros ++ dev_zeros ++ dev_zeros ++ dev_zeros
    ++ 105 ∷ 110 ∷ 112 ∷ 9 ∷ (zeros 8 ++ 10  -- inp 00000000
    ∷ 112 ∷ 110 ∷ 116 ∷ 9 ∷ (zeros 8 ++ 10  -- pnt 00000000
    ∷ 116 ∷ 105 ∷ 109 ∷ 9 ∷ 48 ∷ 10 ∷ []))))))  -- tim 0

pub bench_text_lem : history_text bench [] ≡ bench_text
unfolding recording writing
bench_text_lem = refl

pub bench_run : render (fresh bench) ≡ bench_text
unfolding running writing
bench_run = refl

-- ---- "An L before F strands them for good": a later drain, and a later point, add nothing

abbrev stranding : List Call
stranding = learn_at four 1 none ∷ learn_at six 2 (some (one ∷ [])) ∷ drain ∷ shingled_point (one ∷ []) 9 (zero32 ∷ []) ∷ []

pub stranded_entries : entries (normalizing 1 1) stranding ≡ learned_entry (six ∷ []) 2 (one ∷ []) ∷ initial_entry (four ∷ []) 1 ∷ []
unfolding recording
stranded_entries = refl

-- the stranded reading is the `buf` line, and the first L was fed after input 0 and time 0
pub stranded_state : (run (fresh (normalizing 1 1)) stranding).initial_values ≡ four ∷ []
unfolding running
stranded_state = refl

-- ---- every kind of call: TIME_AUGMENTED, NORMALIZE, k 2, start 2, stop 3, weight_time 2

abbrev augmented : Settings
augmented = sets TIME_AUGMENTED NORMALIZE 2 2 3 two

abbrev y : List Float
y = one ∷ two ∷ four ∷ six ∷ []

abbrev pub room : ℕ → List Float
room n = replicate n zero32

abbrev every : List Call
every =
    shingled_point (one ∷ []) 99 (room 4)
    ∷ learn_at four 100 none
    ∷ status (room 2)
    ∷ learn_at six 130 none
    ∷ shingled_point (seven ∷ []) 131 (room 5)
    ∷ drain
    ∷ post_process (record {
      input = seven ∷ [];
      timestamp = 131;
      rcf_point = some y;
      expected_point = some y;
      grade = one;
      relative_index = negsuc 0;
      deviations_out = room 2;
      past_out = room 1;
      expected_out = room 1;
    })
    ∷ learn_at six 130 (some y)
    ∷ learn_at six 140 (some y)
    ∷ learn_at six 150 none
    ∷ transform (four ∷ []) 141 (room 2)
    ∷ invert_extrapolation (record { forecast = ranges y y y; values_out = ranges (room 2) (room 2) (room 2); times_out = ranges (room 1) (room 1) (room 1) })
    ∷ scale (room 2)
    ∷ shift (room 2)
    ∷ drain
    ∷ status []
    ∷ []

pub every_entries : entries augmented every
    ≡ learned_entry (six ∷ []) 140 y ∷ learned_entry (seven ∷ []) 131 y ∷ drained_entry ∷ initial_entry (six ∷ []) 130 ∷ initial_entry (four ∷ []) 100 ∷ []
unfolding recording
every_entries = refl

-- the numbers of the refusals: a drain with nothing waiting, a time that falls, no room for the answer
abbrev pub number_of : Answer → ℕ
number_of (refused n) = n
number_of absent = 0
number_of done = 0
number_of (wrote v) = 0
number_of (learnt l) = 0
number_of (turned f) = 0
number_of (told s) = 0

pub every_row : map number_of (answers (fresh augmented) every) ≡ 0 ∷ 0 ∷ 0 ∷ 0 ∷ 0 ∷ 15 ∷ 0 ∷ 12 ∷ 0 ∷ 0 ∷ 0 ∷ 0 ∷ 0 ∷ 0 ∷ 0 ∷ 20 ∷ []
unfolding answering
every_row = refl

pub every_answer : answers (fresh augmented) every ≡ history_answers augmented [] every
every_answer = answers_history augmented (omega arith) every

-- the text at each place of a list of calls: of the state, and of the history
abbrev pub texts : State → List Call → List (List ℕ)
texts w [] = render w ∷ []
texts w (c ∷ cs) = render w ∷ texts (next w c) cs

abbrev pub history_texts : Settings → List Entry → List Call → List (List ℕ)
history_texts s es [] = render (history_state s es) ∷ []
history_texts s es (c ∷ cs) = render (history_state s es) ∷ history_texts s (enter s es c) cs

abbrev pub agree : List (List ℕ) → List (List ℕ) → List Bool
agree [] ts = []
agree (t ∷ ts) [] = []
agree (t ∷ ts) (u ∷ us) = same t u ∷ agree ts us

pub every_place : agree (texts (fresh augmented) every) (history_texts augmented [] every) ≡ replicate 17 true
unfolding running recording writing
every_place = refl

-- values_seen, internal and count at the end: two W's and two L's, of which the last came at stop
pub every_count : (history_state augmented (entries augmented every)).values_seen ∷ (history_state augmented (entries augmented every)).internal_timestamp ∷ (history_state augmented (entries augmented every)).count ∷ []
    ≡ 4 ∷ 4 ∷ 3 ∷ []
unfolding recording
every_count = refl

-- ---- the panel at each place (request 102): readings that wait, stranded ones and those after stop do not raise it

-- values_seen, internal, and the panel that status tells
abbrev counted : List Float → State → List Call → List (ℕ × ℕ × Option ℕ)
counted out w [] = (w.values_seen, w.internal_timestamp, panel_told (answer w (status out))) ∷ []
counted out w (c ∷ cs) = (w.values_seen, w.internal_timestamp, panel_told (answer w (status out))) ∷ counted out (next w c) cs

-- two W's, then F feeds them
pub waiting_panel : counted (room 1) (fresh (normalizing 4 2)) four_six ≡ (0, 0, some 0) ∷ (1, 0, some 0) ∷ (2, 0, some 0) ∷ (2, 2, some 2) ∷ []
unfolding answering
waiting_panel = refl

-- the stranded W is never fed, the L is
pub stranded_panel : counted (room 1) (fresh (normalizing 1 1)) stranding
    ≡ (0, 0, some 0) ∷ (1, 0, some 0) ∷ (2, 1, some 1) ∷ (2, 1, some 1) ∷ (2, 1, some 1) ∷ []
unfolding answering
stranded_panel = refl

-- the last L comes at stop; with no room for its answer status tells nothing
pub every_panel : panels (room 2) (fresh augmented) every ≡ map some (replicate 5 0 ++ (2 ∷ 2 ∷ replicate 10 3))
unfolding answering
every_panel = refl

pub every_fed : history_panels augmented [] every ≡ replicate 5 0 ++ (2 ∷ 2 ∷ replicate 10 3)
unfolding recording history_panel
every_fed = refl

pub roomless_panel : panels [] (fresh augmented) [] ≡ none ∷ []
unfolding answering
roomless_panel = refl
