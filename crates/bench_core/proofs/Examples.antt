-- Inputs of the bench and what it prints, worked out by computation: document 01's sample, and the points that it leaves open, by their number in docs/DECISIONS.md.
-- What each prints is the answer of the oracle's bench (docs/ORACLE.md).
use Prim.Native.Nat.{ℕ}
use Prim.Native.String.{String, ◌++◌}
use mathlib.Core.Path.{◌≡◌, refl}
use mathlib.Core.List.{List, [], ◌∷◌}
use lib.Ieee.{to_bits, of_bits, of_fields, odd, fits, size, round, le, lt, eq, add, sub, mul, div, of_int}
use Rattle.numeric.specs.Narrow.{narrowed}
use Rattle.numeric.specs.Root.{root_within, halves, rooted, root_of}
use Rattle.common.specs.Deviation.{outside_unit, factor_of, step_of as fedStep, is_empty, mean_of, root_above, deviation_of}
use Rattle.refusal.specs.Lent.{over}
use Rattle.trcf.specs.Lists.{last_n, shift_in, overwrite}
use Rattle.trcf.specs.Transformer.{statistic_at, put_statistic, fed, deviations_at, put_deviations, fed_at, channels_fed, updated, normalized_scale, basic_shift, basic_drift, weight_at, transformed}
use Rattle.trcf.specs.Transformer.{unweighted, inverted, scales, shifts, difference_deviations}
use Rattle.trcf.specs.Settings.{block, dimension, waiting, all_one, settings_row}
use Rattle.trcf.specs.Calls.{finite, due, newest, before_newest as behindNewest, wrong_length, outside, drain_full, learn_full, waiting_short, learn_short, table, rows}
use Rattle.trcf.specs.Preprocessor.{fresh as freshState, facts, time_fed, feed, timescale, timedrift, time_element, transformed_after, previous, time_base, preceding, primed, drain_one, drain_all}
use Rattle.trcf.specs.Preprocessor.{drained, buffered, learned, learned_with, change, deviations, point_of, block_from, past_values, expected_values, anomaly_of, learned_nothing, buffered_answer}
use Rattle.trcf.specs.Preprocessor.{learned_answer, learn_answer, reply}
use Rattle.trcf.specs.View.{view, written_over, head_row, lent_short, counters_unfit, short_row, lent_row, row_of, build_row, build_of, answer_of, head_after, lent_after, drain_of, point_after}
use Rattle.trcf.specs.View.{learn_after}
use Rattle.snapshot.specs.Text.{whole, float, set_line, singles, cnt_line, dev_line, tim_line, buf_line, lines_by, body_lines, chn_line, render}
use Rattle.snapshot.specs.Read.{judge, float_from, as_whole, as_float}
use Rattle.snapshot.specs.Save.{in_use_short, unformed, held_save, fitted, save_of}
use Rattle.snapshot.specs.Ascii.{ascii}
use Rattle.bench_core.specs.Line.{blank_line, line_with_field, cell_of, request_of, kept_of}
use Rattle.bench_core.specs.Bench.{no_text, point_text, done_text, prints, dimension_of, point_result, learn_result, drain_result, save_prints, builder_from, fresh_bench, built_of, build_gives}
use Rattle.bench_core.specs.Bench.{line_gives, bench_step, finish_of}
use Rattle.bench_core.specs.Run.{printed}

-- to unfold this is to unfold whatever its line names
running : Unit {0}
unfolding to_bits of_bits of_fields odd fits size round le lt eq add sub mul div of_int narrowed root_within halves rooted root_of outside_unit factor_of
    fedStep is_empty mean_of root_above deviation_of over last_n shift_in overwrite statistic_at put_statistic fed deviations_at put_deviations fed_at
    channels_fed updated normalized_scale basic_shift basic_drift weight_at transformed unweighted inverted scales shifts difference_deviations block dimension
    waiting all_one settings_row finite due newest wrong_length outside drain_full learn_full waiting_short learn_short table rows freshState facts time_fed
    feed timescale timedrift time_element transformed_after previous primed drain_one drain_all drained buffered learned learned_with change deviations point_of
    block_from past_values expected_values anomaly_of learned_nothing buffered_answer learned_answer learn_answer reply view written_over head_row lent_short
    counters_unfit short_row lent_row row_of build_row build_of answer_of head_after lent_after drain_of point_after learn_after whole float set_line singles
    cnt_line dev_line tim_line buf_line lines_by body_lines chn_line render judge float_from as_whole as_float in_use_short unformed held_save fitted save_of
    blank_line line_with_field cell_of request_of kept_of no_text point_text done_text prints dimension_of point_result learn_result drain_result save_prints
    builder_from fresh_bench built_of build_gives line_gives bench_step finish_of printed behindNewest time_base preceding
running = tt

-- inputs with their outputs
abbrev Cases : Type 0
Cases = List (String × String)

abbrev given : Cases → List (List ℕ)
given [] = []
given (c ∷ cs) = printed (ascii c.0) ∷ given cs

abbrev expected : Cases → List (List ℕ)
expected [] = []
expected (c ∷ cs) = ascii c.1 ∷ expected cs

-- head lines that are accepted
abbrev settings : String
settings = "set\tS\t0\t1\t1\t10\t20\t0000000000000000\t3f800000\n"

abbrev good : String
good = settings ++ "wgt\t3f800000\n"

-- document 01's sample
abbrev sample : Cases
sample = (
  good ++ "s\n",
  good ++
      "chn\t0\ncnt\t0\t0\t0\ndev\t0000000000000000\t0000000000000000\t0000000000000000\ndev\t0000000000000000\t0000000000000000\t0000000000000000\n" ++
      "dev\t0000000000000000\t0000000000000000\t0000000000000000\ndev\t0000000000000000\t0000000000000000\t0000000000000000\n" ++
      "dev\t0000000000000000\t0000000000000000\t0000000000000000\ndev\t0000000000000000\t0000000000000000\t0000000000000000\n" ++
      "dev\t0000000000000000\t0000000000000000\t0000000000000000\ndev\t0000000000000000\t0000000000000000\t0000000000000000\n" ++
      "dev\t0000000000000000\t0000000000000000\t0000000000000000\ndev\t0000000000000000\t0000000000000000\t0000000000000000\ninp\t00000000\npnt\t00000000\n" ++
      "tim\t0\n",
)
    ∷ []

sample_hold : given sample ≡ expected sample
unfolding running
sample_hold = refl

-- 1, 2: fields of the output are parted by tabs too; an accepted `set` and `wgt` print nothing
abbrev parted : Cases
parted =
    (good, "")
    ∷ (good ++ "x\n", "no\t19\n")
    ∷ []

parted_hold : given parted ≡ expected parted
unfolding running
parted_hold = refl

-- 3: a last line without its LF is of another form
abbrev unended : Cases
unended =
    (good ++ "d", "no\t19\n")
    ∷ (settings ++ "wgt\t3f800000", "no\t19\n")
    ∷ ("set\tS\t0\t1\t1\t10\t20\t0000000000000000\t3f800000", "no\t19\n")
    ∷ (good ++ "p\t1", "no\t19\n")
    ∷ (good ++ "d\nx", "ok\nno\t19\n")
    ∷ []

unended_hold : given unended ≡ expected unended
unfolding running
unended_hold = refl

-- 4: a missing head line, or no input
abbrev missing : Cases
missing =
    ("", "no\t19\n")
    ∷ (settings, "no\t19\n")
    ∷ []

missing_hold : given missing ≡ expected missing
unfolding running
missing_hold = refl

-- 5: the form of both head lines comes before every row
abbrev form_first : Cases
form_first =
    ("set\tS\t0\t0\t1\t10\t20\t0000000000000000\t3f800000\nwgt\tx\n", "no\t19\n")
    ∷ ("set\tS\t0\t0\t1\t10\t20\t0000000000000000\t3f800000\nwgt\n", "no\t2\n")
    ∷ []

form_first_hold : given form_first ≡ expected form_first
unfolding running
form_first_hold = refl

-- 6: another mode or method is of another form
abbrev kinds : Cases
kinds =
    ("set\tX\t0\t1\t1\t10\t20\t0000000000000000\t3f800000\nwgt\t3f800000\n", "no\t19\n")
    ∷ ("set\tI\t0\t1\t1\t10\t20\t0000000000000000\t3f800000\nwgt\t3f800000\n", "no\t19\n")
    ∷ ("set\tS\t6\t1\t1\t10\t20\t0000000000000000\t3f800000\nwgt\t3f800000\n", "no\t19\n")
    ∷ []

kinds_hold : given kinds ≡ expected kinds
unfolding running
kinds_hold = refl

-- 7: the one not-a-number is of the form, and a row refuses it; every other pattern is not
abbrev not_a_number : Cases
not_a_number =
    ("set\tS\t0\t1\t1\t10\t20\t7ff8000000000000\t3f800000\nwgt\t3f800000\n", "no\t6\n")
    ∷ (settings ++ "wgt\t7fc00000\n", "no\t9\n")
    ∷ (good ++ "p\t1\t7fc00000\n", "no\t11\n")
    ∷ (good ++ "p\t1\t7fc00001\n", "no\t19\n")
    ∷ ("set\tS\t0\t1\t1\t10\t20\t7ff8000000000001\t3f800000\nwgt\t3f800000\n", "no\t19\n")
    ∷ []

not_a_number_hold : given not_a_number ≡ expected not_a_number
unfolding running
not_a_number_hold = refl

-- 8: the form of a call comes before its rows
abbrev calls_form : Cases
calls_form =
    (good ++ "p\t1\t3f800000\tzz\n", "no\t19\n")
    ∷ (good ++ "p\t1\t3f800000\t3f800000\n", "no\t10\n")
    ∷ []

calls_form_hold : given calls_form ≡ expected calls_form
unfolding running
calls_form_hold = refl

-- 9: any number of f32 fields, none included
abbrev any_number : Cases
any_number =
    (settings ++ "wgt\n", "no\t5\n")
    ∷ (good ++ "p\t5\n", "no\t10\n")
    ∷ (good ++ "p\n", "no\t19\n")
    ∷ (
      good ++ "l\t5\t00000000\t00000000\t00000000\t00000000\t00000000\t00000000\t00000000\t00000000\t00000000\t00000000\t00000000\t00000000\t00000000\t00000000\t" ++
          "00000000\t00000000\t00000000\t00000000\t00000000\t00000000\n",
      "no\t10\n",
    )
    ∷ []

any_number_hold : given any_number ≡ expected any_number
unfolding running
any_number_hold = refl

-- 10: a further field of `d` or `s`, an empty line, a CR, a name in the other case
abbrev other_forms : Cases
other_forms =
    (good ++ "d\t\n", "no\t19\n")
    ∷ (good ++ "s\t1\n", "no\t19\n")
    ∷ (good ++ "\n", "no\t19\n")
    ∷ (good ++ "d\r\n", "no\t19\n")
    ∷ (good ++ "D\n", "no\t19\n")
    ∷ []

other_forms_hold : given other_forms ≡ expected other_forms
unfolding running
other_forms_hold = refl

-- 11: `ok` also where a learn adds nothing; `none` while waiting and never else
abbrev answers : Cases
answers =
    (good ++ "l\t1\t3f800000\nl\t0\t3f800000\n", "ok\nok\n")
    ∷ ("set\tS\t4\t1\t2\t2\t20\t0000000000000000\t3f800000\nwgt\t3f800000\np\t1\t3f800000\nl\t1\t3f800000\nl\t2\t3f800000\np\t3\t3f800000\n", "none\nok\nok\npt\t00000000\t00000000\n")
    ∷ []

answers_hold : given answers ≡ expected answers
unfolding running
answers_hold = refl

-- 12: the last point stays, also where a later `p` is refused
abbrev last_point : Cases
last_point = (
  good ++ "p\t1\t3f800000\np\t2\nl\t3\t40000000\ns\n",
  "pt\t3f800000\nno\t10\nok\nset\tS\t0\t1\t1\t10\t20\t0000000000000000\t3f800000\nwgt\t3f800000\nchn\t0\ncnt\t1\t1\t1\n" ++
      "dev\t3ff0000000000000\t4000000000000000\t4010000000000000\ndev\t3ff0000000000000\t4000000000000000\t4010000000000000\n" ++
      "dev\t3ff0000000000000\t0000000000000000\t0000000000000000\ndev\t3ff0000000000000\t4000000000000000\t4010000000000000\n" ++
      "dev\t3ff0000000000000\t0000000000000000\t0000000000000000\ndev\t3ff0000000000000\t4008000000000000\t4022000000000000\n" ++
      "dev\t3ff0000000000000\t4008000000000000\t4022000000000000\ndev\t3ff0000000000000\t0000000000000000\t0000000000000000\n" ++
      "dev\t3ff0000000000000\t4008000000000000\t4022000000000000\ndev\t3ff0000000000000\t0000000000000000\t0000000000000000\ninp\t40000000\npnt\t3f800000\n" ++
      "tim\t3\n",
)
    ∷ []

last_point_hold : given last_point ≡ expected last_point
unfolding running
last_point_hold = refl

-- 13: beyond the bench's limits, after rows 1 to 9
abbrev limits : Cases
limits =
    ("set\tS\t0\t5\t1\t10\t20\t0000000000000000\t3f800000\nwgt\t3f800000\t3f800000\t3f800000\t3f800000\t3f800000\n", "no\t20\n")
    ∷ ("set\tS\t0\t1\t1\t501\t600\t0000000000000000\t3f800000\nwgt\t3f800000\n", "no\t20\n")
    ∷ (
      "set\tS\t0\t17\t1\t10\t20\t0000000000000000\t3f800000\nwgt\t3f800000\t3f800000\t3f800000\t3f800000\t3f800000\t3f800000\t3f800000\t3f800000\t3f800000\t" ++
          "3f800000\t3f800000\t3f800000\t3f800000\t3f800000\t3f800000\t3f800000\t3f800000\n",
      "no\t4\n",
    )
    ∷ ("set\tS\t0\t1\t1\t500\t600\t0000000000000000\t3f800000\nwgt\t3f800000\n", "")
    ∷ []

limits_hold : given limits ≡ expected limits
unfolding running
limits_hold = refl
