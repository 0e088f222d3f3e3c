-- Inputs of the settling program and what it prints, worked out by computation. What each prints is the answer of the oracle (docs/ORACLE.md).
use Prim.Native.Nat.{ℕ}
use Prim.Native.String.{String, ◌++◌}
use mathlib.Core.Path.{◌≡◌, refl}
use mathlib.Core.List.{List, [], ◌∷◌}
use lib.Ieee.{to_bits, of_bits, of_fields, odd, fits, size, round, le, lt, eq, add, sub, mul, div, of_int}
use Rattle.numeric.specs.Narrow.{narrowed}
use Rattle.numeric.specs.Root.{root_within, halves, rooted, root_of}
use Rattle.common.specs.Deviation.{outside_unit, factor_of, step_of as fedStep, is_empty, mean_of, root_above, deviation_of}
use Rattle.refusal.specs.Lent.{over}
use Rattle.trcf.specs.Lists.{last_n, shift_in, overwrite}
use Rattle.trcf.specs.Transformer.{statistic_at, put_statistic, fed, deviations_at, put_deviations, fed_at, channels_fed, updated, normalized_scale, basic_shift, basic_drift, weight_at}
use Rattle.trcf.specs.Transformer.{transformed, unweighted, inverted, scales, shifts, difference_deviations}
use Rattle.trcf.specs.Settings.{block, dimension, waiting, all_one, settings_row}
use Rattle.trcf.specs.Calls.{finite, due, newest, wrong_length, outside, drain_full, learn_full, waiting_short, learn_short, table, rows, before_newest}
use Rattle.trcf.specs.Preprocessor.{fresh as freshState, facts, time_fed, feed, timescale, timedrift, time_element, transformed_after, previous, primed, drain_one, drain_all, drained}
use Rattle.trcf.specs.Preprocessor.{buffered, learned, learned_with, change, deviations, next, refusal, answer, status_of, point_of, block_from, past_values, expected_values, anomaly_of}
use Rattle.trcf.specs.Preprocessor.{learned_nothing, buffered_answer, learned_answer, learn_answer, reply, time_base, preceding}
use Rattle.snapshot.specs.Text.{whole, float}
use Rattle.snapshot.specs.Read.{float_from, as_whole, as_float}
use Rattle.snapshot.specs.Ascii.{ascii}
use Rattle.bench_core.specs.Line.{blank_line, line_with_field, cell_of, request_of, kept_of}
use Rattle.bench_core.specs.Bench.{no_text, builder_from}
use Rattle.settling.specs.Settling.{in_limits, pair_row, signal_value, value_at, note, settling_after, noted_of, run_of}
use Rattle.settle_core.specs.Input.{line_of, pair_by, pair_of, signed_of, part_of, fields_of, is_signal, signal_read, opens, input_of}
use Rattle.settle_core.specs.Settle.{noted_line, settle_of}

-- to unfold this is to unfold whatever its line names
running : Unit {0}
unfolding to_bits of_bits of_fields odd fits size round le lt eq add sub mul div of_int narrowed root_within halves rooted root_of outside_unit factor_of fedStep is_empty mean_of
    root_above deviation_of over last_n shift_in overwrite statistic_at put_statistic fed deviations_at put_deviations fed_at channels_fed updated normalized_scale basic_shift
    basic_drift weight_at transformed unweighted inverted scales shifts difference_deviations block dimension waiting all_one settings_row finite due newest wrong_length outside
    drain_full learn_full waiting_short learn_short table rows freshState facts time_fed feed timescale timedrift time_element transformed_after previous primed drain_one drain_all
    drained buffered learned learned_with change deviations point_of block_from past_values expected_values anomaly_of learned_nothing buffered_answer learned_answer learn_answer
    reply whole float float_from as_whole as_float blank_line line_with_field cell_of request_of kept_of no_text builder_from next refusal answer status_of in_limits pair_row
    signal_value value_at note settling_after noted_of run_of line_of pair_by pair_of signed_of part_of fields_of is_signal signal_read opens input_of noted_line settle_of
    before_newest time_base preceding
running = tt

-- inputs with their outputs
abbrev Cases : Type 0
Cases = List (String × String)

abbrev given : Cases → List (List ℕ)
given [] = []
given (c ∷ cs) = settle_of (ascii c.0) ∷ given cs

abbrev expected : Cases → List (List ℕ)
expected [] = []
expected (c ∷ cs) = ascii c.1 ∷ expected cs

-- a pair that is accepted, and a signal of four readings
abbrev good : String
good = "set\tS\t0\t1\t1\t10\t20\t0000000000000000\t3f800000\nwgt\t3f800000\n"

abbrev four : String
four = good ++ good ++ good ++ good

abbrev eight : String
eight = four ++ four

abbrev signal : String
signal = "sig\t3\t1\t2\t-1\t2\t4\n"

-- every pair its line: the number, the first reading after which it is ready, the largest last element
abbrev runs : Cases
runs =
    (good ++ "set\tS\t4\t1\t2\t2\t20\t0000000000000000\t3f800000\nwgt\t3f800000\n" ++ signal, "1\t0\t40e00000\n2\t2\t3fb22c52\n")
    ∷ ("set\tT\t2\t1\t1\t10\t20\t0000000000000000\t3f800000\nwgt\t3f800000\nsig\t0\t0\t0\t0\t0\t2\n", "1\t0\t3f800000\n")
    ∷ ("set\tS\t4\t1\t1\t4\t20\t0000000000000000\t3f800000\nwgt\t3f800000\nsig\t1\t0\t0\t0\t0\t3\n", "1\t3\t-\n")
    ∷ (good ++ "sig\t-5\t0\t5\t0\t0\t3\n", "1\t0\t00000000\n")
    ∷ (good ++ "sig\t1000\t-1000\t1000\t-1000\t1000\t1\n", "1\t0\t447a0000\n")
    ∷ []

runs_hold : given runs ≡ expected runs
unfolding running
runs_hold = refl

-- a fault, and which one decides
abbrev faults : Cases
faults =
    ("", "no\t23\n")
    ∷ (signal, "no\t23\n")
    ∷ (good, "no\t23\n")
    ∷ (good ++ "set\tS\t0\t1\t1\t10\t20\t0000000000000000\t3f800000\n", "no\t19\n")
    ∷ (good ++ "set\tS\t0\t1\t1\t10\t20\t0000000000000000\t3f800000\nwgt\t3F800000\n" ++ signal, "no\t19\n")
    ∷ ("set\tS\t0\t1\t0\t10\t20\t0000000000000000\t3f800000\nwgt\t\n" ++ signal, "no\t19\n")
    ∷ ("set\tS\t0\t1\t0\t10\t20\t0000000000000000\t3f800000\nwgt\t3f800000\nset\n", "no\t3\n")
    ∷ ("set\tS\t0\t2\t1\t10\t20\t0000000000000000\t3f800000\nwgt\t3f800000\t3f800000\n" ++ signal, "no\t23\n")
    ∷ ("set\tS\t0\t2\t1\t10\t20\t0000000000000000\t3f800000\nwgt\t3f800000\n" ++ signal, "no\t5\n")
    ∷ ("set\tS\t0\t1\t1\t10\t20\t3ff0000000000000\t3f800000\nwgt\t3f800000\nset\tS\t0\t17\t1\t10\t20\t0000000000000000\t3f800000\nwgt\t3f800000\n" ++ signal, "no\t6\n")
    ∷ ("set\tS\t0\t1\t1\t2000\t3000\t0000000000000000\t3f800000\nwgt\t3f800000\n" ++ signal, "no\t8\n")
    ∷ (eight ++ good ++ signal, "no\t23\n")
    ∷ (eight ++ "set\n", "no\t23\n")
    ∷ (eight ++ "sig\n", "no\t23\n")
    ∷ ("set\tS\t6\t1\t1\t10\t20\t0000000000000000\t3f800000\nwgt\t3f800000\n" ++ signal, "no\t19\n")
    ∷ []

faults_hold : given faults ≡ expected faults
unfolding running
faults_hold = refl

-- the signal line: its form and its limits
abbrev signals : Cases
signals =
    (good ++ "sig\t-0\t0\t0\t0\t0\t1\n", "no\t23\n")
    ∷ (good ++ "sig\t0\t0\t0\t0\t0\t0\n", "no\t23\n")
    ∷ (good ++ "sig\t0\t0\t0\t0\t0\t1001\n", "no\t23\n")
    ∷ (good ++ "sig\t1001\t0\t0\t0\t0\t1\n", "no\t23\n")
    ∷ (good ++ "sig\t0\t-1001\t0\t0\t0\t1\n", "no\t23\n")
    ∷ (good ++ "sig\t0\t0\t0\t0\t1001\t1\n", "no\t23\n")
    ∷ (good ++ "sig\t0\t0\t0\t0\t0\t1", "no\t23\n")
    ∷ (good ++ "sig\t0\t0\t0\t0\t0\t1\t\n", "no\t23\n")
    ∷ (good ++ "sig\t0\t0\t0\t0\t0\t1\n\n", "no\t23\n")
    ∷ (good ++ "sig\t01\t0\t0\t0\t0\t1\n", "no\t23\n")
    ∷ (good ++ "Sig\t0\t0\t0\t0\t0\t1\n", "no\t23\n")
    ∷ []

signals_hold : given signals ≡ expected signals
unfolding running
signals_hold = refl
