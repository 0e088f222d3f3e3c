-- The theorems at a list that has every kind of call and a learn with an anomaly, in TIME_AUGMENTED: put away while two readings wait, taken up over
-- memory that is too long and holds something else. Assumes nothing.
use Prim.Native.Nat.{ℕ, ◌≤◌}
use mathlib.Core.Path.{◌≡◌, refl, ap, ◌∙◌}
use mathlib.Core.List.{List, [], ◌∷◌, map}
use mathlib.Core.Option.{Option, none, some}
use native.Mathlib.Omega.{arith}
use lib.IntN.{negsuc}
use lib.ListN.{length, take, drop, replicate}
use lib.Ieee.{Float, nan, binary64, of_bits}
use lib.Ieee as Ieee
use Rattle.numeric.specs.Narrow as Narrow
use Rattle.numeric.specs.Root as Root
use Rattle.common.specs.Deviation as Deviation
use Rattle.refusal.specs.Lent as Over
use Rattle.ranges.specs.RangeVector as RangeVector
use Rattle.ranges.specs.RangeVector.{Ranges, ranges}
use Rattle.trcf.specs.Lists as Lists
use Rattle.trcf.specs.Settings as Settings
use Rattle.trcf.specs.Calls as Calls
use Rattle.trcf.specs.Transformer as Transformer
use Rattle.trcf.specs.Preprocessor as Preprocessor
use Rattle.trcf.specs.View as View
use Rattle.trcf.specs.View.{Lent, lent}
use Rattle.trcf.specs.Fit.{All}
use Rattle.trcf.specs.Settings.{Settings, Valid}
use Rattle.trcf.specs.Calls.{Call, Machine, shingled_point, post_process, drain, transform, invert_extrapolation, scale, shift, status}
use Rattle.trcf.specs.Preprocessor.{Answer, refused, absent, done, wrote, learnt, turned, told}
use Rattle.trcf.specs.declared.head.Anomaly.{Anomaly}
use Rattle.trcf.specs.declared.types.TransformMethod.TheVariants.{NORMALIZE}
use Rattle.trcf.specs.declared.types.ForestMode.TheVariants.{TIME_AUGMENTED}
use Rattle.snapshot.specs.Text as Text
use Rattle.restart.specs.History as History
use Rattle.restart.specs.History.{entries, history_text, history_answers}
use Rattle.restart.specs.Statistics as Statistics
use Rattle.restart.specs.Statement.{Restart}
use Rattle.restart.specs.Held.{built_on, held_run, held_answers, text_in, restored_on, HeldRestart}
use Rattle.restart.proofs.Restart.{demand_3}
use Rattle.restart.proofs.Held.{held_demand_3}
use Rattle.restart_program.specs.Program.{returns, left_by_all, answer_read, ProgramRestart}
use Rattle.restart_program.proofs.Program.{program_demand_3}
use Rattle.restart_program.proofs.Instances.{one, two, four, six, learn_at, all_take, all_drop, dirty}

-- to unfold one of these is to unfold whatever its line names
floats : Unit {0}
unfolding Ieee.add Ieee.sub Ieee.mul Ieee.div Ieee.lt Ieee.le Ieee.eq Ieee.of_int Ieee.of_bits Ieee.to_bits Ieee.size Ieee.round Ieee.fits
floats = tt

roots : Unit {0}
unfolding Narrow.narrowed Root.root_of Root.rooted Root.halves Root.root_within
roots = tt

deviations : Unit {0}
unfolding Deviation.outside_unit Deviation.factor_of Deviation.step_of Deviation.is_empty Deviation.mean_of Deviation.root_above Deviation.deviation_of
deviations = tt

bands : Unit {0}
unfolding RangeVector.settled RangeVector.shifted RangeVector.scaled RangeVector.range_at RangeVector.put_at RangeVector.unequal RangeVector.unblocked RangeVector.shorter RangeVector.cascade_to
bands = tt

lists : Unit {0}
unfolding Over.over Lists.last_n Lists.shift_in Lists.overwrite View.lent_short
lists = tt

transforms : Unit {0}
unfolding Transformer.statistic_at Transformer.normalized_scale Transformer.basic_shift Transformer.weight_at Transformer.transformed Transformer.scales Transformer.shifts
transforms = tt

inverses : Unit {0}
unfolding Transformer.basic_drift Transformer.unweighted Transformer.inverted Transformer.reciprocal Transformer.forecast_at Transformer.forecast_to Transformer.inverted_forecast
inverses = tt

settings : Unit {0}
unfolding Settings.block Settings.dimension Settings.waiting Settings.all_one Settings.settings_row
settings = tt

rows : Unit {0}
unfolding Calls.finite Calls.due Calls.newest Calls.before_newest Calls.wrong_length Calls.outside Calls.drain_full Calls.learn_full Calls.waiting_short Calls.learn_short Calls.table Calls.rows
rows = tt

turns : Unit {0}
unfolding Calls.lookahead Calls.forecast_unfit Calls.forecast_output_short
turns = tt

clocks : Unit {0}
unfolding Preprocessor.timescale Preprocessor.timedrift Preprocessor.time_element Preprocessor.transformed_after
clocks = tt

computing : Unit {0}
unfolding floats roots deviations bands lists transforms inverses settings rows turns clocks
computing = tt

counts : Unit {0}
unfolding History.seen_of History.internal_of History.buffer_of History.shingled History.inputs_of History.timestamps_of History.newest_reading History.count_of
    History.statistics_of Statistics.statistics_from
counts = tt

sheet : Unit {0}
unfolding History.history_state History.history_facts History.history_refusal History.complete History.adds History.enter History.entries History.history_text
sheet = tt

recording : Unit {0}
unfolding computing counts sheet
recording = tt

writing : Unit {0}
unfolding recording Text.whole Text.float Text.set_line Text.singles Text.cnt_line Text.dev_line Text.tim_line Text.buf_line Text.chn_line Text.lines_by Text.body_lines Text.render
writing = tt

points : Unit {0}
unfolding Preprocessor.previous Preprocessor.time_base Preprocessor.preceding Preprocessor.primed Preprocessor.point_of Preprocessor.scale_of Preprocessor.shift_of
points = tt

feeds : Unit {0}
unfolding Transformer.put_statistic Transformer.fed Transformer.deviations_at Transformer.put_deviations Transformer.fed_at Transformer.channels_fed Transformer.updated
feeds = tt

drains : Unit {0}
unfolding Preprocessor.time_fed Preprocessor.feed Preprocessor.drain_one Preprocessor.drain_all Preprocessor.drained
drains = tt

learns : Unit {0}
unfolding Preprocessor.buffered Preprocessor.learned Preprocessor.learned_with Preprocessor.learned_nothing Preprocessor.buffered_answer Preprocessor.learned_answer Preprocessor.learn_answer
learns = tt

anomalies : Unit {0}
unfolding Preprocessor.block_from Preprocessor.past_values Preprocessor.expected_values Preprocessor.anomaly_of
anomalies = tt

forecasts : Unit {0}
unfolding Preprocessor.invert_time Preprocessor.numbers_of Preprocessor.times_of Preprocessor.turned_back
forecasts = tt

shown : Unit {0}
unfolding Transformer.difference_deviations Preprocessor.deviations Preprocessor.facts Preprocessor.status_of Preprocessor.reply
shown = tt

answering : Unit {0}
unfolding recording points feeds drains learns anomalies forecasts shown History.history_answer
answering = tt

-- ---- TIME_AUGMENTED, NORMALIZE, k 2, start 2, stop 3, weight_time 2

abbrev times : Settings
times = record { mode = TIME_AUGMENTED; method = NORMALIZE; d = 1; k = 2; start = 2; stop = 3; decay = of_bits binary64 0x3fc0_0000_0000_0000; weight_time = two; weights = two ∷ []; codes = 7 ∷ [] }

times_valid : Valid times
unfolding computing
times_valid = record {
  unrefused = refl;
  machine = record { stop_fits = omega arith; decay_fits = tt; weight_time_fits = tt; weights_fit = (tt, tt); codes_fit = (omega arith, tt) };
}

abbrev y : List Float
y = one ∷ two ∷ four ∷ six ∷ []

-- a list that is too long, and holds something
abbrev dust : ℕ → List Float
dust n = replicate n nan

abbrev dusty : ℕ → Ranges
dusty n = ranges (dust n) (dust n) (dust n)

-- the reading before the newest is told as the one that was odd
abbrev odd : Call
odd =
    post_process (record {
      input = two ∷ [];
      timestamp = 131;
      rcf_point = some y;
      expected_point = some y;
      grade = one;
      relative_index = negsuc 0;
      deviations_out = dust 3;
      past_out = dust 2;
      expected_out = dust 2;
    })

abbrev every : List Call
every =
    shingled_point (one ∷ []) 99 (dust 4)
    ∷ learn_at (four ∷ []) 100 none
    ∷ status (dust 2)
    ∷ learn_at (six ∷ []) 130 none
    ∷ shingled_point (two ∷ []) 131 (dust 5)
    ∷ drain
    ∷ odd
    ∷ learn_at (six ∷ []) 130 (some y)
    ∷ learn_at (six ∷ []) 18446744073709551615 (some y)
    ∷ transform (four ∷ []) 141 (dust 3)
    ∷ invert_extrapolation (record { forecast = ranges y y y; values_out = dusty 3; times_out = dusty 2 })
    ∷ scale (dust 3)
    ∷ shift (dust 2)
    ∷ drain
    ∷ status (dust 2)
    ∷ status []
    ∷ []

every_machine : All Machine every
unfolding computing
every_machine = (
  tt,
  (
    ((tt, tt), (omega arith), tt),
    (
      tt,
      (
        ((tt, tt), (omega arith), tt),
        (
          tt,
          (
            tt,
            (
              ((tt, tt), (omega arith), (tt, (tt, (tt, (tt, tt))))),
              (
                ((tt, tt), (omega arith), (tt, (tt, (tt, (tt, tt))))),
                (
                  ((tt, tt), (omega arith), (tt, (tt, (tt, (tt, tt))))),
                  (tt, (tt, (tt, (tt, (tt, (tt, (tt, tt))))))),
                ),
              ),
            ),
          ),
        ),
      ),
    ),
  ),
)

-- every place
every_at : (n : ℕ) → Restart times (take n every) (drop n every)
every_at n = demand_3.once times times_valid (take n every) (drop n every) (all_take Machine n every every_machine)

-- ---- put away after the fourth call, while both readings wait

abbrev other : Lent
other = lent (replicate 90 (of_bits binary64 0xfff0_0000_0000_0000)) (dust 2) (dust 7) (replicate 8 3) (replicate 5 six) (replicate 3 5)

every_fits : length (history_text times (take 4 every)) ≤ 1000
unfolding writing
every_fits = omega arith

every_held : HeldRestart times (take 4 every) (drop 4 every) dirty other (replicate 1000 10) (replicate 1000 255)
unfolding computing
every_held =
    held_demand_3 times times_valid (take 4 every) (drop 4 every) (all_take Machine 4 every every_machine) (all_drop Machine 4 every every_machine)
    dirty other refl refl (replicate 1000 10) (replicate 1000 255) every_fits

every_program : ProgramRestart times (take 4 every) (drop 4 every) dirty other (replicate 1000 10) (replicate 1000 255)
unfolding computing
every_program =
    program_demand_3 times times_valid (take 4 every) (drop 4 every) (all_take Machine 4 every every_machine) (all_drop Machine 4 every every_machine)
    dirty other refl refl (replicate 1000 10) (replicate 1000 255) every_fits

-- ---- what the second watch answers

abbrev row_in : Answer → ℕ
row_in (refused n) = n
row_in absent = 0
row_in done = 0
row_in (wrote v) = 0
row_in (learnt l) = 0
row_in (turned f) = 0
row_in (told s) = 0

-- a drain with nothing left to drain, a time that falls, and no room for what status tells are refused
abbrev rows_of_rest : List ℕ
rows_of_rest = 0 ∷ 15 ∷ 0 ∷ 12 ∷ 0 ∷ 0 ∷ 0 ∷ 0 ∷ 0 ∷ 0 ∷ 0 ∷ 20 ∷ []

every_rows : map row_in (history_answers times (entries times (take 4 every)) (drop 4 every)) ≡ rows_of_rest
unfolding answering
every_rows = refl

held_rows : map row_in (held_answers (restored_on (text_in (held_run (built_on times dirty) (take 4 every)) (replicate 1000 10)) (7 ∷ []) other) (drop 4 every)) ≡ rows_of_rest
held_rows = ap (map row_in) every_held.ruled_answers ∙ every_rows

program_rows : map row_in (map answer_read (returns (restored_on (text_in (left_by_all (built_on times dirty) (take 4 every)) (replicate 1000 10)) (7 ∷ []) other) (drop 4 every))) ≡ rows_of_rest
program_rows = ap (map row_in) every_program.ruled_answers ∙ every_rows

-- the anomaly that a learn tells, and what it writes
pub record Oddity : Type 0 where
  pub anomaly : Option Anomaly
  pub past : List Float

abbrev oddities : List Answer → List Oddity
oddities [] = []
oddities (refused n ∷ r) = oddities r
oddities (absent ∷ r) = oddities r
oddities (done ∷ r) = oddities r
oddities (wrote v ∷ r) = oddities r
oddities (learnt l ∷ r) = record { anomaly = l.anomaly; past = l.past_out } ∷ oddities r
oddities (turned f ∷ r) = oddities r
oddities (told s ∷ r) = oddities r

-- the past value is the second W, 6, its time the first W's, 100; the learn after it tells none
abbrev told_odd : List Oddity
told_odd =
    record { anomaly = some (record { past_timestamp = 100; likelihood = one }); past = six ∷ nan ∷ [] }
    ∷ record { anomaly = none; past = nan ∷ [] }
    ∷ []

every_odd : oddities (history_answers times (entries times (take 4 every)) (drop 4 every)) ≡ told_odd
unfolding answering
every_odd = refl

program_odd : oddities (map answer_read (returns (restored_on (text_in (left_by_all (built_on times dirty) (take 4 every)) (replicate 1000 10)) (7 ∷ []) other) (drop 4 every))) ≡ told_odd
program_odd = ap oddities every_program.ruled_answers ∙ every_odd
