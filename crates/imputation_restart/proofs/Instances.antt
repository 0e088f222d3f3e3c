-- The theorem at a concrete filling: two channels, a gap that LINEAR fills, and one where b − a overflows, whose learn meets row 11.
use Prim.Native.Nat.{ℕ, ◌≤◌}
use mathlib.Core.Bool.{true}
use mathlib.Core.Path.{◌≡◌, refl, ap, ◌∙◌}
use mathlib.Core.List.{List, [], ◌∷◌, ◌++◌, map}
use mathlib.Core.Option.{Option, none, some}
use native.Mathlib.Omega.{arith}
use lib.IntN.{pos}
use lib.ListN.{length, get_or, replicate}
use lib.Ieee.{Float, nan, inf, binary32, binary64, of_bits}
use lib.Ieee as Ieee
use Rattle.numeric.specs.Narrow as Narrow
use Rattle.numeric.specs.Root as Root
use Rattle.common.specs.Deviation as Deviation
use Rattle.refusal.specs.Lent as Over
use Rattle.trcf.specs.Lists as Lists
use Rattle.trcf.specs.Settings as Settings
use Rattle.trcf.specs.Calls as Calls
use Rattle.trcf.specs.Transformer as Transformer
use Rattle.trcf.specs.Preprocessor as Preprocessor
use Rattle.trcf.specs.View as View
use Rattle.trcf.specs.View.{Lent, lent}
use Rattle.trcf.specs.Fit.{All}
use Rattle.trcf.specs.Settings.{Settings, Valid}
use Rattle.trcf.specs.Calls.{Learn, Call, post_process, drain}
use Rattle.trcf.specs.Preprocessor.{Answer, refused, absent, done, wrote, learnt, turned, told}
use Rattle.trcf.specs.declared.types.TransformMethod.TheVariants.{NORMALIZE}
use Rattle.trcf.specs.declared.types.ForestMode.TheVariants.{STANDARD}
use Rattle.snapshot.specs.Text as Text
use Rattle.series.specs.declared.imputation.ImputationMethod.TheVariants.{LINEAR}
use Rattle.series.specs.Imputation as Imputation
use Rattle.series.specs.Imputation.{imputed}
use Rattle.restart.specs.History as History
use Rattle.restart.specs.History.{initial_entry, learned_entry, drained_entry, entries, history_text, history_answers}
use Rattle.restart.specs.Held.{built_on, text_in, restored_on}
use Rattle.restart.specs.Statistics as Statistics
use Rattle.restart_program.specs.Program.{returns, left_by_all, answer_read, ProgramRestart}
use Rattle.imputation_restart.specs.FilledLearns.{Filling, fed_with, learns_with, filled_learns, Holdable, MachineOrFilled, other, filled}
use Rattle.imputation_restart.proofs.Filled.{accepted_learns, filled_demand_3}

-- ---- to unfold one of these is to unfold whatever its line names

numbers : Unit {0}
unfolding Ieee.add Ieee.sub Ieee.mul Ieee.div Ieee.lt Ieee.le Ieee.eq Ieee.of_int Ieee.of_bits Ieee.to_bits Ieee.size Ieee.round Ieee.fits Narrow.narrowed Over.over
numbers = tt

roots : Unit {0}
unfolding numbers Root.root_of Root.rooted Root.halves Root.root_within Deviation.outside_unit Deviation.factor_of Deviation.step_of Deviation.is_empty
roots = tt

statistics : Unit {0}
unfolding roots Deviation.mean_of Deviation.root_above Deviation.deviation_of Transformer.statistic_at Transformer.put_statistic Transformer.fed
statistics = tt

feeding : Unit {0}
unfolding statistics Transformer.deviations_at Transformer.put_deviations Transformer.fed_at Transformer.channels_fed Transformer.updated Transformer.normalized_scale
feeding = tt

transforming : Unit {0}
unfolding feeding Transformer.basic_shift Transformer.basic_drift Transformer.weight_at Transformer.transformed Transformer.scales Transformer.difference_deviations
transforming = tt

judging : Unit {0}
unfolding transforming Settings.block Settings.dimension Settings.waiting Settings.all_one Settings.settings_row Lists.last_n Lists.shift_in Lists.overwrite Calls.finite
judging = tt

refusing : Unit {0}
unfolding judging Calls.due Calls.newest Calls.before_newest Calls.wrong_length Calls.outside Calls.drain_full Calls.learn_full Calls.waiting_short Calls.learn_short Calls.table Calls.rows
refusing = tt

computing : Unit {0}
unfolding refusing Preprocessor.time_fed Preprocessor.feed Preprocessor.timescale Preprocessor.timedrift Preprocessor.time_element Preprocessor.transformed_after View.lent_short
computing = tt

filling : Unit {0}
unfolding numbers Imputation.interpolated Imputation.missing_of Imputation.imputed_at Imputation.by_place Imputation.imputed Imputation.cells_misshapen Imputation.known_marks
filling = tt

filled_in : Unit {0}
unfolding filling Imputation.finite_present Imputation.all_finite Imputation.impute_row Imputation.impute_of filled_learns
filled_in = tt

seen : Unit {0}
unfolding computing filled_in History.seen_of History.internal_of History.buffer_of History.shingled History.inputs_of History.timestamps_of History.newest_reading History.count_of
seen = tt

recording : Unit {0}
unfolding seen History.statistics_of Statistics.statistics_from History.history_state History.history_facts History.history_refusal History.complete History.adds History.enter
recording = tt

entering : Unit {0}
unfolding recording History.entries History.history_text
entering = tt

writing : Unit {0}
unfolding entering Text.whole Text.float Text.set_line Text.singles Text.cnt_line Text.dev_line Text.tim_line Text.buf_line Text.chn_line Text.lines_by Text.body_lines Text.render
writing = tt

holding : Unit {0}
unfolding entering Preprocessor.previous Preprocessor.time_base Preprocessor.preceding Preprocessor.primed Preprocessor.drain_one Preprocessor.drain_all Preprocessor.drained
    Preprocessor.buffered Preprocessor.learned
holding = tt

replying : Unit {0}
unfolding holding Preprocessor.learned_with Preprocessor.facts Preprocessor.deviations Preprocessor.scale_of Preprocessor.shift_of Preprocessor.point_of Preprocessor.block_from
replying = tt

answering : Unit {0}
unfolding replying Preprocessor.learned_nothing Preprocessor.buffered_answer Preprocessor.learned_answer Preprocessor.learn_answer Preprocessor.reply Preprocessor.anomaly_of History.history_answer
answering = tt

-- ---- the filling

abbrev single : ℕ → Float
single n = of_bits binary32 n

abbrev one : Float
one = single 0x3f80_0000

abbrev two : Float
two = single 0x4000_0000

abbrev four : Float
four = single 0x4080_0000

abbrev six : Float
six = single 0x40c0_0000

abbrev largest : Float
largest = single 0x7f7f_ffff

abbrev smallest : Float
smallest = single 0xff7f_ffff

abbrev y : List Float
y = one ∷ two ∷ []

abbrev lesson : ℕ → Option (List Float) → Learn
lesson t p =
    record {
      input = [];
      timestamp = t;
      rcf_point = p;
      expected_point = none;
      grade = single 0;
      relative_index = pos 0;
      deviations_out = nan ∷ nan ∷ nan ∷ [];
      past_out = nan ∷ [];
      expected_out = [];
    }

-- five readings: the first channel misses in reading 1, the second in reading 3
abbrev run : Filling
run =
    record {
      method = LINEAR;
      d = 2;
      cells = two ∷ one ∷ nan ∷ one ∷ six ∷ largest ∷ six ∷ nan ∷ six ∷ smallest ∷ [];
      marks = 0 ∷ 0 ∷ 1 ∷ 0 ∷ 0 ∷ 0 ∷ 0 ∷ 1 ∷ 0 ∷ 0 ∷ [];
      fixed = one ∷ two ∷ [];
      learns = lesson 10 none ∷ lesson 20 (some y) ∷ lesson 30 (some y) ∷ lesson 40 (some y) ∷ lesson 18446744073709551615 (some y) ∷ [];
    }

run_holdable : Holdable run
unfolding computing
run_holdable =
    record {
      cells_fit = (tt, (tt, (tt, (tt, (tt, (tt, (tt, (tt, (tt, (tt, tt))))))))));
      fixed_fit = (tt, (tt, tt));
      learns_fit = (
        (omega arith, tt),
        ((omega arith, (tt, (tt, tt))), ((omega arith, (tt, (tt, tt))), ((omega arith, (tt, (tt, tt))), ((omega arith, (tt, (tt, tt))), tt)))),
      );
    }

abbrev fed_at : ℕ → Call
fed_at i = get_or (filled_learns run) i drain

-- 2, 4, 6 on the line of the first channel; −∞ on that of the second
run_learns : filled_learns run
    ≡ post_process (fed_with (two ∷ one ∷ []) (lesson 10 none))
    ∷ post_process (fed_with (four ∷ one ∷ []) (lesson 20 (some y)))
    ∷ post_process (fed_with (six ∷ largest ∷ []) (lesson 30 (some y)))
    ∷ post_process (fed_with (six ∷ inf true ∷ []) (lesson 40 (some y)))
    ∷ post_process (fed_with (six ∷ smallest ∷ []) (lesson 18446744073709551615 (some y)))
    ∷ []
unfolding filled_in
run_learns = refl

run_accepted : filled_learns run ≡ learns_with 2 (imputed LINEAR 2 run.cells run.marks run.fixed) run.learns
unfolding filled_in
run_accepted = accepted_learns run refl

-- ---- key-off in the middle of them

abbrev settings : Settings
settings =
    record {
      mode = STANDARD;
      method = NORMALIZE;
      d = 2;
      k = 1;
      start = 1;
      stop = 9;
      decay = of_bits binary64 0x3fc0_0000_0000_0000;
      weight_time = one;
      weights = two ∷ one ∷ [];
      codes = 7 ∷ 12 ∷ [];
    }

settings_valid : Valid settings
unfolding computing
settings_valid = record {
  unrefused = refl;
  machine = record { stop_fits = omega arith; decay_fits = tt; weight_time_fits = tt; weights_fit = (tt, (tt, tt)); codes_fit = (omega arith, (omega arith, tt)) };
}

abbrev before : List Call
before = fed_at 0 ∷ drain ∷ fed_at 1 ∷ []

abbrev after : List Call
after = fed_at 2 ∷ fed_at 3 ∷ fed_at 4 ∷ []

before_fed : All MachineOrFilled before
unfolding filled_in
before_fed = (filled run run_holdable 0 (omega arith), (other drain tt, (filled run run_holdable 1 (omega arith), tt)))

after_fed : All MachineOrFilled after
unfolding filled_in
after_fed = (filled run run_holdable 2 (omega arith), (filled run run_holdable 3 (omega arith), (filled run run_holdable 4 (omega arith), tt)))

-- memory that is too long and holds something else, for both
abbrev dirty : Lent
dirty = lent (replicate 80 nan) (replicate 5 six) (replicate 4 nan) (replicate 3 18446744073709551615) (replicate 2 nan) (replicate 9 77)

abbrev filthy : Lent
filthy = lent (replicate 90 (of_bits binary64 0xfff0_0000_0000_0000)) (replicate 2 nan) (replicate 7 nan) (replicate 8 3) (replicate 2 six) (replicate 2 5)

text_fits : length (history_text settings before) ≤ 2000
unfolding writing
text_fits = omega arith

run_restart : ProgramRestart settings before after dirty filthy (replicate 2000 10) (replicate 2000 255)
unfolding computing
run_restart =
    filled_demand_3 settings settings_valid before after before_fed after_fed dirty filthy refl refl (replicate 2000 10) (replicate 2000 255) text_fits

-- the overflowed reading adds nothing, the filled one is an entry like the others
run_entries : entries settings (before ++ after)
    ≡ learned_entry (six ∷ smallest ∷ []) 18446744073709551615 y
    ∷ learned_entry (six ∷ largest ∷ []) 30 y
    ∷ learned_entry (four ∷ one ∷ []) 20 y
    ∷ drained_entry
    ∷ initial_entry (two ∷ one ∷ []) 10
    ∷ []
unfolding entering
run_entries = refl

abbrev row_of : Answer → ℕ
row_of (refused n) = n
row_of absent = 0
row_of done = 0
row_of (wrote v) = 0
row_of (learnt l) = 0
row_of (turned f) = 0
row_of (told s) = 0

ruled : map row_of (history_answers settings (entries settings before) after) ≡ 0 ∷ 11 ∷ 0 ∷ []
unfolding answering
ruled = refl

-- the second one, after key-off, over other memory: row 11 at the overflowed reading, the others are learnt
run_answers : map row_of (map answer_read (returns (restored_on (text_in (left_by_all (built_on settings dirty) before) (replicate 2000 10)) (7 ∷ 12 ∷ []) filthy) after))
    ≡ 0 ∷ 11 ∷ 0 ∷ []
run_answers = ap (map row_of) run_restart.ruled_answers ∙ ruled
