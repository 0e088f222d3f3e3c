-- Lists of calls whose texts and answers the unchanged Rust gave (oracle: traces SEED COUNT antt), computed by the definitions.
use Prim.Native.Nat.{ℕ}
use mathlib.Core.Path.{◌≡◌, refl}
use mathlib.Core.Bool.{true, false}
use mathlib.Core.List.{List, [], ◌∷◌}
use mathlib.Core.Option.{none, some}
use lib.IntN.{pos, negsuc}
use lib.ListN.{replicate}
use lib.Ieee.{Float, nan, binary32, binary64, of_bits}
use lib.Ieee as Ieee
use Rattle.numeric.specs.Narrow as Narrow
use Rattle.numeric.specs.Root as Root
use Rattle.common.specs.Deviation as Deviation
use Rattle.refusal.specs.Lent as Lent
use Rattle.ranges.specs.RangeVector as RangeVector
use Rattle.ranges.specs.RangeVector.{ranges}
use Rattle.trcf.specs.Lists as Lists
use Rattle.trcf.specs.Settings as Settings
use Rattle.trcf.specs.Calls as Calls
use Rattle.trcf.specs.Transformer as Transformer
use Rattle.trcf.specs.Preprocessor as Preprocessor
use Rattle.trcf.specs.Settings.{Settings}
use Rattle.trcf.specs.Calls.{Learn, Forecast, Call, shingled_point, post_process, drain, transform, invert_extrapolation, scale, shift, status}
use Rattle.trcf.specs.Preprocessor.{fresh, run, answers, Answer, refused, absent, done, wrote, learnt, turned, told, Learned, Status}
use Rattle.trcf.specs.declared.head.Anomaly.{Anomaly}
use Rattle.trcf.specs.declared.types.TransformMethod.TheVariants.{NONE, WEIGHTED, DIFFERENCE, SUBTRACT_MA, NORMALIZE, NORMALIZE_DIFFERENCE}
use Rattle.trcf.specs.declared.types.ForestMode.TheVariants.{STANDARD, TIME_AUGMENTED}
use Rattle.snapshot.specs.Text as Text
use Rattle.snapshot.specs.Text.{render}
use Rattle.snapshot.specs.Ascii.{text}
use Rattle.restart.specs.Statistics as Statistics
use Rattle.restart.specs.History as History
use Rattle.restart.specs.History.{history_text}

-- to unfold this is to unfold whatever its line names
trace_all : Unit {0}
unfolding Ieee.span Ieee.climb Ieee.size Ieee.odd Ieee.units Ieee.round Ieee.neg Ieee.sum Ieee.add Ieee.sub Ieee.mul Ieee.div Ieee.lt Ieee.eq Ieee.le Ieee.ne Ieee.of_int Ieee.fits Ieee.of_fields Ieee.of_bits Ieee.to_bits Narrow.narrowed Root.root_within Root.halves Root.rooted Root.root_of Deviation.outside_unit Deviation.deviation_new Deviation.deviation_create Deviation.factor_of Deviation.step_of Deviation.deviation_update Deviation.is_empty Deviation.mean_of Deviation.root_above Deviation.deviation_of Deviation.deviation_set_count Lent.over RangeVector.settled RangeVector.shifted RangeVector.scaled RangeVector.range_at RangeVector.put_at RangeVector.past_any RangeVector.range_shift RangeVector.range_scale RangeVector.cascade_to RangeVector.unequal RangeVector.unblocked RangeVector.range_cascaded_add RangeVector.shorter RangeVector.range_new RangeVector.range_from RangeVector.in_order RangeVector.range_create Lists.last_n Lists.shift_in Lists.overwrite Settings.block Settings.dimension Settings.waiting Settings.all_one Settings.settings_row Calls.finite Calls.due Calls.newest Calls.before_newest Calls.wrong_length Calls.outside Calls.drain_full Calls.learn_full Calls.lookahead Calls.forecast_unfit Calls.forecast_output_short Calls.waiting_short Calls.learn_short Calls.table Calls.rows Transformer.statistic_at Transformer.put_statistic Transformer.fed Transformer.deviations_at Transformer.put_deviations Transformer.fed_at Transformer.channels_fed Transformer.updated Transformer.normalized_scale Transformer.basic_shift Transformer.basic_drift Transformer.weight_at Transformer.transformed Transformer.unweighted Transformer.inverted Transformer.reciprocal Transformer.forecast_at Transformer.forecast_to Transformer.inverted_forecast Transformer.scales Transformer.shifts Transformer.difference_deviations Preprocessor.fresh Preprocessor.facts Preprocessor.refusal Preprocessor.time_fed Preprocessor.feed Preprocessor.timescale Preprocessor.timedrift Preprocessor.time_element Preprocessor.transformed_after Preprocessor.previous Preprocessor.time_base Preprocessor.preceding Preprocessor.primed Preprocessor.drain_one Preprocessor.drain_all Preprocessor.drained Preprocessor.buffered Preprocessor.learned Preprocessor.learned_with Preprocessor.change Preprocessor.next Preprocessor.deviations Preprocessor.scale_of Preprocessor.shift_of Preprocessor.point_of Preprocessor.invert_time Preprocessor.numbers_of Preprocessor.times_of Preprocessor.block_from Preprocessor.past_values Preprocessor.expected_values Preprocessor.anomaly_of Preprocessor.learned_nothing Preprocessor.buffered_answer Preprocessor.learned_answer Preprocessor.learn_answer Preprocessor.turned_back Preprocessor.status_of Preprocessor.reply Preprocessor.answer Text.whole Text.float Text.set_line Text.singles Text.chn_line Text.cnt_line Text.dev_line Text.tim_line Text.buf_line Text.body_lines Text.lines_by Text.render Statistics.statistics_from History.seen_of History.internal_of History.buffer_of History.shingled History.inputs_of History.timestamps_of History.newest_reading History.count_of History.statistics_of History.history_state History.history_facts History.history_refusal History.complete History.adds History.enter History.entries History.history_text History.history_answer History.history_panel
trace_all = tt

abbrev s0 : Settings
s0 = record { mode = STANDARD; method = NONE; d = 1; k = 1; start = 2; stop = 9223372036854775808; decay = (of_bits binary64 0x1); weight_time = (of_bits binary32 0xff800000); weights = ((of_bits binary32 0x3f800000) ∷ []); codes = (9999 ∷ []) }

abbrev c0 : List Call
c0 = (
    post_process (record { input = ((of_bits binary32 0x42c40000) ∷ []); timestamp = 1731408313920514; rcf_point = (some ((of_bits binary32 0x40000000) ∷ [])); expected_point = (some ((of_bits binary32 0x116c2) ∷ [])); grade = (of_bits binary32 0x3f000000); relative_index = (pos 0); deviations_out = (replicate 1 (of_bits binary32 0)); past_out = (replicate 1 (of_bits binary32 0)); expected_out = (replicate 1 (of_bits binary32 0)) }) ∷
    post_process (record { input = ((of_bits binary32 0x429d0000) ∷ []); timestamp = 1731408313920514; rcf_point = (some ((of_bits binary32 0x80000001) ∷ [])); expected_point = (some ((of_bits binary32 0x42aa4000) ∷ [])); grade = (of_bits binary32 0x3f000000); relative_index = (pos 0); deviations_out = (replicate 1 (of_bits binary32 0)); past_out = (replicate 1 (of_bits binary32 0)); expected_out = (replicate 4 (of_bits binary32 0)) }) ∷
    post_process (record { input = ((of_bits binary32 0x3e800000) ∷ []); timestamp = 1731408313920519; rcf_point = (some ((of_bits binary32 0xfa2cb9a9) ∷ [])); expected_point = none; grade = (of_bits binary32 0x3f000000); relative_index = (negsuc 2147483647); deviations_out = (replicate 1 (of_bits binary32 0)); past_out = (replicate 1 (of_bits binary32 0)); expected_out = (replicate 1 (of_bits binary32 0)) }) ∷
    post_process (record { input = ((of_bits binary32 0x41a60000) ∷ []); timestamp = 1731408313920536; rcf_point = (some ((of_bits binary32 0x40800000) ∷ [])); expected_point = none; grade = (of_bits binary32 0x3f000000); relative_index = (pos 0); deviations_out = (replicate 3 (of_bits binary32 0)); past_out = (replicate 1 (of_bits binary32 0)); expected_out = (replicate 1 (of_bits binary32 0)) }) ∷
    shift (replicate 1 (of_bits binary32 0)) ∷
    post_process (record { input = ((of_bits binary32 0x42c38000) ∷ []); timestamp = 1731408313920543; rcf_point = (some ((of_bits binary32 0x41a98000) ∷ [])); expected_point = none; grade = (of_bits binary32 0xbf800000); relative_index = (negsuc 0); deviations_out = (replicate 1 (of_bits binary32 0)); past_out = (replicate 1 (of_bits binary32 0)); expected_out = (replicate 3 (of_bits binary32 0)) }) ∷
    post_process (record { input = ((of_bits binary32 0x42100000) ∷ []); timestamp = 1731408313920559; rcf_point = (some ((of_bits binary32 0xff800000) ∷ [])); expected_point = (some ((of_bits binary32 0xb5c8a539) ∷ [])); grade = (of_bits binary32 0x7f800000); relative_index = (pos 0); deviations_out = (replicate 1 (of_bits binary32 0)); past_out = (replicate 2 (of_bits binary32 0)); expected_out = (replicate 1 (of_bits binary32 0)) }) ∷
    invert_extrapolation (record { forecast = ranges ((of_bits binary32 0xff800000) ∷ (of_bits binary32 0xc0a00000) ∷ (of_bits binary32 0xc2218000) ∷ (of_bits binary32 0x98116c91) ∷ []) ((of_bits binary32 0xff800000) ∷ (of_bits binary32 0xc0a00000) ∷ (of_bits binary32 0xc21d8000) ∷ (of_bits binary32 0x40000000) ∷ []) ((of_bits binary32 0xff800000) ∷ (of_bits binary32 0xc1100000) ∷ (of_bits binary32 0xc2258000) ∷ (of_bits binary32 0xbf800000) ∷ []); values_out = (ranges (replicate 4 (of_bits binary32 0)) (replicate 4 (of_bits binary32 0)) (replicate 4 (of_bits binary32 0))); times_out = (ranges (replicate 4 (of_bits binary32 0)) (replicate 4 (of_bits binary32 0)) (replicate 4 (of_bits binary32 0))) }) ∷
    status (replicate 1 (of_bits binary32 0)) ∷
    scale (replicate 1 (of_bits binary32 0)) ∷ [])

abbrev t0 : List ℕ
t0 = text (
    "set\tS\t0\t1\t1\t2\t9223372036854775808\t0000000000000001\tff800000" ∷
    "wgt\t3f800000" ∷
    "chn\t9999" ∷
    "cnt\t5\t5\t5" ∷
    "dev\t400aaaaaaaaaaaab\t406966aaaaaaaaab\t40ceea06aaaaaaac" ∷
    "dev\t400aaaaaaaaaaaab\tc02a555555555554\t40cc105d55555555" ∷
    "dev\t4014000000000000\t405b04da78c3d6e0\t40a9ff4e0edc5b82" ∷
    "dev\t4014000000000000\t40607f70f70f70f8\t40c552a81d7e97b6" ∷
    "dev\t4014000000000000\t406eeb264e0c2a7a\t40cdf3113e5725a6" ∷
    "dev\t400aaaaaaaaaaaab\t43348105b50a9306\t465f87f1a0c483dd" ∷
    "dev\t400aaaaaaaaaaaab\t43006737c408767f\t4629398e1a36cf16" ∷
    "dev\t4014000000000000\t4176a09e667f3bcd\t4300000000000001" ∷
    "dev\t4014000000000000\t4326f1e7e911ed88\t464774836fd3ffd3" ∷
    "dev\t4014000000000000\t4323231dd1644866\t4637a8c09458f470" ∷
    "inp\t42100000" ∷
    "pnt\tff800000" ∷
    "tim\t1731408313920559" ∷ [])

run0 : render (run (fresh s0) c0) ≡ t0
unfolding trace_all
run0 = refl

history0 : history_text s0 c0 ≡ t0
unfolding trace_all
history0 = refl

answers0 : answers (fresh s0) c0 ≡ (
    learnt (record { written = true; anomaly = some (record { past_timestamp = 0; likelihood = (of_bits binary32 0x3f800000) }); deviations_out = ((of_bits binary32 0x0) ∷ []); past_out = ((of_bits binary32 0x42c40000) ∷ []); expected_out = ((of_bits binary32 0x116c2) ∷ []) }) ∷
    learnt (record { written = true; anomaly = some (record { past_timestamp = 1731408313920514; likelihood = (of_bits binary32 0x3f800000) }); deviations_out = ((of_bits binary32 0x41e64085) ∷ []); past_out = ((of_bits binary32 0x429d0000) ∷ []); expected_out = ((of_bits binary32 0x42aa4000) ∷ (of_bits binary32 0x0) ∷ (of_bits binary32 0x0) ∷ (of_bits binary32 0x0) ∷ []) }) ∷
    refused 14 ∷
    learnt (record { written = true; anomaly = none; deviations_out = ((of_bits binary32 0x421d2452) ∷ (of_bits binary32 0x0) ∷ (of_bits binary32 0x0) ∷ []); past_out = ((of_bits binary32 0x0) ∷ []); expected_out = ((of_bits binary32 0x0) ∷ []) }) ∷
    wrote ((of_bits binary32 0x0) ∷ []) ∷
    learnt (record { written = true; anomaly = none; deviations_out = ((of_bits binary32 0x4235cfe3) ∷ []); past_out = ((of_bits binary32 0x0) ∷ []); expected_out = ((of_bits binary32 0x0) ∷ (of_bits binary32 0x0) ∷ (of_bits binary32 0x0) ∷ []) }) ∷
    learnt (record { written = true; anomaly = some (record { past_timestamp = 1731408313920543; likelihood = (of_bits binary32 0x3f800000) }); deviations_out = ((of_bits binary32 0x4245e0f5) ∷ []); past_out = ((of_bits binary32 0x42100000) ∷ (of_bits binary32 0x0) ∷ []); expected_out = ((of_bits binary32 0xb5c8a539) ∷ []) }) ∷
    turned (record { forecast = (ranges ((of_bits binary32 0xff800000) ∷ (of_bits binary32 0x41ab2c0c) ∷ (of_bits binary32 0x4146b030) ∷ (of_bits binary32 0x429e6109) ∷ []) ((of_bits binary32 0xff800000) ∷ (of_bits binary32 0x41ab2c0c) ∷ (of_bits binary32 0x4156b030) ∷ (of_bits binary32 0x42a26109) ∷ []) ((of_bits binary32 0xff800000) ∷ (of_bits binary32 0x418b2c0c) ∷ (of_bits binary32 0x4136b030) ∷ (of_bits binary32 0x429c6109) ∷ [])); values_out = (ranges (replicate 4 (of_bits binary32 0)) (replicate 4 (of_bits binary32 0)) (replicate 4 (of_bits binary32 0))); times_out = (ranges (replicate 4 (of_bits binary32 0)) (replicate 4 (of_bits binary32 0)) (replicate 4 (of_bits binary32 0))) }) ∷
    told (record { values_seen = 5; internal_timestamp = 5; ready = true; input_dimensions = 1; shingle_size = 1; dimensions = 1; method = NONE; mode = STANDARD; start = 2; panel = 5; deviations_out = ((of_bits binary32 0x4245e0f5) ∷ []) }) ∷
    wrote ((of_bits binary32 0x3f800000) ∷ []) ∷ [])
unfolding trace_all
answers0 = refl

abbrev s1 : Settings
s1 = record { mode = TIME_AUGMENTED; method = NORMALIZE; d = 1; k = 3; start = 1; stop = 5; decay = (of_bits binary64 0x3fefae147ae147ae); weight_time = (of_bits binary32 0xbf000000); weights = ((of_bits binary32 0x40400000) ∷ []); codes = (0 ∷ []) }

abbrev c1 : List Call
c1 = (
    status (replicate 2 (of_bits binary32 0)) ∷ [])

abbrev t1 : List ℕ
t1 = text (
    "set\tT\t4\t1\t3\t1\t5\t3fefae147ae147ae\tbf000000" ∷
    "wgt\t40400000" ∷
    "chn\t0" ∷
    "cnt\t0\t0\t0" ∷
    "dev\t0000000000000000\t0000000000000000\t0000000000000000" ∷
    "dev\t0000000000000000\t0000000000000000\t0000000000000000" ∷
    "dev\t0000000000000000\t0000000000000000\t0000000000000000" ∷
    "dev\t0000000000000000\t0000000000000000\t0000000000000000" ∷
    "dev\t0000000000000000\t0000000000000000\t0000000000000000" ∷
    "dev\t0000000000000000\t0000000000000000\t0000000000000000" ∷
    "dev\t0000000000000000\t0000000000000000\t0000000000000000" ∷
    "dev\t0000000000000000\t0000000000000000\t0000000000000000" ∷
    "dev\t0000000000000000\t0000000000000000\t0000000000000000" ∷
    "dev\t0000000000000000\t0000000000000000\t0000000000000000" ∷
    "inp\t00000000\t00000000\t00000000" ∷
    "pnt\t00000000\t00000000\t00000000\t00000000\t00000000\t00000000" ∷
    "tim\t0\t0\t0" ∷ [])

run1 : render (run (fresh s1) c1) ≡ t1
unfolding trace_all
run1 = refl

history1 : history_text s1 c1 ≡ t1
unfolding trace_all
history1 = refl

answers1 : answers (fresh s1) c1 ≡ (
    told (record { values_seen = 0; internal_timestamp = 0; ready = false; input_dimensions = 1; shingle_size = 3; dimensions = 6; method = NORMALIZE; mode = TIME_AUGMENTED; start = 1; panel = 0; deviations_out = ((of_bits binary32 0x0) ∷ (of_bits binary32 0x80000000) ∷ []) }) ∷ [])
unfolding trace_all
answers1 = refl

abbrev s2 : Settings
s2 = record { mode = TIME_AUGMENTED; method = WEIGHTED; d = 2; k = 3; start = 3; stop = 9223372036854775808; decay = (of_bits binary64 0x3f50624dd2f1a9fc); weight_time = (of_bits binary32 0x3f800000); weights = ((of_bits binary32 0x40000000) ∷ (of_bits binary32 0x40400000) ∷ []); codes = (28798 ∷ 45356 ∷ []) }

abbrev c2 : List Call
c2 = (
    invert_extrapolation (record { forecast = ranges ((of_bits binary32 0xff800000) ∷ (of_bits binary32 0x41988000) ∷ (of_bits binary32 0xc289a000) ∷ (of_bits binary32 0x50816c5f) ∷ (of_bits binary32 0xdc5151e0) ∷ (of_bits binary32 0x4201c000) ∷ (of_bits binary32 0xc0400000) ∷ (of_bits binary32 0xff800000) ∷ (of_bits binary32 0x40c00000) ∷ (of_bits binary32 0x42d08000) ∷ (of_bits binary32 0xbf800000) ∷ (of_bits binary32 0x45dce1b3) ∷ (of_bits binary32 0xc1cc8000) ∷ (of_bits binary32 0x1) ∷ (of_bits binary32 0x41200000) ∷ (of_bits binary32 0x80000001) ∷ (of_bits binary32 0x40e00000) ∷ []) ((of_bits binary32 0xff800000) ∷ (of_bits binary32 0x41b88000) ∷ (of_bits binary32 0xc285a000) ∷ (of_bits binary32 0x50816c5f) ∷ (of_bits binary32 0xdc5151e0) ∷ (of_bits binary32 0x4215c000) ∷ (of_bits binary32 0xc0400000) ∷ (of_bits binary32 0xff800000) ∷ (of_bits binary32 0x41000000) ∷ (of_bits binary32 0x42d68000) ∷ (of_bits binary32 0x3f800000) ∷ (of_bits binary32 0x45dce1b3) ∷ (of_bits binary32 0xc1bc8000) ∷ (of_bits binary32 0x1) ∷ (of_bits binary32 0x41300000) ∷ (of_bits binary32 0x40400000) ∷ (of_bits binary32 0x41000000) ∷ []) ((of_bits binary32 0xff800000) ∷ (of_bits binary32 0x41610000) ∷ (of_bits binary32 0xc291a000) ∷ (of_bits binary32 0x50816c5f) ∷ (of_bits binary32 0xdc5151e0) ∷ (of_bits binary32 0x41fb8000) ∷ (of_bits binary32 0xc0e00000) ∷ (of_bits binary32 0xff800000) ∷ (of_bits binary32 0x40a00000) ∷ (of_bits binary32 0x42ca8000) ∷ (of_bits binary32 0xbf800000) ∷ (of_bits binary32 0x45dcd1b3) ∷ (of_bits binary32 0xc1f48000) ∷ (of_bits binary32 0xc0000000) ∷ (of_bits binary32 0x40c00000) ∷ (of_bits binary32 0xc0400000) ∷ (of_bits binary32 0x40c00000) ∷ []); values_out = (ranges (replicate 6 (of_bits binary32 0)) (replicate 6 (of_bits binary32 0)) (replicate 6 (of_bits binary32 0))); times_out = (ranges (replicate 1 (of_bits binary32 0)) (replicate 1 (of_bits binary32 0)) (replicate 1 (of_bits binary32 0))) }) ∷
    post_process (record { input = ((of_bits binary32 0x116c2) ∷ (of_bits binary32 0x80000001) ∷ []); timestamp = 145; rcf_point = (some ((of_bits binary32 0x42fc6000) ∷ (of_bits binary32 0xf17b4ce4) ∷ (of_bits binary32 0x45c7fc11) ∷ (of_bits binary32 0x12d95a78) ∷ (of_bits binary32 0xc1200000) ∷ (of_bits binary32 0x461af03a) ∷ (of_bits binary32 0xc1200000) ∷ (of_bits binary32 0xbf800000) ∷ (of_bits binary32 0xc1100000) ∷ [])); expected_point = none; grade = (of_bits binary32 0x7f800000); relative_index = (negsuc 2); deviations_out = (replicate 3 (of_bits binary32 0)); past_out = (replicate 2 (of_bits binary32 0)); expected_out = (replicate 2 (of_bits binary32 0)) }) ∷
    shingled_point ((of_bits binary32 0x464d161a) ∷ (of_bits binary32 0x421c4000) ∷ []) 153 (replicate 9 (of_bits binary32 0)) ∷
    post_process (record { input = ((of_bits binary32 0xff7fffff) ∷ (of_bits binary32 0x4252c000) ∷ []); timestamp = 153; rcf_point = (some ((of_bits binary32 0x0) ∷ (of_bits binary32 0x0) ∷ (of_bits binary32 0x0) ∷ (of_bits binary32 0x0) ∷ (of_bits binary32 0x0) ∷ (of_bits binary32 0x0) ∷ (of_bits binary32 0x46cd161a) ∷ (of_bits binary32 0x42ea6000) ∷ (of_bits binary32 0x0) ∷ [])); expected_point = (some ((of_bits binary32 0x7f7fffff) ∷ (of_bits binary32 0x46827bf3) ∷ (of_bits binary32 0x7f7fffff) ∷ (of_bits binary32 0x450264bd) ∷ (of_bits binary32 0xff61b1e6) ∷ (of_bits binary32 0x2da46684) ∷ (of_bits binary32 0x40a00000) ∷ (of_bits binary32 0x42f18000) ∷ (of_bits binary32 0x40a00000) ∷ [])); grade = (of_bits binary32 0x7f800000); relative_index = (negsuc 1); deviations_out = (replicate 3 (of_bits binary32 0)); past_out = (replicate 2 (of_bits binary32 0)); expected_out = (replicate 2 (of_bits binary32 0)) }) ∷
    shift (replicate 2 (of_bits binary32 0)) ∷
    post_process (record { input = ((of_bits binary32 0xc264c000) ∷ (of_bits binary32 0x3f800000) ∷ []); timestamp = 157; rcf_point = none; expected_point = none; grade = (of_bits binary32 0x7f800000); relative_index = (negsuc 0); deviations_out = (replicate 3 (of_bits binary32 0)); past_out = (replicate 2 (of_bits binary32 0)); expected_out = (replicate 3 (of_bits binary32 0)) }) ∷
    post_process (record { input = ((of_bits binary32 0xc0000000) ∷ (of_bits binary32 0x430e8000) ∷ []); timestamp = 175; rcf_point = (some ((of_bits binary32 0x0) ∷ (of_bits binary32 0x0) ∷ (of_bits binary32 0x0) ∷ (of_bits binary32 0x0) ∷ (of_bits binary32 0x0) ∷ (of_bits binary32 0x0) ∷ (of_bits binary32 0x46cd161a) ∷ (of_bits binary32 0x42ea6000) ∷ (of_bits binary32 0x0) ∷ [])); expected_point = (some ((of_bits binary32 0xc2990000) ∷ (of_bits binary32 0x41100000) ∷ (of_bits binary32 0xc1100000) ∷ (of_bits binary32 0x40800000) ∷ (of_bits binary32 0x45046ce6) ∷ (of_bits binary32 0x43152000) ∷ (of_bits binary32 0xff61b1e6) ∷ (of_bits binary32 0xbf800000) ∷ (of_bits binary32 0xff7fffff) ∷ (of_bits binary32 0x40a00000) ∷ [])); grade = (of_bits binary32 0xbf800000); relative_index = (negsuc 1); deviations_out = (replicate 3 (of_bits binary32 0)); past_out = (replicate 2 (of_bits binary32 0)); expected_out = (replicate 2 (of_bits binary32 0)) }) ∷
    post_process (record { input = ((of_bits binary32 0x41200000) ∷ (of_bits binary32 0x116c2) ∷ []); timestamp = 177; rcf_point = none; expected_point = none; grade = (of_bits binary32 0x3f800000); relative_index = (negsuc 1); deviations_out = (replicate 5 (of_bits binary32 0)); past_out = (replicate 2 (of_bits binary32 0)); expected_out = (replicate 2 (of_bits binary32 0)) }) ∷
    invert_extrapolation (record { forecast = ranges ((of_bits binary32 0xea8cdefa) ∷ (of_bits binary32 0xff800000) ∷ (of_bits binary32 0x467cf7b4) ∷ (of_bits binary32 0x7f800000) ∷ (of_bits binary32 0x1) ∷ (of_bits binary32 0x80000000) ∷ (of_bits binary32 0xc1000000) ∷ (of_bits binary32 0x4304e000) ∷ []) ((of_bits binary32 0xea8cdefa) ∷ (of_bits binary32 0xff800000) ∷ (of_bits binary32 0x467d07b4) ∷ (of_bits binary32 0x7f800000) ∷ (of_bits binary32 0x40a00000) ∷ (of_bits binary32 0x40400000) ∷ (of_bits binary32 0xc0a00000) ∷ (of_bits binary32 0x4305e000) ∷ []) ((of_bits binary32 0xea8cdefa) ∷ (of_bits binary32 0xff800000) ∷ (of_bits binary32 0x467cf7b4) ∷ (of_bits binary32 0x7f800000) ∷ (of_bits binary32 0xc0400000) ∷ (of_bits binary32 0xbf800000) ∷ (of_bits binary32 0xc1400000) ∷ (of_bits binary32 0x4302e000) ∷ []); values_out = (ranges (replicate 0 (of_bits binary32 0)) (replicate 0 (of_bits binary32 0)) (replicate 0 (of_bits binary32 0))); times_out = (ranges (replicate 0 (of_bits binary32 0)) (replicate 0 (of_bits binary32 0)) (replicate 0 (of_bits binary32 0))) }) ∷ [])

abbrev t2 : List ℕ
t2 = text (
    "set\tT\t1\t2\t3\t3\t9223372036854775808\t3f50624dd2f1a9fc\t3f800000" ∷
    "wgt\t40000000\t40400000" ∷
    "chn\t28798\t45356" ∷
    "cnt\t1\t1\t1" ∷
    "dev\t3ff0000000000000\tc7efffffe0000000\t4fefffffc0000020" ∷
    "dev\t3ff0000000000000\t404a580000000000\t40a5aff200000000" ∷
    "dev\t3ff0000000000000\tc7efffffe0000000\t4fefffffc0000020" ∷
    "dev\t3ff0000000000000\t404a580000000000\t40a5aff200000000" ∷
    "dev\t3ff0000000000000\t0000000000000000\t0000000000000000" ∷
    "dev\t3ff0000000000000\t0000000000000000\t0000000000000000" ∷
    "dev\t3ff0000000000000\tc7efffffe0000000\t4fefffffc0000020" ∷
    "dev\t3ff0000000000000\t404a580000000000\t40a5aff200000000" ∷
    "dev\t3ff0000000000000\t0000000000000000\t0000000000000000" ∷
    "dev\t3ff0000000000000\t0000000000000000\t0000000000000000" ∷
    "dev\t3ff0000000000000\t4063200000000000\t40d6dc4000000000" ∷
    "dev\t3ff0000000000000\t4063200000000000\t40d6dc4000000000" ∷
    "dev\t3ff0000000000000\t0000000000000000\t0000000000000000" ∷
    "dev\t3ff0000000000000\t4063200000000000\t40d6dc4000000000" ∷
    "dev\t3ff0000000000000\t0000000000000000\t0000000000000000" ∷
    "inp\t00000000\t00000000\t00000000\t00000000\tff7fffff\t4252c000" ∷
    "pnt\t00000000\t00000000\t00000000\t00000000\t00000000\t00000000\t46cd161a\t42ea6000\t00000000" ∷
    "tim\t0\t0\t153" ∷ [])

run2 : render (run (fresh s2) c2) ≡ t2
unfolding trace_all
run2 = refl

history2 : history_text s2 c2 ≡ t2
unfolding trace_all
history2 = refl

answers2 : answers (fresh s2) c2 ≡ (
    turned (record { forecast = (ranges ((of_bits binary32 0xff800000) ∷ (of_bits binary32 0x41988000) ∷ (of_bits binary32 0xc289a000) ∷ (of_bits binary32 0x50816c5f) ∷ (of_bits binary32 0xdc5151e0) ∷ (of_bits binary32 0x4201c000) ∷ (of_bits binary32 0xc0400000) ∷ (of_bits binary32 0xff800000) ∷ (of_bits binary32 0x40c00000) ∷ (of_bits binary32 0x42d08000) ∷ (of_bits binary32 0xbf800000) ∷ (of_bits binary32 0x45dce1b3) ∷ (of_bits binary32 0xc1cc8000) ∷ (of_bits binary32 0x1) ∷ (of_bits binary32 0x41200000) ∷ (of_bits binary32 0x80000001) ∷ (of_bits binary32 0x40e00000) ∷ []) ((of_bits binary32 0xff800000) ∷ (of_bits binary32 0x41b88000) ∷ (of_bits binary32 0xc285a000) ∷ (of_bits binary32 0x50816c5f) ∷ (of_bits binary32 0xdc5151e0) ∷ (of_bits binary32 0x4215c000) ∷ (of_bits binary32 0xc0400000) ∷ (of_bits binary32 0xff800000) ∷ (of_bits binary32 0x41000000) ∷ (of_bits binary32 0x42d68000) ∷ (of_bits binary32 0x3f800000) ∷ (of_bits binary32 0x45dce1b3) ∷ (of_bits binary32 0xc1bc8000) ∷ (of_bits binary32 0x1) ∷ (of_bits binary32 0x41300000) ∷ (of_bits binary32 0x40400000) ∷ (of_bits binary32 0x41000000) ∷ []) ((of_bits binary32 0xff800000) ∷ (of_bits binary32 0x41610000) ∷ (of_bits binary32 0xc291a000) ∷ (of_bits binary32 0x50816c5f) ∷ (of_bits binary32 0xdc5151e0) ∷ (of_bits binary32 0x41fb8000) ∷ (of_bits binary32 0xc0e00000) ∷ (of_bits binary32 0xff800000) ∷ (of_bits binary32 0x40a00000) ∷ (of_bits binary32 0x42ca8000) ∷ (of_bits binary32 0xbf800000) ∷ (of_bits binary32 0x45dcd1b3) ∷ (of_bits binary32 0xc1f48000) ∷ (of_bits binary32 0xc0000000) ∷ (of_bits binary32 0x40c00000) ∷ (of_bits binary32 0xc0400000) ∷ (of_bits binary32 0x40c00000) ∷ [])); values_out = (ranges ((of_bits binary32 0xff800000) ∷ (of_bits binary32 0x40cb5556) ∷ (of_bits binary32 0xc209a000) ∷ (of_bits binary32 0x4fac907f) ∷ (of_bits binary32 0xdbd151e0) ∷ (of_bits binary32 0x412d0000) ∷ []) ((of_bits binary32 0xff800000) ∷ (of_bits binary32 0x40f60000) ∷ (of_bits binary32 0xc205a000) ∷ (of_bits binary32 0x4fac907f) ∷ (of_bits binary32 0xdbd151e0) ∷ (of_bits binary32 0x4147aaab) ∷ []) ((of_bits binary32 0xff800000) ∷ (of_bits binary32 0x40960000) ∷ (of_bits binary32 0xc211a000) ∷ (of_bits binary32 0x4fac907f) ∷ (of_bits binary32 0xdbd151e0) ∷ (of_bits binary32 0x4127aaab) ∷ [])); times_out = (ranges ((of_bits binary64 0xc008000000000000) ∷ []) ((of_bits binary64 0xc008000000000000) ∷ []) ((of_bits binary64 0xc01c000000000000) ∷ [])) }) ∷
    refused 14 ∷
    wrote ((of_bits binary32 0x0) ∷ (of_bits binary32 0x0) ∷ (of_bits binary32 0x0) ∷ (of_bits binary32 0x0) ∷ (of_bits binary32 0x0) ∷ (of_bits binary32 0x0) ∷ (of_bits binary32 0x46cd161a) ∷ (of_bits binary32 0x42ea6000) ∷ (of_bits binary32 0x0) ∷ []) ∷
    learnt (record { written = true; anomaly = some (record { past_timestamp = 0; likelihood = (of_bits binary32 0x3f800000) }); deviations_out = ((of_bits binary32 0x0) ∷ (of_bits binary32 0x0) ∷ (of_bits binary32 0x0) ∷ []); past_out = ((of_bits binary32 0x0) ∷ (of_bits binary32 0x0) ∷ []); expected_out = ((of_bits binary32 0x7e7fffff) ∷ (of_bits binary32 0x44e7f8cc) ∷ []) }) ∷
    refused 20 ∷
    learnt (record { written = false; anomaly = none; deviations_out = ((of_bits binary32 0x0) ∷ (of_bits binary32 0x0) ∷ (of_bits binary32 0x0) ∷ []); past_out = ((of_bits binary32 0x0) ∷ (of_bits binary32 0x0) ∷ []); expected_out = ((of_bits binary32 0x0) ∷ (of_bits binary32 0x0) ∷ (of_bits binary32 0x0) ∷ []) }) ∷
    refused 13 ∷
    learnt (record { written = false; anomaly = none; deviations_out = ((of_bits binary32 0x0) ∷ (of_bits binary32 0x0) ∷ (of_bits binary32 0x0) ∷ (of_bits binary32 0x0) ∷ (of_bits binary32 0x0) ∷ []); past_out = ((of_bits binary32 0x0) ∷ (of_bits binary32 0x0) ∷ []); expected_out = ((of_bits binary32 0x0) ∷ (of_bits binary32 0x0) ∷ []) }) ∷
    refused 16 ∷ [])
unfolding trace_all
answers2 = refl

abbrev s3 : Settings
s3 = record { mode = STANDARD; method = DIFFERENCE; d = 1; k = 1; start = 1; stop = 9223372036854775808; decay = (of_bits binary64 0x0); weight_time = (of_bits binary32 0x0); weights = ((of_bits binary32 0x7f800000) ∷ []); codes = (3168 ∷ []) }

abbrev c3 : List Call
c3 = (
    invert_extrapolation (record { forecast = ranges ([]) ([]) ([]); values_out = (ranges (replicate 0 (of_bits binary32 0)) (replicate 0 (of_bits binary32 0)) (replicate 0 (of_bits binary32 0))); times_out = (ranges (replicate 0 (of_bits binary32 0)) (replicate 0 (of_bits binary32 0)) (replicate 0 (of_bits binary32 0))) }) ∷
    status (replicate 1 (of_bits binary32 0)) ∷
    post_process (record { input = ((of_bits binary32 0x41600000) ∷ []); timestamp = 183; rcf_point = (some ((of_bits binary32 0x45fd4a80) ∷ [])); expected_point = none; grade = (of_bits binary32 0x3f000000); relative_index = (pos 1); deviations_out = (replicate 1 (of_bits binary32 0)); past_out = (replicate 0 (of_bits binary32 0)); expected_out = (replicate 4 (of_bits binary32 0)) }) ∷
    shingled_point ((of_bits binary32 0xc1000000) ∷ (of_bits binary32 0x0) ∷ []) 186 (replicate 1 (of_bits binary32 0)) ∷
    scale (replicate 1 (of_bits binary32 0)) ∷
    scale (replicate 1 (of_bits binary32 0)) ∷ [])

abbrev t3 : List ℕ
t3 = text (
    "set\tS\t2\t1\t1\t1\t9223372036854775808\t0000000000000000\t00000000" ∷
    "wgt\t7f800000" ∷
    "chn\t3168" ∷
    "cnt\t0\t0\t0" ∷
    "dev\t0000000000000000\t0000000000000000\t0000000000000000" ∷
    "dev\t0000000000000000\t0000000000000000\t0000000000000000" ∷
    "dev\t0000000000000000\t0000000000000000\t0000000000000000" ∷
    "dev\t0000000000000000\t0000000000000000\t0000000000000000" ∷
    "dev\t0000000000000000\t0000000000000000\t0000000000000000" ∷
    "dev\t0000000000000000\t0000000000000000\t0000000000000000" ∷
    "dev\t0000000000000000\t0000000000000000\t0000000000000000" ∷
    "dev\t0000000000000000\t0000000000000000\t0000000000000000" ∷
    "dev\t0000000000000000\t0000000000000000\t0000000000000000" ∷
    "dev\t0000000000000000\t0000000000000000\t0000000000000000" ∷
    "inp\t00000000" ∷
    "pnt\t00000000" ∷
    "tim\t0" ∷ [])

run3 : render (run (fresh s3) c3) ≡ t3
unfolding trace_all
run3 = refl

history3 : history_text s3 c3 ≡ t3
unfolding trace_all
history3 = refl

answers3 : answers (fresh s3) c3 ≡ (
    refused 16 ∷
    told (record { values_seen = 0; internal_timestamp = 0; ready = false; input_dimensions = 1; shingle_size = 1; dimensions = 1; method = DIFFERENCE; mode = STANDARD; start = 1; panel = 0; deviations_out = ((of_bits binary32 0x0) ∷ []) }) ∷
    refused 14 ∷
    refused 10 ∷
    wrote ((of_bits binary32 0x7f800000) ∷ []) ∷
    wrote ((of_bits binary32 0x7f800000) ∷ []) ∷ [])
unfolding trace_all
answers3 = refl

abbrev s4 : Settings
s4 = record { mode = TIME_AUGMENTED; method = NORMALIZE; d = 2; k = 1; start = 0; stop = 0; decay = (of_bits binary64 0x1a56e1fc2f8f359); weight_time = (of_bits binary32 0x3f800000); weights = ((of_bits binary32 0x7f800000) ∷ (of_bits binary32 0x1) ∷ []); codes = (0 ∷ 0 ∷ []) }

abbrev c4 : List Call
c4 = (
    shingled_point ([]) 170 (replicate 0 (of_bits binary32 0)) ∷
    shift (replicate 5 (of_bits binary32 0)) ∷
    invert_extrapolation (record { forecast = ranges ((of_bits binary32 0x7f800000) ∷ (of_bits binary32 0xff800000) ∷ []) ((of_bits binary32 0x7f800000) ∷ (of_bits binary32 0xff800000) ∷ []) ((of_bits binary32 0x7f800000) ∷ (of_bits binary32 0xff800000) ∷ []); values_out = (ranges (replicate 3 (of_bits binary32 0)) (replicate 0 (of_bits binary32 0)) (replicate 1 (of_bits binary32 0))); times_out = (ranges (replicate 0 (of_bits binary32 0)) (replicate 0 (of_bits binary32 0)) (replicate 0 (of_bits binary32 0))) }) ∷
    drain ∷
    post_process (record { input = ((of_bits binary32 0x428f0000) ∷ (of_bits binary32 0x42290000) ∷ []); timestamp = 182; rcf_point = (some ((of_bits binary32 0x4609725e) ∷ (of_bits binary32 0x4588d7fc) ∷ (of_bits binary32 0xc0800000) ∷ [])); expected_point = none; grade = (of_bits binary32 0xbf800000); relative_index = (pos 0); deviations_out = (replicate 3 (of_bits binary32 0)); past_out = (replicate 2 (of_bits binary32 0)); expected_out = (replicate 2 (of_bits binary32 0)) }) ∷
    post_process (record { input = ((of_bits binary32 0x42aa8000) ∷ (of_bits binary32 0x42140000) ∷ []); timestamp = 189; rcf_point = (some ((of_bits binary32 0xbf800000) ∷ (of_bits binary32 0x1) ∷ [])); expected_point = (some ((of_bits binary32 0x6766d64c) ∷ (of_bits binary32 0xd70ad0c3) ∷ (of_bits binary32 0xbfb00000) ∷ [])); grade = (of_bits binary32 0x80000000); relative_index = (pos 0); deviations_out = (replicate 3 (of_bits binary32 0)); past_out = (replicate 2 (of_bits binary32 0)); expected_out = (replicate 2 (of_bits binary32 0)) }) ∷
    post_process (record { input = ((of_bits binary32 0x42a08000) ∷ (of_bits binary32 0x3fa00000) ∷ []); timestamp = 189; rcf_point = none; expected_point = none; grade = (of_bits binary32 0xbf800000); relative_index = (negsuc 0); deviations_out = (replicate 3 (of_bits binary32 0)); past_out = (replicate 2 (of_bits binary32 0)); expected_out = (replicate 2 (of_bits binary32 0)) }) ∷
    shingled_point ((of_bits binary32 0x428c8000) ∷ (of_bits binary32 0x42500000) ∷ []) 198 (replicate 0 (of_bits binary32 0)) ∷
    post_process (record { input = ((of_bits binary32 0x0) ∷ (of_bits binary32 0x41200000) ∷ (of_bits binary32 0x46131973) ∷ []); timestamp = 734504505092; rcf_point = (some ((of_bits binary32 0xc1200000) ∷ (of_bits binary32 0x463a7f41) ∷ (of_bits binary32 0x40000000) ∷ [])); expected_point = none; grade = (of_bits binary32 0x7f800000); relative_index = (negsuc 0); deviations_out = (replicate 3 (of_bits binary32 0)); past_out = (replicate 2 (of_bits binary32 0)); expected_out = (replicate 2 (of_bits binary32 0)) }) ∷
    post_process (record { input = ((of_bits binary32 0x42a20000) ∷ (of_bits binary32 0x42780000) ∷ []); timestamp = 734504505104; rcf_point = (some ((of_bits binary32 0x7f7fffff) ∷ (of_bits binary32 0xe62835fc) ∷ (of_bits binary32 0xe0ad78ec) ∷ [])); expected_point = (some ((of_bits binary32 0x40400000) ∷ (of_bits binary32 0xc0400000) ∷ (of_bits binary32 0xc2c32000) ∷ [])); grade = (of_bits binary32 0x80000000); relative_index = (pos 0); deviations_out = (replicate 3 (of_bits binary32 0)); past_out = (replicate 3 (of_bits binary32 0)); expected_out = (replicate 2 (of_bits binary32 0)) }) ∷
    post_process (record { input = ((of_bits binary32 0x42b08000) ∷ (of_bits binary32 0x428b0000) ∷ []); timestamp = 734504505117; rcf_point = none; expected_point = none; grade = (of_bits binary32 0x3f800000); relative_index = (negsuc 2147483647); deviations_out = (replicate 4 (of_bits binary32 0)); past_out = (replicate 2 (of_bits binary32 0)); expected_out = (replicate 3 (of_bits binary32 0)) }) ∷ [])

abbrev t4 : List ℕ
t4 = text (
    "set\tT\t4\t2\t1\t0\t0\t01a56e1fc2f8f359\t3f800000" ∷
    "wgt\t7f800000\t00000001" ∷
    "chn\t0\t0" ∷
    "cnt\t2\t2\t0" ∷
    "dev\t0000000000000000\t0000000000000000\t0000000000000000" ∷
    "dev\t0000000000000000\t0000000000000000\t0000000000000000" ∷
    "dev\t0000000000000000\t0000000000000000\t0000000000000000" ∷
    "dev\t0000000000000000\t0000000000000000\t0000000000000000" ∷
    "dev\t0000000000000000\t0000000000000000\t0000000000000000" ∷
    "dev\t0000000000000000\t0000000000000000\t0000000000000000" ∷
    "dev\t0000000000000000\t0000000000000000\t0000000000000000" ∷
    "dev\t0000000000000000\t0000000000000000\t0000000000000000" ∷
    "dev\t0000000000000000\t0000000000000000\t0000000000000000" ∷
    "dev\t0000000000000000\t0000000000000000\t0000000000000000" ∷
    "dev\t0000000000000000\t0000000000000000\t0000000000000000" ∷
    "dev\t0000000000000000\t0000000000000000\t0000000000000000" ∷
    "dev\t0000000000000000\t0000000000000000\t0000000000000000" ∷
    "dev\t0000000000000000\t0000000000000000\t0000000000000000" ∷
    "dev\t0000000000000000\t0000000000000000\t0000000000000000" ∷
    "inp\t42a20000\t42780000" ∷
    "pnt\t7f7fffff\te62835fc\te0ad78ec" ∷
    "tim\t734504505104" ∷ [])

run4 : render (run (fresh s4) c4) ≡ t4
unfolding trace_all
run4 = refl

history4 : history_text s4 c4 ≡ t4
unfolding trace_all
history4 = refl

answers4 : answers (fresh s4) c4 ≡ (
    refused 10 ∷
    wrote ((of_bits binary32 0x0) ∷ (of_bits binary32 0x0) ∷ (of_bits binary32 0x0) ∷ (of_bits binary32 0x0) ∷ (of_bits binary32 0x0) ∷ []) ∷
    refused 16 ∷
    refused 15 ∷
    learnt (record { written = true; anomaly = none; deviations_out = ((of_bits binary32 0x0) ∷ (of_bits binary32 0x0) ∷ (of_bits binary32 0x0) ∷ []); past_out = ((of_bits binary32 0x0) ∷ (of_bits binary32 0x0) ∷ []); expected_out = ((of_bits binary32 0x0) ∷ (of_bits binary32 0x0) ∷ []) }) ∷
    refused 13 ∷
    learnt (record { written = false; anomaly = none; deviations_out = ((of_bits binary32 0x0) ∷ (of_bits binary32 0x0) ∷ (of_bits binary32 0x0) ∷ []); past_out = ((of_bits binary32 0x0) ∷ (of_bits binary32 0x0) ∷ []); expected_out = ((of_bits binary32 0x0) ∷ (of_bits binary32 0x0) ∷ []) }) ∷
    refused 20 ∷
    refused 10 ∷
    learnt (record { written = true; anomaly = none; deviations_out = ((of_bits binary32 0x0) ∷ (of_bits binary32 0x0) ∷ (of_bits binary32 0x0) ∷ []); past_out = ((of_bits binary32 0x0) ∷ (of_bits binary32 0x0) ∷ (of_bits binary32 0x0) ∷ []); expected_out = ((of_bits binary32 0x0) ∷ (of_bits binary32 0x0) ∷ []) }) ∷
    learnt (record { written = false; anomaly = none; deviations_out = ((of_bits binary32 0x0) ∷ (of_bits binary32 0x0) ∷ (of_bits binary32 0x0) ∷ (of_bits binary32 0x0) ∷ []); past_out = ((of_bits binary32 0x0) ∷ (of_bits binary32 0x0) ∷ []); expected_out = ((of_bits binary32 0x0) ∷ (of_bits binary32 0x0) ∷ (of_bits binary32 0x0) ∷ []) }) ∷ [])
unfolding trace_all
answers4 = refl

abbrev s5 : Settings
s5 = record { mode = STANDARD; method = NONE; d = 2; k = 1; start = 2; stop = 6; decay = (of_bits binary64 0x0); weight_time = (of_bits binary32 0xc0000000); weights = ((of_bits binary32 0x3f800000) ∷ (of_bits binary32 0x3f800000) ∷ []); codes = (0 ∷ 0 ∷ []) }

abbrev c5 : List Call
c5 = (
    invert_extrapolation (record { forecast = ranges ((of_bits binary32 0xc1ef8000) ∷ []) ((of_bits binary32 0xc1ef8000) ∷ []) ((of_bits binary32 0xc1ef8000) ∷ []); values_out = (ranges (replicate 1 (of_bits binary32 0)) (replicate 0 (of_bits binary32 0)) (replicate 0 (of_bits binary32 0))); times_out = (ranges (replicate 0 (of_bits binary32 0)) (replicate 0 (of_bits binary32 0)) (replicate 0 (of_bits binary32 0))) }) ∷
    scale (replicate 2 (of_bits binary32 0)) ∷
    transform ((of_bits binary32 0x4629a652) ∷ (of_bits binary32 0x42df6000) ∷ (of_bits binary32 0x0) ∷ []) 56 (replicate 4 (of_bits binary32 0)) ∷
    post_process (record { input = ((of_bits binary32 0x420d0000) ∷ (of_bits binary32 0x420d0000) ∷ []); timestamp = 56; rcf_point = (some ((of_bits binary32 0x1) ∷ (of_bits binary32 0x80000001) ∷ [])); expected_point = none; grade = (of_bits binary32 0x7f800000); relative_index = (pos 0); deviations_out = (replicate 2 (of_bits binary32 0)); past_out = (replicate 2 (of_bits binary32 0)); expected_out = (replicate 4 (of_bits binary32 0)) }) ∷
    scale (replicate 3 (of_bits binary32 0)) ∷
    shingled_point ((of_bits binary32 0x42c08000) ∷ (of_bits binary32 0x42bc8000) ∷ []) 76 (replicate 0 (of_bits binary32 0)) ∷ [])

abbrev t5 : List ℕ
t5 = text (
    "set\tS\t0\t2\t1\t2\t6\t0000000000000000\tc0000000" ∷
    "wgt\t3f800000\t3f800000" ∷
    "chn\t0\t0" ∷
    "cnt\t1\t1\t1" ∷
    "dev\t3ff0000000000000\t4041a00000000000\t40936a4000000000" ∷
    "dev\t3ff0000000000000\t4041a00000000000\t40936a4000000000" ∷
    "dev\t3ff0000000000000\t4041a00000000000\t40936a4000000000" ∷
    "dev\t3ff0000000000000\t4041a00000000000\t40936a4000000000" ∷
    "dev\t3ff0000000000000\t0000000000000000\t0000000000000000" ∷
    "dev\t3ff0000000000000\t0000000000000000\t0000000000000000" ∷
    "dev\t3ff0000000000000\t4041a00000000000\t40936a4000000000" ∷
    "dev\t3ff0000000000000\t4041a00000000000\t40936a4000000000" ∷
    "dev\t3ff0000000000000\t0000000000000000\t0000000000000000" ∷
    "dev\t3ff0000000000000\t0000000000000000\t0000000000000000" ∷
    "dev\t3ff0000000000000\t404c000000000000\t40a8800000000000" ∷
    "dev\t3ff0000000000000\t404c000000000000\t40a8800000000000" ∷
    "dev\t3ff0000000000000\t0000000000000000\t0000000000000000" ∷
    "dev\t3ff0000000000000\t404c000000000000\t40a8800000000000" ∷
    "dev\t3ff0000000000000\t0000000000000000\t0000000000000000" ∷
    "inp\t420d0000\t420d0000" ∷
    "pnt\t00000001\t80000001" ∷
    "tim\t56" ∷ [])

run5 : render (run (fresh s5) c5) ≡ t5
unfolding trace_all
run5 = refl

history5 : history_text s5 c5 ≡ t5
unfolding trace_all
history5 = refl

answers5 : answers (fresh s5) c5 ≡ (
    turned (record { forecast = (ranges ((of_bits binary32 0xc1ef8000) ∷ []) ((of_bits binary32 0xc1ef8000) ∷ []) ((of_bits binary32 0xc1ef8000) ∷ [])); values_out = (ranges (replicate 1 (of_bits binary32 0)) (replicate 0 (of_bits binary32 0)) (replicate 0 (of_bits binary32 0))); times_out = (ranges (replicate 0 (of_bits binary32 0)) (replicate 0 (of_bits binary32 0)) (replicate 0 (of_bits binary32 0))) }) ∷
    wrote ((of_bits binary32 0x3f800000) ∷ (of_bits binary32 0x3f800000) ∷ []) ∷
    refused 10 ∷
    learnt (record { written = true; anomaly = none; deviations_out = ((of_bits binary32 0x0) ∷ (of_bits binary32 0x0) ∷ []); past_out = ((of_bits binary32 0x0) ∷ (of_bits binary32 0x0) ∷ []); expected_out = ((of_bits binary32 0x0) ∷ (of_bits binary32 0x0) ∷ (of_bits binary32 0x0) ∷ (of_bits binary32 0x0) ∷ []) }) ∷
    wrote ((of_bits binary32 0x3f800000) ∷ (of_bits binary32 0x3f800000) ∷ (of_bits binary32 0x0) ∷ []) ∷
    refused 20 ∷ [])
unfolding trace_all
answers5 = refl

abbrev s6 : Settings
s6 = record { mode = STANDARD; method = SUBTRACT_MA; d = 2; k = 2; start = 2; stop = 2; decay = (of_bits binary64 0x3fe0000000000000); weight_time = (of_bits binary32 0x3f800000); weights = (nan ∷ (of_bits binary32 0xbf000000) ∷ []); codes = (11 ∷ 0 ∷ []) }

abbrev c6 : List Call
c6 = (
    post_process (record { input = ((of_bits binary32 0x40000000) ∷ (of_bits binary32 0x42a98000) ∷ []); timestamp = 9223372036854775806; rcf_point = (some ((of_bits binary32 0x3da82e7c) ∷ (of_bits binary32 0x6ac0b802) ∷ (of_bits binary32 0xbf800000) ∷ (of_bits binary32 0x4657b46f) ∷ [])); expected_point = (some ((of_bits binary32 0xff800000) ∷ (of_bits binary32 0x1e3ce508) ∷ (of_bits binary32 0xc255c000) ∷ (of_bits binary32 0x80000000) ∷ [])); grade = (of_bits binary32 0x7f800000); relative_index = (pos 0); deviations_out = (replicate 2 (of_bits binary32 0)); past_out = (replicate 2 (of_bits binary32 0)); expected_out = (replicate 2 (of_bits binary32 0)) }) ∷
    scale (replicate 2 (of_bits binary32 0)) ∷
    invert_extrapolation (record { forecast = ranges ((of_bits binary32 0x80000001) ∷ (of_bits binary32 0xc1100000) ∷ (of_bits binary32 0x42dd0000) ∷ (of_bits binary32 0x40400000) ∷ (of_bits binary32 0x7701b084) ∷ (of_bits binary32 0x7f800000) ∷ (of_bits binary32 0xc0d20000) ∷ (of_bits binary32 0xbfc00000) ∷ (of_bits binary32 0xc1100000) ∷ (of_bits binary32 0x3dcccccd) ∷ []) ((of_bits binary32 0xc0000000) ∷ (of_bits binary32 0xff800000) ∷ (of_bits binary32 0x42fbc000) ∷ (of_bits binary32 0xe3b37d17) ∷ (of_bits binary32 0x3dcccccd) ∷ (of_bits binary32 0xe0ad78ec) ∷ (of_bits binary32 0xc2bf8000) ∷ (of_bits binary32 0x7234002f) ∷ (of_bits binary32 0x800000) ∷ (of_bits binary32 0xff800000) ∷ []) ((of_bits binary32 0x40c00000) ∷ (of_bits binary32 0xf2674c7c) ∷ (of_bits binary32 0xc0a00000) ∷ nan ∷ nan ∷ (of_bits binary32 0x40e00000) ∷ (of_bits binary32 0x0) ∷ (of_bits binary32 0x3dcccccd) ∷ (of_bits binary32 0xc2684000) ∷ (of_bits binary32 0x7f800000) ∷ []); values_out = (ranges (replicate 8 (of_bits binary32 0)) (replicate 8 (of_bits binary32 0)) (replicate 8 (of_bits binary32 0))); times_out = (ranges (replicate 2 (of_bits binary32 0)) (replicate 1 (of_bits binary32 0)) (replicate 2 (of_bits binary32 0))) }) ∷
    status (replicate 2 (of_bits binary32 0)) ∷
    transform ((of_bits binary32 0x7f800000) ∷ (of_bits binary32 0x60ad78ec) ∷ []) 9223372036854775819 (replicate 2 (of_bits binary32 0)) ∷
    drain ∷
    post_process (record { input = ((of_bits binary32 0x42968000) ∷ (of_bits binary32 0x42868000) ∷ []); timestamp = 9223372036854775830; rcf_point = (some ((of_bits binary32 0x42c00000) ∷ (of_bits binary32 0x80000000) ∷ (of_bits binary32 0x80000001) ∷ (of_bits binary32 0x42d62000) ∷ [])); expected_point = none; grade = nan; relative_index = (negsuc 0); deviations_out = (replicate 4 (of_bits binary32 0)); past_out = (replicate 0 (of_bits binary32 0)); expected_out = (replicate 1 (of_bits binary32 0)) }) ∷ [])

abbrev t6 : List ℕ
t6 = text (
    "set\tS\t3\t2\t2\t2\t2\t3fe0000000000000\t3f800000" ∷
    "wgt\t7fc00000\tbf000000" ∷
    "chn\t11\t0" ∷
    "cnt\t2\t2\t2" ∷
    "dev\t3ff8000000000000\t4053100000000000\t40b6209000000000" ∷
    "dev\t3ff8000000000000\t405b680000000000\t40bfb1d800000000" ∷
    "dev\t3ff8000000000000\t4052900000000000\t40b4f79000000000" ∷
    "dev\t3ff8000000000000\t4038e00000000000\t40ae731000000000" ∷
    "dev\t3ffaaaaaaaaaaaab\t404143e3878a6a4b\t4092a1638e38e38d" ∷
    "dev\t3ffaaaaaaaaaaaab\t40207fc8d5677112\t4051038e38e38e7f" ∷
    "dev\t3ffaaaaaaaaaaaab\t40496aaaaaaaaaab\t40a329d555555555" ∷
    "dev\t3ffaaaaaaaaaaaab\t4052455555555556\t40b3c761c71c71c8" ∷
    "dev\t3ffaaaaaaaaaaaab\t4040cb3590126e62\t4091a08000000000" ∷
    "dev\t3ffaaaaaaaaaaaab\t404819be0bd62f06\t40a226b1c71c71c6" ∷
    "dev\t3ff8000000000000\t43e8000000000000\t47d8000000000000" ∷
    "dev\t3ff8000000000000\t43d0000000000000\t47c0000000000000" ∷
    "dev\t3ffaaaaaaaaaaaab\t0000000000000000\t0000000000000000" ∷
    "dev\t3ffaaaaaaaaaaaab\t43e0000000000000\t47c8e38e38e38e3a" ∷
    "dev\t3ffaaaaaaaaaaaab\t43ce2b7dddfefa66\t47ac71c71c71c71c" ∷
    "inp\t40000000\t42a98000\t42968000\t42868000" ∷
    "pnt\t42c00000\t80000000\t80000001\t42d62000" ∷
    "tim\t9223372036854775806\t9223372036854775830" ∷ [])

run6 : render (run (fresh s6) c6) ≡ t6
unfolding trace_all
run6 = refl

history6 : history_text s6 c6 ≡ t6
unfolding trace_all
history6 = refl

answers6 : answers (fresh s6) c6 ≡ (
    learnt (record { written = true; anomaly = some (record { past_timestamp = 0; likelihood = (of_bits binary32 0x3f800000) }); deviations_out = ((of_bits binary32 0x0) ∷ (of_bits binary32 0x0) ∷ []); past_out = ((of_bits binary32 0x40000000) ∷ (of_bits binary32 0x42a98000) ∷ []); expected_out = (nan ∷ (of_bits binary32 0x0) ∷ []) }) ∷
    wrote (nan ∷ (of_bits binary32 0xbf000000) ∷ []) ∷
    turned (record { forecast = (ranges (nan ∷ (of_bits binary32 0x42cd8000) ∷ nan ∷ (of_bits binary32 0x43238000) ∷ nan ∷ (of_bits binary32 0xff800000) ∷ nan ∷ (of_bits binary32 0x43ab0000) ∷ nan ∷ (of_bits binary32 0x43d3c666) ∷ []) (nan ∷ (of_bits binary32 0x7f800000) ∷ nan ∷ (of_bits binary32 0x64337d17) ∷ nan ∷ (of_bits binary32 0x612d78ec) ∷ nan ∷ (of_bits binary32 0x43ab0000) ∷ nan ∷ (of_bits binary32 0x7f800000) ∷ []) (nan ∷ (of_bits binary32 0x42cd8000) ∷ nan ∷ nan ∷ nan ∷ (of_bits binary32 0xff800000) ∷ nan ∷ (of_bits binary32 0x43a96666) ∷ nan ∷ (of_bits binary32 0xff800000) ∷ [])); values_out = (ranges (replicate 8 (of_bits binary32 0)) (replicate 8 (of_bits binary32 0)) (replicate 8 (of_bits binary32 0))); times_out = (ranges (replicate 2 (of_bits binary32 0)) (replicate 1 (of_bits binary32 0)) (replicate 2 (of_bits binary32 0))) }) ∷
    told (record { values_seen = 1; internal_timestamp = 1; ready = false; input_dimensions = 2; shingle_size = 2; dimensions = 4; method = SUBTRACT_MA; mode = STANDARD; start = 2; panel = 1; deviations_out = ((of_bits binary32 0x0) ∷ (of_bits binary32 0x0) ∷ []) }) ∷
    wrote ((of_bits binary32 0x7f800000) ∷ (of_bits binary32 0x60ad78ec) ∷ []) ∷
    done ∷
    learnt (record { written = true; anomaly = none; deviations_out = ((of_bits binary32 0x41a13869) ∷ (of_bits binary32 0x41e75d87) ∷ (of_bits binary32 0x0) ∷ (of_bits binary32 0x0) ∷ []); past_out = ([]); expected_out = ((of_bits binary32 0x0) ∷ []) }) ∷ [])
unfolding trace_all
answers6 = refl

abbrev s7 : Settings
s7 = record { mode = TIME_AUGMENTED; method = NORMALIZE_DIFFERENCE; d = 1; k = 2; start = 2; stop = 2; decay = (of_bits binary64 0x3fefffffffffffff); weight_time = (of_bits binary32 0x800116c2); weights = ((of_bits binary32 0x3f800000) ∷ []); codes = (0 ∷ []) }

abbrev c7 : List Call
c7 = (
    transform ((of_bits binary32 0x42a58000) ∷ []) 82 (replicate 2 (of_bits binary32 0)) ∷
    invert_extrapolation (record { forecast = ranges ((of_bits binary32 0x7f800000) ∷ (of_bits binary32 0xc0c00000) ∷ nan ∷ nan ∷ (of_bits binary32 0xc4ad55fb) ∷ (of_bits binary32 0xf0ba7f67) ∷ (of_bits binary32 0xad877126) ∷ []) ((of_bits binary32 0x7f800000) ∷ (of_bits binary32 0xc0000000) ∷ nan ∷ nan ∷ (of_bits binary32 0xc4ad15fb) ∷ (of_bits binary32 0xf0ba7f67) ∷ (of_bits binary32 0x3f800000) ∷ []) ((of_bits binary32 0x7f800000) ∷ (of_bits binary32 0xc1200000) ∷ nan ∷ nan ∷ (of_bits binary32 0xc4ad75fb) ∷ (of_bits binary32 0xf0ba7f67) ∷ []); values_out = (ranges (replicate 0 (of_bits binary32 0)) (replicate 2 (of_bits binary32 0)) (replicate 2 (of_bits binary32 0))); times_out = (ranges (replicate 1 (of_bits binary32 0)) (replicate 1 (of_bits binary32 0)) (replicate 1 (of_bits binary32 0))) }) ∷
    post_process (record { input = ([]); timestamp = 82; rcf_point = none; expected_point = (some ((of_bits binary32 0xc0c00000) ∷ (of_bits binary32 0x7f800000) ∷ nan ∷ (of_bits binary32 0xfbb90f67) ∷ [])); grade = (of_bits binary32 0x0); relative_index = (pos 2); deviations_out = (replicate 2 (of_bits binary32 0)); past_out = (replicate 3 (of_bits binary32 0)); expected_out = (replicate 0 (of_bits binary32 0)) }) ∷
    shift (replicate 5 (of_bits binary32 0)) ∷
    post_process (record { input = ((of_bits binary32 0x41400000) ∷ []); timestamp = 96; rcf_point = (some ((of_bits binary32 0x420e4000) ∷ (of_bits binary32 0xc1780000) ∷ (of_bits binary32 0xc0e00000) ∷ (of_bits binary32 0xbf800000) ∷ [])); expected_point = (some ((of_bits binary32 0x0) ∷ (of_bits binary32 0x441820a4) ∷ (of_bits binary32 0xbf800000) ∷ (of_bits binary32 0xc0400000) ∷ [])); grade = (of_bits binary32 0x7f800000); relative_index = (negsuc 0); deviations_out = (replicate 2 (of_bits binary32 0)); past_out = (replicate 1 (of_bits binary32 0)); expected_out = (replicate 1 (of_bits binary32 0)) }) ∷
    post_process (record { input = ((of_bits binary32 0x42640000) ∷ []); timestamp = 104; rcf_point = (some ((of_bits binary32 0x4307d000) ∷ (of_bits binary32 0x41100000) ∷ (of_bits binary32 0x4a0d1500) ∷ (of_bits binary32 0x1e3ce508) ∷ [])); expected_point = none; grade = (of_bits binary32 0x0); relative_index = (pos 2147483647); deviations_out = (replicate 0 (of_bits binary32 0)); past_out = (replicate 1 (of_bits binary32 0)); expected_out = (replicate 1 (of_bits binary32 0)) }) ∷
    post_process (record { input = ((of_bits binary32 0x429a8000) ∷ []); timestamp = 112; rcf_point = none; expected_point = (some ((of_bits binary32 0xc0400000) ∷ (of_bits binary32 0x41000000) ∷ (of_bits binary32 0x7f61b1e6) ∷ (of_bits binary32 0x3f800000) ∷ [])); grade = (of_bits binary32 0x0); relative_index = (negsuc 0); deviations_out = (replicate 2 (of_bits binary32 0)); past_out = (replicate 1 (of_bits binary32 0)); expected_out = (replicate 4 (of_bits binary32 0)) }) ∷
    status (replicate 2 (of_bits binary32 0)) ∷
    post_process (record { input = ((of_bits binary32 0x42060000) ∷ []); timestamp = 114; rcf_point = (some ((of_bits binary32 0x42eba000) ∷ (of_bits binary32 0xc0e00000) ∷ (of_bits binary32 0xe43a8225) ∷ (of_bits binary32 0x116c2) ∷ [])); expected_point = none; grade = (of_bits binary32 0x7f800000); relative_index = (pos 0); deviations_out = (replicate 0 (of_bits binary32 0)); past_out = (replicate 0 (of_bits binary32 0)); expected_out = (replicate 1 (of_bits binary32 0)) }) ∷
    post_process (record { input = ((of_bits binary32 0x7f800000) ∷ []); timestamp = 808758014146; rcf_point = (some ((of_bits binary32 0xc2664000) ∷ (of_bits binary32 0xc1200000) ∷ (of_bits binary32 0x42f44000) ∷ (of_bits binary32 0x3f800000) ∷ [])); expected_point = none; grade = (of_bits binary32 0x0); relative_index = (negsuc 0); deviations_out = (replicate 2 (of_bits binary32 0)); past_out = (replicate 1 (of_bits binary32 0)); expected_out = (replicate 0 (of_bits binary32 0)) }) ∷ [])

abbrev t7 : List ℕ
t7 = text (
    "set\tT\t5\t1\t2\t2\t2\t3fefffffffffffff\t800116c2" ∷
    "wgt\t3f800000" ∷
    "chn\t0" ∷
    "cnt\t2\t0\t0" ∷
    "dev\t0000000000000000\t0000000000000000\t0000000000000000" ∷
    "dev\t0000000000000000\t0000000000000000\t0000000000000000" ∷
    "dev\t0000000000000000\t0000000000000000\t0000000000000000" ∷
    "dev\t0000000000000000\t0000000000000000\t0000000000000000" ∷
    "dev\t0000000000000000\t0000000000000000\t0000000000000000" ∷
    "dev\t0000000000000000\t0000000000000000\t0000000000000000" ∷
    "dev\t0000000000000000\t0000000000000000\t0000000000000000" ∷
    "dev\t0000000000000000\t0000000000000000\t0000000000000000" ∷
    "dev\t0000000000000000\t0000000000000000\t0000000000000000" ∷
    "dev\t0000000000000000\t0000000000000000\t0000000000000000" ∷
    "inp\t00000000\t00000000" ∷
    "pnt\t00000000\t00000000\t00000000\t00000000" ∷
    "tim\t0\t0" ∷
    "buf\t96\t41400000" ∷
    "buf\t112\t429a8000" ∷ [])

run7 : render (run (fresh s7) c7) ≡ t7
unfolding trace_all
run7 = refl

history7 : history_text s7 c7 ≡ t7
unfolding trace_all
history7 = refl

answers7 : answers (fresh s7) c7 ≡ (
    wrote ((of_bits binary32 0x42a58000) ∷ (of_bits binary32 0x42a40000) ∷ []) ∷
    refused 16 ∷
    refused 10 ∷
    wrote ((of_bits binary32 0x0) ∷ (of_bits binary32 0x0) ∷ (of_bits binary32 0x0) ∷ (of_bits binary32 0x0) ∷ (of_bits binary32 0x0) ∷ []) ∷
    learnt (record { written = false; anomaly = none; deviations_out = ((of_bits binary32 0x0) ∷ (of_bits binary32 0x0) ∷ []); past_out = ((of_bits binary32 0x0) ∷ []); expected_out = ((of_bits binary32 0x0) ∷ []) }) ∷
    refused 20 ∷
    learnt (record { written = true; anomaly = none; deviations_out = ((of_bits binary32 0x0) ∷ (of_bits binary32 0x80000000) ∷ []); past_out = ((of_bits binary32 0x0) ∷ []); expected_out = ((of_bits binary32 0x0) ∷ (of_bits binary32 0x0) ∷ (of_bits binary32 0x0) ∷ (of_bits binary32 0x0) ∷ []) }) ∷
    told (record { values_seen = 2; internal_timestamp = 0; ready = false; input_dimensions = 1; shingle_size = 2; dimensions = 4; method = NORMALIZE_DIFFERENCE; mode = TIME_AUGMENTED; start = 2; panel = 0; deviations_out = ((of_bits binary32 0x0) ∷ (of_bits binary32 0x80000000) ∷ []) }) ∷
    refused 20 ∷
    refused 11 ∷ [])
unfolding trace_all
answers7 = refl

abbrev s8 : Settings
s8 = record { mode = STANDARD; method = NORMALIZE; d = 2; k = 1; start = 2; stop = 1000; decay = (of_bits binary64 0x3fd612a76af8d114); weight_time = (of_bits binary32 0x3f800000); weights = ((of_bits binary32 0x1) ∷ (of_bits binary32 0x3f800000) ∷ []); codes = (0 ∷ 0 ∷ []) }

abbrev c8 : List Call
c8 = (
    post_process (record { input = ((of_bits binary32 0x42800000) ∷ (of_bits binary32 0x42b38000) ∷ []); timestamp = 303152044603; rcf_point = (some ((of_bits binary32 0x9af036b4) ∷ (of_bits binary32 0xff800000) ∷ [])); expected_point = none; grade = (of_bits binary32 0x0); relative_index = (pos 0); deviations_out = (replicate 2 (of_bits binary32 0)); past_out = (replicate 2 (of_bits binary32 0)); expected_out = (replicate 2 (of_bits binary32 0)) }) ∷
    status (replicate 3 (of_bits binary32 0)) ∷
    post_process (record { input = ((of_bits binary32 0x42510000) ∷ (of_bits binary32 0x42bb0000) ∷ []); timestamp = 303152044622; rcf_point = (some ((of_bits binary32 0x467eb3b1) ∷ (of_bits binary32 0xc0800000) ∷ [])); expected_point = (some ((of_bits binary32 0xe06aafb9) ∷ (of_bits binary32 0x42b66000) ∷ [])); grade = (of_bits binary32 0xbf800000); relative_index = (pos 0); deviations_out = (replicate 2 (of_bits binary32 0)); past_out = (replicate 2 (of_bits binary32 0)); expected_out = (replicate 2 (of_bits binary32 0)) }) ∷
    post_process (record { input = ((of_bits binary32 0x3e800000) ∷ (of_bits binary32 0x423d0000) ∷ []); timestamp = 303152044638; rcf_point = (some ((of_bits binary32 0x40a00000) ∷ (of_bits binary32 0x42634000) ∷ [])); expected_point = (some ((of_bits binary32 0xc0a00000) ∷ (of_bits binary32 0xc0a00000) ∷ [])); grade = (of_bits binary32 0x0); relative_index = (pos 0); deviations_out = (replicate 2 (of_bits binary32 0)); past_out = (replicate 5 (of_bits binary32 0)); expected_out = (replicate 4 (of_bits binary32 0)) }) ∷
    invert_extrapolation (record { forecast = ranges ((of_bits binary32 0x41100000) ∷ (of_bits binary32 0x40800000) ∷ []) ((of_bits binary32 0x41500000) ∷ (of_bits binary32 0x40c00000) ∷ []) ((of_bits binary32 0x40c00000) ∷ (of_bits binary32 0x0) ∷ []); values_out = (ranges (replicate 2 (of_bits binary32 0)) (replicate 2 (of_bits binary32 0)) (replicate 2 (of_bits binary32 0))); times_out = (ranges (replicate 1 (of_bits binary32 0)) (replicate 1 (of_bits binary32 0)) (replicate 1 (of_bits binary32 0))) }) ∷ [])

abbrev t8 : List ℕ
t8 = text (
    "set\tS\t4\t2\t1\t2\t1000\t3fd612a76af8d114\t3f800000" ∷
    "wgt\t00000001\t3f800000" ∷
    "chn\t0\t0" ∷
    "cnt\t3\t1\t1" ∷
    "dev\t3ff0000000000000\t3fd0000000000000\t3fb0000000000000" ∷
    "dev\t3ff0000000000000\t4047a00000000000\t40a1712000000000" ∷
    "dev\t3ff0000000000000\t3fd0000000000000\t3fb0000000000000" ∷
    "dev\t3ff0000000000000\t4047a00000000000\t40a1712000000000" ∷
    "dev\t3ff0000000000000\t0000000000000000\t0000000000000000" ∷
    "dev\t3ff0000000000000\t0000000000000000\t0000000000000000" ∷
    "dev\t3ff0000000000000\t3fd0000000000000\t3fb0000000000000" ∷
    "dev\t3ff0000000000000\t4047a00000000000\t40a1712000000000" ∷
    "dev\t3ff0000000000000\t0000000000000000\t0000000000000000" ∷
    "dev\t3ff0000000000000\t0000000000000000\t0000000000000000" ∷
    "dev\t3ff0000000000000\t4251a55146978000\t44b375f8d3eec0a5" ∷
    "dev\t3ff0000000000000\t4251a55146978000\t44b375f8d3eec0a5" ∷
    "dev\t3ff0000000000000\t0000000000000000\t0000000000000000" ∷
    "dev\t3ff0000000000000\t4251a55146978000\t44b375f8d3eec0a5" ∷
    "dev\t3ff0000000000000\t0000000000000000\t0000000000000000" ∷
    "inp\t3e800000\t423d0000" ∷
    "pnt\t40a00000\t42634000" ∷
    "tim\t303152044638" ∷
    "buf\t303152044603\t42800000\t42b38000" ∷
    "buf\t303152044622\t42510000\t42bb0000" ∷ [])

run8 : render (run (fresh s8) c8) ≡ t8
unfolding trace_all
run8 = refl

history8 : history_text s8 c8 ≡ t8
unfolding trace_all
history8 = refl

answers8 : answers (fresh s8) c8 ≡ (
    learnt (record { written = false; anomaly = none; deviations_out = ((of_bits binary32 0x0) ∷ (of_bits binary32 0x0) ∷ []); past_out = ((of_bits binary32 0x0) ∷ (of_bits binary32 0x0) ∷ []); expected_out = ((of_bits binary32 0x0) ∷ (of_bits binary32 0x0) ∷ []) }) ∷
    told (record { values_seen = 1; internal_timestamp = 0; ready = false; input_dimensions = 2; shingle_size = 1; dimensions = 2; method = NORMALIZE; mode = STANDARD; start = 2; panel = 0; deviations_out = ((of_bits binary32 0x0) ∷ (of_bits binary32 0x0) ∷ (of_bits binary32 0x0) ∷ []) }) ∷
    learnt (record { written = true; anomaly = none; deviations_out = ((of_bits binary32 0x0) ∷ (of_bits binary32 0x0) ∷ []); past_out = ((of_bits binary32 0x0) ∷ (of_bits binary32 0x0) ∷ []); expected_out = ((of_bits binary32 0x0) ∷ (of_bits binary32 0x0) ∷ []) }) ∷
    learnt (record { written = true; anomaly = none; deviations_out = ((of_bits binary32 0x0) ∷ (of_bits binary32 0x0) ∷ []); past_out = ((of_bits binary32 0x0) ∷ (of_bits binary32 0x0) ∷ (of_bits binary32 0x0) ∷ (of_bits binary32 0x0) ∷ (of_bits binary32 0x0) ∷ []); expected_out = ((of_bits binary32 0x0) ∷ (of_bits binary32 0x0) ∷ (of_bits binary32 0x0) ∷ (of_bits binary32 0x0) ∷ []) }) ∷
    turned (record { forecast = (ranges ((of_bits binary32 0x7f800000) ∷ (of_bits binary32 0x424d0000) ∷ []) ((of_bits binary32 0x7f800000) ∷ (of_bits binary32 0x42550000) ∷ []) ((of_bits binary32 0x7f800000) ∷ (of_bits binary32 0x423d0000) ∷ [])); values_out = (ranges (replicate 2 (of_bits binary32 0)) (replicate 2 (of_bits binary32 0)) (replicate 2 (of_bits binary32 0))); times_out = (ranges (replicate 1 (of_bits binary32 0)) (replicate 1 (of_bits binary32 0)) (replicate 1 (of_bits binary32 0))) }) ∷ [])
unfolding trace_all
answers8 = refl

abbrev s9 : Settings
s9 = record { mode = STANDARD; method = NORMALIZE_DIFFERENCE; d = 2; k = 1; start = 1; stop = 1000; decay = (of_bits binary64 0x3feccccccccccccd); weight_time = (of_bits binary32 0x3f800000); weights = ((of_bits binary32 0xf7adf466) ∷ (of_bits binary32 0x4a66610a) ∷ []); codes = (18284 ∷ 0 ∷ []) }

abbrev c9 : List Call
c9 = (
    post_process (record { input = ((of_bits binary32 0x42360000) ∷ (of_bits binary32 0x42b98000) ∷ []); timestamp = 151; rcf_point = none; expected_point = (some ((of_bits binary32 0x0) ∷ (of_bits binary32 0xc1000000) ∷ [])); grade = (of_bits binary32 0x3f800000); relative_index = (pos 2147483647); deviations_out = (replicate 2 (of_bits binary32 0)); past_out = (replicate 2 (of_bits binary32 0)); expected_out = (replicate 2 (of_bits binary32 0)) }) ∷
    post_process (record { input = ((of_bits binary32 0x41aa0000) ∷ (of_bits binary32 0x41900000) ∷ []); timestamp = 167; rcf_point = (some ((of_bits binary32 0xc0400000) ∷ (of_bits binary32 0xc2940000) ∷ [])); expected_point = none; grade = (of_bits binary32 0x0); relative_index = (pos 0); deviations_out = (replicate 4 (of_bits binary32 0)); past_out = (replicate 2 (of_bits binary32 0)); expected_out = (replicate 2 (of_bits binary32 0)) }) ∷
    post_process (record { input = ((of_bits binary32 0x40d00000) ∷ (of_bits binary32 0x42250000) ∷ []); timestamp = 175; rcf_point = (some ((of_bits binary32 0x80000001) ∷ (of_bits binary32 0x3f800000) ∷ [])); expected_point = none; grade = nan; relative_index = (pos 0); deviations_out = (replicate 5 (of_bits binary32 0)); past_out = (replicate 2 (of_bits binary32 0)); expected_out = (replicate 2 (of_bits binary32 0)) }) ∷
    scale (replicate 4 (of_bits binary32 0)) ∷
    post_process (record { input = ((of_bits binary32 0x41f00000) ∷ (of_bits binary32 0x42580000) ∷ []); timestamp = 182; rcf_point = (some ((of_bits binary32 0xf0ad211d) ∷ (of_bits binary32 0x41000000) ∷ [])); expected_point = none; grade = (of_bits binary32 0x7f800000); relative_index = (pos 0); deviations_out = (replicate 2 (of_bits binary32 0)); past_out = (replicate 2 (of_bits binary32 0)); expected_out = (replicate 2 (of_bits binary32 0)) }) ∷
    post_process (record { input = ((of_bits binary32 0x42a90000) ∷ (of_bits binary32 0x425b0000) ∷ []); timestamp = 201; rcf_point = (some ((of_bits binary32 0x40400000) ∷ (of_bits binary32 0xc0e00000) ∷ [])); expected_point = none; grade = (of_bits binary32 0x0); relative_index = (pos 0); deviations_out = (replicate 4 (of_bits binary32 0)); past_out = (replicate 3 (of_bits binary32 0)); expected_out = (replicate 5 (of_bits binary32 0)) }) ∷
    shingled_point ((of_bits binary32 0x41040000) ∷ (of_bits binary32 0x40500000) ∷ []) 208 (replicate 2 (of_bits binary32 0)) ∷ [])

abbrev t9 : List ℕ
t9 = text (
    "set\tS\t5\t2\t1\t1\t1000\t3feccccccccccccd\t3f800000" ∷
    "wgt\tf7adf466\t4a66610a" ∷
    "chn\t18284\t0" ∷
    "cnt\t5\t4\t4" ∷
    "dev\t3ff1c6a7ef9db22d\t4055e5851eb851eb\t40bc3f1fc28f5c29" ∷
    "dev\t3ff1c6a7ef9db22d\t404e4a4dd2f1a9fc\t40a9d50116872b02" ∷
    "dev\t3ff1c6a7ef9db22d\t404c5ca3d70a3d71\t40a7a83451eb851f" ∷
    "dev\t3ff1c6a7ef9db22d\t400234395810624d\t40368c624dd2f1a8" ∷
    "dev\t4006666666666666\t403915450e407adc\t40754e8c1317e988" ∷
    "dev\t4006666666666666\t402343b37cbfaa26\t40487dd7564afaba" ∷
    "dev\t4006666666666666\t40512c9e0207bc18\t40a8e704095afd5a" ∷
    "dev\t4006666666666666\t4040f40472f3d3d3\t4082a06fcd22ea0a" ∷
    "dev\t4006666666666666\t4039dde510073f41\t40716ef7ba49c4ad" ∷
    "dev\t4006666666666666\t401d60213f97da8f\t4038d29ea6c19152" ∷
    "dev\t3ff1c6a7ef9db22d\t406ba3be76c8b439\t40e581f13f7ced91" ∷
    "dev\t3ff1c6a7ef9db22d\t4033f26e978d4fdf\t4078a6dd2f1a9fbe" ∷
    "dev\t4006666666666666\t402295984c97ec98\t4045c9be7df6c59b" ∷
    "dev\t4006666666666666\t405a4354c0bf209e\t40c71f5a00443fa2" ∷
    "dev\t4006666666666666\t40469d97923dbd4f\t4096f3e6e1fefa6d" ∷
    "inp\t42a90000\t425b0000" ∷
    "pnt\t40400000\tc0e00000" ∷
    "tim\t201" ∷
    "buf\t151\t42360000\t42b98000" ∷ [])

run9 : render (run (fresh s9) c9) ≡ t9
unfolding trace_all
run9 = refl

history9 : history_text s9 c9 ≡ t9
unfolding trace_all
history9 = refl

answers9 : answers (fresh s9) c9 ≡ (
    learnt (record { written = true; anomaly = none; deviations_out = ((of_bits binary32 0x0) ∷ (of_bits binary32 0x0) ∷ []); past_out = ((of_bits binary32 0x0) ∷ (of_bits binary32 0x0) ∷ []); expected_out = ((of_bits binary32 0x0) ∷ (of_bits binary32 0x0) ∷ []) }) ∷
    learnt (record { written = true; anomaly = none; deviations_out = ((of_bits binary32 0x0) ∷ (of_bits binary32 0x0) ∷ (of_bits binary32 0x0) ∷ (of_bits binary32 0x0) ∷ []); past_out = ((of_bits binary32 0x0) ∷ (of_bits binary32 0x0) ∷ []); expected_out = ((of_bits binary32 0x0) ∷ (of_bits binary32 0x0) ∷ []) }) ∷
    learnt (record { written = true; anomaly = none; deviations_out = ((of_bits binary32 0x40c6b4be) ∷ (of_bits binary32 0x3f67d2de) ∷ (of_bits binary32 0x0) ∷ (of_bits binary32 0x0) ∷ (of_bits binary32 0x0) ∷ []); past_out = ((of_bits binary32 0x0) ∷ (of_bits binary32 0x0) ∷ []); expected_out = ((of_bits binary32 0x0) ∷ (of_bits binary32 0x0) ∷ []) }) ∷
    wrote ((of_bits binary32 0xf89a21e3) ∷ (of_bits binary32 0x4b9048e6) ∷ (of_bits binary32 0x0) ∷ (of_bits binary32 0x0) ∷ []) ∷
    learnt (record { written = true; anomaly = none; deviations_out = ((of_bits binary32 0x41050abe) ∷ (of_bits binary32 0x3fece4cb) ∷ []); past_out = ((of_bits binary32 0x0) ∷ (of_bits binary32 0x0) ∷ []); expected_out = ((of_bits binary32 0x0) ∷ (of_bits binary32 0x0) ∷ []) }) ∷
    learnt (record { written = true; anomaly = none; deviations_out = ((of_bits binary32 0x4113cf66) ∷ (of_bits binary32 0x4027dc2c) ∷ (of_bits binary32 0x0) ∷ (of_bits binary32 0x0) ∷ []); past_out = ((of_bits binary32 0x0) ∷ (of_bits binary32 0x0) ∷ (of_bits binary32 0x0) ∷ []); expected_out = ((of_bits binary32 0x0) ∷ (of_bits binary32 0x0) ∷ (of_bits binary32 0x0) ∷ (of_bits binary32 0x0) ∷ (of_bits binary32 0x0) ∷ []) }) ∷
    wrote ((of_bits binary32 0xc0f505eb) ∷ (of_bits binary32 0xc1399509) ∷ []) ∷ [])
unfolding trace_all
answers9 = refl

abbrev s10 : Settings
s10 = record { mode = STANDARD; method = DIFFERENCE; d = 1; k = 1; start = 1; stop = 12; decay = (of_bits binary64 0x0); weight_time = (of_bits binary32 0x3f800000); weights = ((of_bits binary32 0xefd3d64) ∷ []); codes = (0 ∷ []) }

abbrev c10 : List Call
c10 = (
    shift (replicate 0 (of_bits binary32 0)) ∷
    drain ∷
    post_process (record { input = ((of_bits binary32 0x41e60000) ∷ []); timestamp = 194; rcf_point = (some ((of_bits binary32 0x60ad78ec) ∷ [])); expected_point = none; grade = (of_bits binary32 0x3f000000); relative_index = (negsuc 0); deviations_out = (replicate 1 (of_bits binary32 0)); past_out = (replicate 1 (of_bits binary32 0)); expected_out = (replicate 1 (of_bits binary32 0)) }) ∷
    post_process (record { input = ((of_bits binary32 0x42338000) ∷ (of_bits binary32 0x421bc000) ∷ []); timestamp = 195; rcf_point = (some ((of_bits binary32 0x80cbdfcd) ∷ [])); expected_point = (some ((of_bits binary32 0x1) ∷ [])); grade = (of_bits binary32 0x3f800000); relative_index = (pos 0); deviations_out = (replicate 1 (of_bits binary32 0)); past_out = (replicate 0 (of_bits binary32 0)); expected_out = (replicate 1 (of_bits binary32 0)) }) ∷
    post_process (record { input = ((of_bits binary32 0x40980000) ∷ []); timestamp = 210; rcf_point = (some ([])); expected_point = none; grade = (of_bits binary32 0x0); relative_index = (pos 0); deviations_out = (replicate 1 (of_bits binary32 0)); past_out = (replicate 1 (of_bits binary32 0)); expected_out = (replicate 4 (of_bits binary32 0)) }) ∷
    shift (replicate 0 (of_bits binary32 0)) ∷
    post_process (record { input = ((of_bits binary32 0x40e80000) ∷ []); timestamp = 230; rcf_point = (some ((of_bits binary32 0xc0b20000) ∷ [])); expected_point = none; grade = (of_bits binary32 0x0); relative_index = (pos 2); deviations_out = (replicate 4 (of_bits binary32 0)); past_out = (replicate 1 (of_bits binary32 0)); expected_out = (replicate 1 (of_bits binary32 0)) }) ∷
    status (replicate 0 (of_bits binary32 0)) ∷
    post_process (record { input = ((of_bits binary32 0x40c80000) ∷ []); timestamp = 250; rcf_point = (some ((of_bits binary32 0x4270c000) ∷ [])); expected_point = none; grade = (of_bits binary32 0x0); relative_index = (pos 0); deviations_out = (replicate 1 (of_bits binary32 0)); past_out = (replicate 0 (of_bits binary32 0)); expected_out = (replicate 1 (of_bits binary32 0)) }) ∷
    invert_extrapolation (record { forecast = ranges ((of_bits binary32 0xc1000000) ∷ []) ((of_bits binary32 0xc1000000) ∷ (of_bits binary32 0x3f800000) ∷ []) ((of_bits binary32 0xc1500000) ∷ []); values_out = (ranges (replicate 1 (of_bits binary32 0)) (replicate 1 (of_bits binary32 0)) (replicate 1 (of_bits binary32 0))); times_out = (ranges (replicate 1 (of_bits binary32 0)) (replicate 1 (of_bits binary32 0)) (replicate 1 (of_bits binary32 0))) }) ∷
    shift (replicate 1 (of_bits binary32 0)) ∷
    transform ((of_bits binary32 0x41100000) ∷ []) 270 (replicate 0 (of_bits binary32 0)) ∷ [])

abbrev t10 : List ℕ
t10 = text (
    "set\tS\t2\t1\t1\t1\t12\t0000000000000000\t3f800000" ∷
    "wgt\t0efd3d64" ∷
    "chn\t0" ∷
    "cnt\t2\t2\t2" ∷
    "dev\t4000000000000000\t402b000000000000\t4056e80000000000" ∷
    "dev\t4000000000000000\t4019000000000000\t404ac80000000000" ∷
    "dev\t4000000000000000\t3fe0000000000000\t3fd0000000000000" ∷
    "dev\t4000000000000000\t4024c00000000000\t404f2a0000000000" ∷
    "dev\t4000000000000000\t4010800000000000\t4031040000000000" ∷
    "dev\t4000000000000000\t407e000000000000\t40fc2c8000000000" ∷
    "dev\t4000000000000000\t406f400000000000\t40ea068000000000" ∷
    "dev\t4000000000000000\t4024000000000000\t4059000000000000" ∷
    "dev\t4000000000000000\t4076300000000000\t40f0bad000000000" ∷
    "dev\t4000000000000000\t405a400000000000\t40c5888000000000" ∷
    "inp\t40c80000" ∷
    "pnt\t4270c000" ∷
    "tim\t250" ∷ [])

run10 : render (run (fresh s10) c10) ≡ t10
unfolding trace_all
run10 = refl

history10 : history_text s10 c10 ≡ t10
unfolding trace_all
history10 = refl

answers10 : answers (fresh s10) c10 ≡ (
    refused 20 ∷
    done ∷
    refused 14 ∷
    refused 10 ∷
    refused 13 ∷
    refused 20 ∷
    learnt (record { written = true; anomaly = none; deviations_out = ((of_bits binary32 0x0) ∷ (of_bits binary32 0x0) ∷ (of_bits binary32 0x0) ∷ (of_bits binary32 0x0) ∷ []); past_out = ((of_bits binary32 0x0) ∷ []); expected_out = ((of_bits binary32 0x0) ∷ []) }) ∷
    refused 20 ∷
    learnt (record { written = true; anomaly = none; deviations_out = ((of_bits binary32 0x40040000) ∷ []); past_out = ([]); expected_out = ((of_bits binary32 0x0) ∷ []) }) ∷
    refused 16 ∷
    wrote ((of_bits binary32 0x0) ∷ []) ∷
    refused 20 ∷ [])
unfolding trace_all
answers10 = refl

abbrev s11 : Settings
s11 = record { mode = TIME_AUGMENTED; method = NORMALIZE_DIFFERENCE; d = 2; k = 1; start = 1; stop = 1; decay = (of_bits binary64 0x3c670ef54646d497); weight_time = (of_bits binary32 0x3f800000); weights = ((of_bits binary32 0xbf800000) ∷ (of_bits binary32 0x3f800000) ∷ []); codes = (65535 ∷ 6 ∷ []) }

abbrev c11 : List Call
c11 = (
    drain ∷
    shingled_point ((of_bits binary32 0x42910000) ∷ (of_bits binary32 0x42650000) ∷ []) 207 (replicate 3 (of_bits binary32 0)) ∷
    post_process (record { input = ((of_bits binary32 0x0) ∷ (of_bits binary32 0x41200000) ∷ (of_bits binary32 0x42a4a000) ∷ []); timestamp = 227; rcf_point = (some ((of_bits binary32 0x44d99fbf) ∷ (of_bits binary32 0x42368000) ∷ (of_bits binary32 0xe9292795) ∷ [])); expected_point = none; grade = (of_bits binary32 0x3f000000); relative_index = (pos 2); deviations_out = (replicate 3 (of_bits binary32 0)); past_out = (replicate 2 (of_bits binary32 0)); expected_out = (replicate 5 (of_bits binary32 0)) }) ∷
    invert_extrapolation (record { forecast = ranges ((of_bits binary32 0xd338e484) ∷ (of_bits binary32 0x41580000) ∷ []) ((of_bits binary32 0xd338e484) ∷ (of_bits binary32 0x41940000) ∷ []) ((of_bits binary32 0xd338e484) ∷ (of_bits binary32 0x41380000) ∷ []); values_out = (ranges (replicate 0 (of_bits binary32 0)) (replicate 0 (of_bits binary32 0)) (replicate 0 (of_bits binary32 0))); times_out = (ranges (replicate 0 (of_bits binary32 0)) (replicate 0 (of_bits binary32 0)) (replicate 0 (of_bits binary32 0))) }) ∷
    drain ∷
    status (replicate 3 (of_bits binary32 0)) ∷
    shingled_point ((of_bits binary32 0x41a40000) ∷ (of_bits binary32 0x42c38000) ∷ []) 232 (replicate 3 (of_bits binary32 0)) ∷
    status (replicate 3 (of_bits binary32 0)) ∷ [])

abbrev t11 : List ℕ
t11 = text (
    "set\tT\t5\t2\t1\t1\t1\t3c670ef54646d497\t3f800000" ∷
    "wgt\tbf800000\t3f800000" ∷
    "chn\t65535\t6" ∷
    "cnt\t0\t0\t0" ∷
    "dev\t0000000000000000\t0000000000000000\t0000000000000000" ∷
    "dev\t0000000000000000\t0000000000000000\t0000000000000000" ∷
    "dev\t0000000000000000\t0000000000000000\t0000000000000000" ∷
    "dev\t0000000000000000\t0000000000000000\t0000000000000000" ∷
    "dev\t0000000000000000\t0000000000000000\t0000000000000000" ∷
    "dev\t0000000000000000\t0000000000000000\t0000000000000000" ∷
    "dev\t0000000000000000\t0000000000000000\t0000000000000000" ∷
    "dev\t0000000000000000\t0000000000000000\t0000000000000000" ∷
    "dev\t0000000000000000\t0000000000000000\t0000000000000000" ∷
    "dev\t0000000000000000\t0000000000000000\t0000000000000000" ∷
    "dev\t0000000000000000\t0000000000000000\t0000000000000000" ∷
    "dev\t0000000000000000\t0000000000000000\t0000000000000000" ∷
    "dev\t0000000000000000\t0000000000000000\t0000000000000000" ∷
    "dev\t0000000000000000\t0000000000000000\t0000000000000000" ∷
    "dev\t0000000000000000\t0000000000000000\t0000000000000000" ∷
    "inp\t00000000\t00000000" ∷
    "pnt\t00000000\t00000000\t00000000" ∷
    "tim\t0" ∷ [])

run11 : render (run (fresh s11) c11) ≡ t11
unfolding trace_all
run11 = refl

history11 : history_text s11 c11 ≡ t11
unfolding trace_all
history11 = refl

answers11 : answers (fresh s11) c11 ≡ (
    done ∷
    absent ∷
    refused 10 ∷
    refused 16 ∷
    done ∷
    told (record { values_seen = 0; internal_timestamp = 0; ready = false; input_dimensions = 2; shingle_size = 1; dimensions = 3; method = NORMALIZE_DIFFERENCE; mode = TIME_AUGMENTED; start = 1; panel = 0; deviations_out = ((of_bits binary32 0x0) ∷ (of_bits binary32 0x0) ∷ (of_bits binary32 0x0) ∷ []) }) ∷
    absent ∷
    told (record { values_seen = 0; internal_timestamp = 0; ready = false; input_dimensions = 2; shingle_size = 1; dimensions = 3; method = NORMALIZE_DIFFERENCE; mode = TIME_AUGMENTED; start = 1; panel = 0; deviations_out = ((of_bits binary32 0x0) ∷ (of_bits binary32 0x0) ∷ (of_bits binary32 0x0) ∷ []) }) ∷ [])
unfolding trace_all
answers11 = refl

abbrev s12 : Settings
s12 = record { mode = TIME_AUGMENTED; method = NORMALIZE_DIFFERENCE; d = 1; k = 3; start = 2; stop = 3; decay = (of_bits binary64 0x3f50624dd2f1a9fc); weight_time = (of_bits binary32 0x89dab83b); weights = ((of_bits binary32 0x3dcccccd) ∷ []); codes = (0 ∷ []) }

abbrev c12 : List Call
c12 = (
    post_process (record { input = ((of_bits binary32 0x42270000) ∷ []); timestamp = 47; rcf_point = none; expected_point = (some ((of_bits binary32 0x3f800000) ∷ (of_bits binary32 0x3dcccccd) ∷ (of_bits binary32 0xc1100000) ∷ (of_bits binary32 0x116c2) ∷ (of_bits binary32 0x40000000) ∷ (of_bits binary32 0xc0a00000) ∷ [])); grade = (of_bits binary32 0x3f800000); relative_index = (negsuc 1); deviations_out = (replicate 1 (of_bits binary32 0)); past_out = (replicate 2 (of_bits binary32 0)); expected_out = (replicate 1 (of_bits binary32 0)) }) ∷
    post_process (record { input = ((of_bits binary32 0x42560000) ∷ []); timestamp = 57; rcf_point = (some ((of_bits binary32 0x1e3ce508) ∷ (of_bits binary32 0x7f61b1e6) ∷ (of_bits binary32 0x461a2327) ∷ (of_bits binary32 0x41100000) ∷ (of_bits binary32 0x80000001) ∷ [])); expected_point = (some ((of_bits binary32 0xc280e000) ∷ (of_bits binary32 0xc1828000) ∷ (of_bits binary32 0x0) ∷ (of_bits binary32 0x3f800000) ∷ (of_bits binary32 0x116c2) ∷ (of_bits binary32 0xff7fffff) ∷ [])); grade = (of_bits binary32 0x0); relative_index = (pos 0); deviations_out = (replicate 0 (of_bits binary32 0)); past_out = (replicate 1 (of_bits binary32 0)); expected_out = (replicate 1 (of_bits binary32 0)) }) ∷
    invert_extrapolation (record { forecast = ranges ((of_bits binary32 0x40a00000) ∷ (of_bits binary32 0xc0c00000) ∷ (of_bits binary32 0x116c2) ∷ (of_bits binary32 0x7f61b1e6) ∷ (of_bits binary32 0x3dcccccd) ∷ (of_bits binary32 0x459c8238) ∷ []) ((of_bits binary32 0xff800000) ∷ (of_bits binary32 0x4620d021) ∷ (of_bits binary32 0xc2a9a000) ∷ (of_bits binary32 0x40400000) ∷ (of_bits binary32 0x40400000) ∷ (of_bits binary32 0xff61b1e6) ∷ []) ((of_bits binary32 0x42dbc000) ∷ (of_bits binary32 0xc2004000) ∷ (of_bits binary32 0x80000000) ∷ (of_bits binary32 0x7f800000) ∷ (of_bits binary32 0x45ee5b7e) ∷ (of_bits binary32 0x3dcccccd) ∷ []); values_out = (ranges (replicate 3 (of_bits binary32 0)) (replicate 3 (of_bits binary32 0)) (replicate 3 (of_bits binary32 0))); times_out = (ranges (replicate 0 (of_bits binary32 0)) (replicate 1 (of_bits binary32 0)) (replicate 1 (of_bits binary32 0))) }) ∷
    post_process (record { input = ((of_bits binary32 0x42030000) ∷ []); timestamp = 57; rcf_point = (some ((of_bits binary32 0x80000000) ∷ (of_bits binary32 0x80000001) ∷ (of_bits binary32 0x40a00000) ∷ (of_bits binary32 0x46282e84) ∷ (of_bits binary32 0xbf800000) ∷ (of_bits binary32 0xc2974000) ∷ [])); expected_point = (some ((of_bits binary32 0xc1000000) ∷ (of_bits binary32 0x800000) ∷ (of_bits binary32 0xc1000000) ∷ (of_bits binary32 0x3f800000) ∷ (of_bits binary32 0x429d2000) ∷ [])); grade = (of_bits binary32 0x0); relative_index = (negsuc 2147483647); deviations_out = (replicate 4 (of_bits binary32 0)); past_out = (replicate 0 (of_bits binary32 0)); expected_out = (replicate 0 (of_bits binary32 0)) }) ∷
    post_process (record { input = ((of_bits binary32 0x7f800000) ∷ []); timestamp = 60; rcf_point = (some ((of_bits binary32 0x467a282b) ∷ (of_bits binary32 0xc0400000) ∷ (of_bits binary32 0x116c2) ∷ (of_bits binary32 0x42564000) ∷ (of_bits binary32 0x46360eff) ∷ (of_bits binary32 0x40800000) ∷ [])); expected_point = none; grade = (of_bits binary32 0xbf800000); relative_index = (pos 2147483647); deviations_out = (replicate 2 (of_bits binary32 0)); past_out = (replicate 0 (of_bits binary32 0)); expected_out = (replicate 0 (of_bits binary32 0)) }) ∷
    post_process (record { input = ((of_bits binary32 0x80000001) ∷ (of_bits binary32 0x3f800000) ∷ []); timestamp = 60; rcf_point = (some ((of_bits binary32 0x42a86000) ∷ (of_bits binary32 0x41580000) ∷ (of_bits binary32 0x1e3ce508) ∷ (of_bits binary32 0x42f04000) ∷ (of_bits binary32 0xc0c00000) ∷ (of_bits binary32 0x4671abff) ∷ [])); expected_point = (some ((of_bits binary32 0xfa8521c) ∷ (of_bits binary32 0x60ad78ec) ∷ (of_bits binary32 0xc1100000) ∷ (of_bits binary32 0xd6baaf8a) ∷ (of_bits binary32 0x42ea4000) ∷ (of_bits binary32 0x43056000) ∷ [])); grade = (of_bits binary32 0x80000000); relative_index = (pos 0); deviations_out = (replicate 2 (of_bits binary32 0)); past_out = (replicate 1 (of_bits binary32 0)); expected_out = (replicate 4 (of_bits binary32 0)) }) ∷
    shift (replicate 5 (of_bits binary32 0)) ∷
    shift (replicate 2 (of_bits binary32 0)) ∷
    status (replicate 3 (of_bits binary32 0)) ∷
    post_process (record { input = ((of_bits binary32 0x420b0000) ∷ []); timestamp = 63; rcf_point = (some ((of_bits binary32 0xc20c4000) ∷ (of_bits binary32 0x45f0b834) ∷ (of_bits binary32 0x41000000) ∷ (of_bits binary32 0x40e00000) ∷ (of_bits binary32 0xbf800000) ∷ [])); expected_point = (some ((of_bits binary32 0x45484657) ∷ (of_bits binary32 0x4577f3f0) ∷ (of_bits binary32 0xbf800000) ∷ (of_bits binary32 0x40400000) ∷ (of_bits binary32 0x7c713dc5) ∷ (of_bits binary32 0x7f61b1e6) ∷ [])); grade = (of_bits binary32 0x7f800000); relative_index = (negsuc 2147483647); deviations_out = (replicate 4 (of_bits binary32 0)); past_out = (replicate 1 (of_bits binary32 0)); expected_out = (replicate 0 (of_bits binary32 0)) }) ∷
    post_process (record { input = ((of_bits binary32 0x42920000) ∷ []); timestamp = 45882082369; rcf_point = (some ((of_bits binary32 0x41000000) ∷ (of_bits binary32 0x42820000) ∷ (of_bits binary32 0xc27a8000) ∷ (of_bits binary32 0xff61b1e6) ∷ (of_bits binary32 0x3f800000) ∷ [])); expected_point = none; grade = (of_bits binary32 0x0); relative_index = (pos 0); deviations_out = (replicate 2 (of_bits binary32 0)); past_out = (replicate 1 (of_bits binary32 0)); expected_out = (replicate 0 (of_bits binary32 0)) }) ∷ [])

abbrev t12 : List ℕ
t12 = text (
    "set\tT\t5\t1\t3\t2\t3\t3f50624dd2f1a9fc\t89dab83b" ∷
    "wgt\t3dcccccd" ∷
    "chn\t0" ∷
    "cnt\t2\t0\t0" ∷
    "dev\t0000000000000000\t0000000000000000\t0000000000000000" ∷
    "dev\t0000000000000000\t0000000000000000\t0000000000000000" ∷
    "dev\t0000000000000000\t0000000000000000\t0000000000000000" ∷
    "dev\t0000000000000000\t0000000000000000\t0000000000000000" ∷
    "dev\t0000000000000000\t0000000000000000\t0000000000000000" ∷
    "dev\t0000000000000000\t0000000000000000\t0000000000000000" ∷
    "dev\t0000000000000000\t0000000000000000\t0000000000000000" ∷
    "dev\t0000000000000000\t0000000000000000\t0000000000000000" ∷
    "dev\t0000000000000000\t0000000000000000\t0000000000000000" ∷
    "dev\t0000000000000000\t0000000000000000\t0000000000000000" ∷
    "inp\t00000000\t00000000\t00000000" ∷
    "pnt\t00000000\t00000000\t00000000\t00000000\t00000000\t00000000" ∷
    "tim\t0\t0\t0" ∷
    "buf\t47\t42270000" ∷
    "buf\t57\t42030000" ∷ [])

run12 : render (run (fresh s12) c12) ≡ t12
unfolding trace_all
run12 = refl

history12 : history_text s12 c12 ≡ t12
unfolding trace_all
history12 = refl

answers12 : answers (fresh s12) c12 ≡ (
    learnt (record { written = false; anomaly = none; deviations_out = ((of_bits binary32 0x0) ∷ []); past_out = ((of_bits binary32 0x0) ∷ (of_bits binary32 0x0) ∷ []); expected_out = ((of_bits binary32 0x0) ∷ []) }) ∷
    refused 20 ∷
    refused 20 ∷
    learnt (record { written = true; anomaly = none; deviations_out = ((of_bits binary32 0x0) ∷ (of_bits binary32 0x80000000) ∷ (of_bits binary32 0x0) ∷ (of_bits binary32 0x0) ∷ []); past_out = ([]); expected_out = ([]) }) ∷
    refused 11 ∷
    refused 10 ∷
    wrote ((of_bits binary32 0x0) ∷ (of_bits binary32 0x0) ∷ (of_bits binary32 0x0) ∷ (of_bits binary32 0x0) ∷ (of_bits binary32 0x0) ∷ []) ∷
    wrote ((of_bits binary32 0x0) ∷ (of_bits binary32 0x0) ∷ []) ∷
    told (record { values_seen = 2; internal_timestamp = 0; ready = false; input_dimensions = 1; shingle_size = 3; dimensions = 6; method = NORMALIZE_DIFFERENCE; mode = TIME_AUGMENTED; start = 2; panel = 0; deviations_out = ((of_bits binary32 0x0) ∷ (of_bits binary32 0x80000000) ∷ (of_bits binary32 0x0) ∷ []) }) ∷
    refused 13 ∷
    refused 13 ∷ [])
unfolding trace_all
answers12 = refl

abbrev s13 : Settings
s13 = record { mode = STANDARD; method = NORMALIZE_DIFFERENCE; d = 2; k = 2; start = 1; stop = 1; decay = (of_bits binary64 0x3fefae147ae147ae); weight_time = (of_bits binary32 0x3f800000); weights = ((of_bits binary32 0xc0000000) ∷ (of_bits binary32 0x40400000) ∷ []); codes = (255 ∷ 65535 ∷ []) }

abbrev c13 : List Call
c13 = ([])

abbrev t13 : List ℕ
t13 = text (
    "set\tS\t5\t2\t2\t1\t1\t3fefae147ae147ae\t3f800000" ∷
    "wgt\tc0000000\t40400000" ∷
    "chn\t255\t65535" ∷
    "cnt\t0\t0\t0" ∷
    "dev\t0000000000000000\t0000000000000000\t0000000000000000" ∷
    "dev\t0000000000000000\t0000000000000000\t0000000000000000" ∷
    "dev\t0000000000000000\t0000000000000000\t0000000000000000" ∷
    "dev\t0000000000000000\t0000000000000000\t0000000000000000" ∷
    "dev\t0000000000000000\t0000000000000000\t0000000000000000" ∷
    "dev\t0000000000000000\t0000000000000000\t0000000000000000" ∷
    "dev\t0000000000000000\t0000000000000000\t0000000000000000" ∷
    "dev\t0000000000000000\t0000000000000000\t0000000000000000" ∷
    "dev\t0000000000000000\t0000000000000000\t0000000000000000" ∷
    "dev\t0000000000000000\t0000000000000000\t0000000000000000" ∷
    "dev\t0000000000000000\t0000000000000000\t0000000000000000" ∷
    "dev\t0000000000000000\t0000000000000000\t0000000000000000" ∷
    "dev\t0000000000000000\t0000000000000000\t0000000000000000" ∷
    "dev\t0000000000000000\t0000000000000000\t0000000000000000" ∷
    "dev\t0000000000000000\t0000000000000000\t0000000000000000" ∷
    "inp\t00000000\t00000000\t00000000\t00000000" ∷
    "pnt\t00000000\t00000000\t00000000\t00000000" ∷
    "tim\t0\t0" ∷ [])

run13 : render (run (fresh s13) c13) ≡ t13
unfolding trace_all
run13 = refl

history13 : history_text s13 c13 ≡ t13
unfolding trace_all
history13 = refl

answers13 : answers (fresh s13) c13 ≡ ([])
unfolding trace_all
answers13 = refl

abbrev s14 : Settings
s14 = record { mode = TIME_AUGMENTED; method = NORMALIZE; d = 2; k = 3; start = 0; stop = 9; decay = (of_bits binary64 0x1a56e1fc2f8f359); weight_time = (of_bits binary32 0x3dcccccd); weights = ((of_bits binary32 0x40400000) ∷ (of_bits binary32 0x0) ∷ []); codes = (0 ∷ 65535 ∷ []) }

abbrev c14 : List Call
c14 = (
    shift (replicate 3 (of_bits binary32 0)) ∷
    post_process (record { input = ([]); timestamp = 190; rcf_point = (some ((of_bits binary32 0x7f61b1e6) ∷ (of_bits binary32 0x42390000) ∷ (of_bits binary32 0xc21f8000) ∷ (of_bits binary32 0x3fb80000) ∷ (of_bits binary32 0x40400000) ∷ (of_bits binary32 0x800000) ∷ (of_bits binary32 0x45bb3332) ∷ (of_bits binary32 0x40800000) ∷ (of_bits binary32 0x40000000) ∷ [])); expected_point = none; grade = (of_bits binary32 0x3f800000); relative_index = (negsuc 0); deviations_out = (replicate 2 (of_bits binary32 0)); past_out = (replicate 2 (of_bits binary32 0)); expected_out = (replicate 2 (of_bits binary32 0)) }) ∷
    invert_extrapolation (record { forecast = ranges ((of_bits binary32 0xb89b621c) ∷ nan ∷ (of_bits binary32 0x80000001) ∷ (of_bits binary32 0x3f500000) ∷ (of_bits binary32 0x7f61b1e6) ∷ (of_bits binary32 0xc0a00000) ∷ (of_bits binary32 0xc2c78000) ∷ (of_bits binary32 0x42ba0000) ∷ []) ((of_bits binary32 0x4677e9b5) ∷ (of_bits binary32 0x45dae690) ∷ (of_bits binary32 0x42c5a000) ∷ (of_bits binary32 0xc1100000) ∷ (of_bits binary32 0x40c00000) ∷ (of_bits binary32 0xc2b68000) ∷ (of_bits binary32 0x42c4a000) ∷ (of_bits binary32 0xff7fffff) ∷ []) ((of_bits binary32 0x80000001) ∷ (of_bits binary32 0x6ad32bd7) ∷ (of_bits binary32 0xc29b4000) ∷ (of_bits binary32 0xbfe80000) ∷ (of_bits binary32 0x41100000) ∷ (of_bits binary32 0xc1720000) ∷ (of_bits binary32 0x60ad78ec) ∷ (of_bits binary32 0x7f7fffff) ∷ []); values_out = (ranges (replicate 0 (of_bits binary32 0)) (replicate 0 (of_bits binary32 0)) (replicate 0 (of_bits binary32 0))); times_out = (ranges (replicate 0 (of_bits binary32 0)) (replicate 0 (of_bits binary32 0)) (replicate 0 (of_bits binary32 0))) }) ∷
    post_process (record { input = ((of_bits binary32 0x42c38000) ∷ (of_bits binary32 0x40400000) ∷ []); timestamp = 526285218751; rcf_point = none; expected_point = (some ((of_bits binary32 0x3f800000) ∷ (of_bits binary32 0xc1000000) ∷ (of_bits binary32 0x44ae8fc7) ∷ (of_bits binary32 0xc0e00000) ∷ (of_bits binary32 0xc1100000) ∷ (of_bits binary32 0x42a06000) ∷ (of_bits binary32 0xc1820000) ∷ (of_bits binary32 0x468191e2) ∷ (of_bits binary32 0xbf800000) ∷ [])); grade = (of_bits binary32 0xbf800000); relative_index = (negsuc 2); deviations_out = (replicate 3 (of_bits binary32 0)); past_out = (replicate 2 (of_bits binary32 0)); expected_out = (replicate 0 (of_bits binary32 0)) }) ∷
    post_process (record { input = ((of_bits binary32 0x429f8000) ∷ (of_bits binary32 0x42360000) ∷ []); timestamp = 526285218770; rcf_point = (some ((of_bits binary32 0xbf800000) ∷ (of_bits binary32 0xc1865e05) ∷ (of_bits binary32 0x464ac88d) ∷ (of_bits binary32 0x40c00000) ∷ (of_bits binary32 0xc0800000) ∷ (of_bits binary32 0xc1200000) ∷ (of_bits binary32 0x4628b95c) ∷ (of_bits binary32 0xc1c20000) ∷ (of_bits binary32 0x40a00000) ∷ [])); expected_point = (some ((of_bits binary32 0x45c51cf4) ∷ (of_bits binary32 0xc2886000) ∷ (of_bits binary32 0x5d25e9ba) ∷ (of_bits binary32 0x7f7fffff) ∷ (of_bits binary32 0xff61b1e6) ∷ (of_bits binary32 0x42cfc000) ∷ (of_bits binary32 0xb902b401) ∷ (of_bits binary32 0x80000000) ∷ [])); grade = (of_bits binary32 0x3f000000); relative_index = (pos 0); deviations_out = (replicate 2 (of_bits binary32 0)); past_out = (replicate 2 (of_bits binary32 0)); expected_out = (replicate 4 (of_bits binary32 0)) }) ∷
    post_process (record { input = ((of_bits binary32 0x42866000) ∷ (of_bits binary32 0xc283e000) ∷ (of_bits binary32 0x40400000) ∷ []); timestamp = 526285218771; rcf_point = (some ((of_bits binary32 0x40c00000) ∷ (of_bits binary32 0xc1be8000) ∷ (of_bits binary32 0x430ad000) ∷ (of_bits binary32 0xeacd156e) ∷ (of_bits binary32 0x1) ∷ (of_bits binary32 0xc2862000) ∷ (of_bits binary32 0x41150000) ∷ (of_bits binary32 0x46276514) ∷ [])); expected_point = none; grade = (of_bits binary32 0x3f800000); relative_index = (pos 0); deviations_out = (replicate 6 (of_bits binary32 0)); past_out = (replicate 2 (of_bits binary32 0)); expected_out = (replicate 2 (of_bits binary32 0)) }) ∷ [])

abbrev t14 : List ℕ
t14 = text (
    "set\tT\t4\t2\t3\t0\t9\t01a56e1fc2f8f359\t3dcccccd" ∷
    "wgt\t40400000\t00000000" ∷
    "chn\t0\t65535" ∷
    "cnt\t0\t0\t0" ∷
    "dev\t0000000000000000\t0000000000000000\t0000000000000000" ∷
    "dev\t0000000000000000\t0000000000000000\t0000000000000000" ∷
    "dev\t0000000000000000\t0000000000000000\t0000000000000000" ∷
    "dev\t0000000000000000\t0000000000000000\t0000000000000000" ∷
    "dev\t0000000000000000\t0000000000000000\t0000000000000000" ∷
    "dev\t0000000000000000\t0000000000000000\t0000000000000000" ∷
    "dev\t0000000000000000\t0000000000000000\t0000000000000000" ∷
    "dev\t0000000000000000\t0000000000000000\t0000000000000000" ∷
    "dev\t0000000000000000\t0000000000000000\t0000000000000000" ∷
    "dev\t0000000000000000\t0000000000000000\t0000000000000000" ∷
    "dev\t0000000000000000\t0000000000000000\t0000000000000000" ∷
    "dev\t0000000000000000\t0000000000000000\t0000000000000000" ∷
    "dev\t0000000000000000\t0000000000000000\t0000000000000000" ∷
    "dev\t0000000000000000\t0000000000000000\t0000000000000000" ∷
    "dev\t0000000000000000\t0000000000000000\t0000000000000000" ∷
    "inp\t00000000\t00000000\t00000000\t00000000\t00000000\t00000000" ∷
    "pnt\t00000000\t00000000\t00000000\t00000000\t00000000\t00000000\t00000000\t00000000\t00000000" ∷
    "tim\t0\t0\t0" ∷ [])

run14 : render (run (fresh s14) c14) ≡ t14
unfolding trace_all
run14 = refl

history14 : history_text s14 c14 ≡ t14
unfolding trace_all
history14 = refl

answers14 : answers (fresh s14) c14 ≡ (
    wrote ((of_bits binary32 0x0) ∷ (of_bits binary32 0x0) ∷ (of_bits binary32 0x0) ∷ []) ∷
    refused 10 ∷
    refused 16 ∷
    learnt (record { written = false; anomaly = none; deviations_out = ((of_bits binary32 0x0) ∷ (of_bits binary32 0x0) ∷ (of_bits binary32 0x0) ∷ []); past_out = ((of_bits binary32 0x0) ∷ (of_bits binary32 0x0) ∷ []); expected_out = ([]) }) ∷
    refused 13 ∷
    refused 10 ∷ [])
unfolding trace_all
answers14 = refl

abbrev s15 : Settings
s15 = record { mode = STANDARD; method = WEIGHTED; d = 1; k = 2; start = 2; stop = 13; decay = (of_bits binary64 0x1); weight_time = (of_bits binary32 0x0); weights = ((of_bits binary32 0x3f000000) ∷ []); codes = (0 ∷ []) }

abbrev c15 : List Call
c15 = ([])

abbrev t15 : List ℕ
t15 = text (
    "set\tS\t1\t1\t2\t2\t13\t0000000000000001\t00000000" ∷
    "wgt\t3f000000" ∷
    "chn\t0" ∷
    "cnt\t0\t0\t0" ∷
    "dev\t0000000000000000\t0000000000000000\t0000000000000000" ∷
    "dev\t0000000000000000\t0000000000000000\t0000000000000000" ∷
    "dev\t0000000000000000\t0000000000000000\t0000000000000000" ∷
    "dev\t0000000000000000\t0000000000000000\t0000000000000000" ∷
    "dev\t0000000000000000\t0000000000000000\t0000000000000000" ∷
    "dev\t0000000000000000\t0000000000000000\t0000000000000000" ∷
    "dev\t0000000000000000\t0000000000000000\t0000000000000000" ∷
    "dev\t0000000000000000\t0000000000000000\t0000000000000000" ∷
    "dev\t0000000000000000\t0000000000000000\t0000000000000000" ∷
    "dev\t0000000000000000\t0000000000000000\t0000000000000000" ∷
    "inp\t00000000\t00000000" ∷
    "pnt\t00000000\t00000000" ∷
    "tim\t0\t0" ∷ [])

run15 : render (run (fresh s15) c15) ≡ t15
unfolding trace_all
run15 = refl

history15 : history_text s15 c15 ≡ t15
unfolding trace_all
history15 = refl

answers15 : answers (fresh s15) c15 ≡ ([])
unfolding trace_all
answers15 = refl

abbrev s16 : Settings
s16 = record { mode = TIME_AUGMENTED; method = NORMALIZE_DIFFERENCE; d = 2; k = 3; start = 2; stop = 9; decay = (of_bits binary64 0x3fefae147ae147ae); weight_time = (of_bits binary32 0xc0000000); weights = ((of_bits binary32 0x0) ∷ (of_bits binary32 0x3dcccccd) ∷ []); codes = (36275 ∷ 5 ∷ []) }

abbrev c16 : List Call
c16 = (
    transform ((of_bits binary32 0x42560000) ∷ (of_bits binary32 0x41a60000) ∷ []) 156 (replicate 0 (of_bits binary32 0)) ∷
    shift (replicate 3 (of_bits binary32 0)) ∷
    post_process (record { input = ((of_bits binary32 0x421a0000) ∷ (of_bits binary32 0x42030000) ∷ []); timestamp = 147; rcf_point = (some ((of_bits binary32 0x40000000) ∷ (of_bits binary32 0xc1200000) ∷ (of_bits binary32 0x1) ∷ (of_bits binary32 0xc2850000) ∷ (of_bits binary32 0x4a070b) ∷ (of_bits binary32 0x41100000) ∷ (of_bits binary32 0x41200000) ∷ (of_bits binary32 0xc2734000) ∷ (of_bits binary32 0x3f800000) ∷ [])); expected_point = none; grade = (of_bits binary32 0x3f800000); relative_index = (negsuc 2147483647); deviations_out = (replicate 5 (of_bits binary32 0)); past_out = (replicate 2 (of_bits binary32 0)); expected_out = (replicate 3 (of_bits binary32 0)) }) ∷
    status (replicate 3 (of_bits binary32 0)) ∷
    post_process (record { input = ((of_bits binary32 0x411c0000) ∷ (of_bits binary32 0x42a00000) ∷ []); timestamp = 164; rcf_point = (some ((of_bits binary32 0x9dcd4d0c) ∷ (of_bits binary32 0x486f1ee9) ∷ (of_bits binary32 0x40800000) ∷ (of_bits binary32 0xbf800000) ∷ (of_bits binary32 0x41920000) ∷ (of_bits binary32 0x331db745) ∷ (of_bits binary32 0x3dcccccd) ∷ (of_bits binary32 0xbf800000) ∷ (of_bits binary32 0xe7d3374f) ∷ [])); expected_point = (some ((of_bits binary32 0x41100000) ∷ (of_bits binary32 0x1) ∷ (of_bits binary32 0x41000000) ∷ (of_bits binary32 0x4266c000) ∷ (of_bits binary32 0x40c00000) ∷ (of_bits binary32 0xc1100000) ∷ (of_bits binary32 0x430c4000) ∷ (of_bits binary32 0x424d8000) ∷ (of_bits binary32 0x3dcccccd) ∷ [])); grade = (of_bits binary32 0x3f000000); relative_index = (pos 2147483647); deviations_out = (replicate 3 (of_bits binary32 0)); past_out = (replicate 2 (of_bits binary32 0)); expected_out = (replicate 0 (of_bits binary32 0)) }) ∷
    post_process (record { input = ((of_bits binary32 0x42b38000) ∷ (of_bits binary32 0x42700000) ∷ []); timestamp = 167; rcf_point = (some ((of_bits binary32 0x1) ∷ (of_bits binary32 0xc2944000) ∷ (of_bits binary32 0xc0400000) ∷ (of_bits binary32 0xc0800000) ∷ (of_bits binary32 0x456dbc5f) ∷ (of_bits binary32 0x455665f8) ∷ (of_bits binary32 0x40800000) ∷ (of_bits binary32 0xc2af0000) ∷ (of_bits binary32 0x457e8cb9) ∷ [])); expected_point = (some ((of_bits binary32 0x40000000) ∷ (of_bits binary32 0x0) ∷ (of_bits binary32 0xc0400000) ∷ (of_bits binary32 0x43027000) ∷ (of_bits binary32 0x1e3ce508) ∷ (of_bits binary32 0xc278c000) ∷ (of_bits binary32 0x4653c20b) ∷ (of_bits binary32 0x41200000) ∷ (of_bits binary32 0x80000001) ∷ [])); grade = nan; relative_index = (pos 0); deviations_out = (replicate 3 (of_bits binary32 0)); past_out = (replicate 2 (of_bits binary32 0)); expected_out = (replicate 2 (of_bits binary32 0)) }) ∷
    scale (replicate 3 (of_bits binary32 0)) ∷
    post_process (record { input = ((of_bits binary32 0x424c0000) ∷ (of_bits binary32 0x41aa0000) ∷ []); timestamp = 167; rcf_point = (some ((of_bits binary32 0x3e400000) ∷ (of_bits binary32 0xc1000000) ∷ (of_bits binary32 0x40e00000) ∷ (of_bits binary32 0x4305d000) ∷ (of_bits binary32 0xc1200000) ∷ (of_bits binary32 0xc0680000) ∷ (of_bits binary32 0x7f7fffff) ∷ (of_bits binary32 0x116c2) ∷ (of_bits binary32 0x462bd205) ∷ [])); expected_point = none; grade = (of_bits binary32 0x7f800000); relative_index = (negsuc 1); deviations_out = (replicate 3 (of_bits binary32 0)); past_out = (replicate 2 (of_bits binary32 0)); expected_out = (replicate 0 (of_bits binary32 0)) }) ∷
    post_process (record { input = ((of_bits binary32 0x42980000) ∷ (of_bits binary32 0x40d00000) ∷ []); timestamp = 174; rcf_point = (some ((of_bits binary32 0x40e00000) ∷ (of_bits binary32 0x41d08000) ∷ (of_bits binary32 0x4307f000) ∷ (of_bits binary32 0x40400000) ∷ (of_bits binary32 0x0) ∷ (of_bits binary32 0xc23c8000) ∷ (of_bits binary32 0xc2820000) ∷ (of_bits binary32 0xc0800000) ∷ (of_bits binary32 0x41200000) ∷ [])); expected_point = none; grade = (of_bits binary32 0xbf800000); relative_index = (pos 0); deviations_out = (replicate 3 (of_bits binary32 0)); past_out = (replicate 0 (of_bits binary32 0)); expected_out = (replicate 2 (of_bits binary32 0)) }) ∷ [])

abbrev t16 : List ℕ
t16 = text (
    "set\tT\t5\t2\t3\t2\t9\t3fefae147ae147ae\tc0000000" ∷
    "wgt\t00000000\t3dcccccd" ∷
    "chn\t36275\t5" ∷
    "cnt\t5\t3\t3" ∷
    "dev\t3ff0295e9e1b089a\t40532136e2eb1c43\t40b6aad0c504816f" ∷
    "dev\t3ff0295e9e1b089a\t401adfbe76c8b43a\t404790147ae147af" ∷
    "dev\t3ff0295e9e1b089a\t40389f18fc504817\t40840691ad42c3ca" ∷
    "dev\t3ff0295e9e1b089a\tc02e4353f7ced917\t406d1e051eb851ec" ∷
    "dev\t4002000000000000\t40156d1250bfb1ed\t40312f7a22aa3cc0" ∷
    "dev\t4002000000000000\t4011b9a3b2d5e0c3\t402ae886e2b4bb67" ∷
    "dev\t4002000000000000\t4044922ccfced66e\t40b62b1edaf83558" ∷
    "dev\t4002000000000000\tc02a9e6ab65fc50d\t40a82cee1fd72276" ∷
    "dev\t4002000000000000\t402fc62f8b145440\t40643524e6d547f2" ∷
    "dev\t4002000000000000\t4023a597378b4d94\t4053797c6d180d97" ∷
    "dev\t3ff0295e9e1b089a\t4065f5f972474539\t40ddd76b7318fc50" ∷
    "dev\t3ff0295e9e1b089a\t401c1119ce075f70\t4049e4faacd9e83f" ∷
    "dev\t4002000000000000\t3fe649605a18f4c6\t3fdf0b19793f0001" ∷
    "dev\t4002000000000000\t4056ebf1e48584b3\t40cb5567063dc2f5" ∷
    "dev\t4002000000000000\t402c4692de6811f1\t406a0201cb2f6183" ∷
    "inp\t42b38000\t42700000\t424c0000\t41aa0000\t42980000\t40d00000" ∷
    "pnt\t40e00000\t41d08000\t4307f000\t40400000\t00000000\tc23c8000\tc2820000\tc0800000\t41200000" ∷
    "tim\t167\t167\t174" ∷
    "buf\t147\t421a0000\t42030000" ∷
    "buf\t164\t411c0000\t42a00000" ∷ [])

run16 : render (run (fresh s16) c16) ≡ t16
unfolding trace_all
run16 = refl

history16 : history_text s16 c16 ≡ t16
unfolding trace_all
history16 = refl

answers16 : answers (fresh s16) c16 ≡ (
    refused 20 ∷
    wrote ((of_bits binary32 0x0) ∷ (of_bits binary32 0x0) ∷ (of_bits binary32 0x0) ∷ []) ∷
    learnt (record { written = false; anomaly = none; deviations_out = ((of_bits binary32 0x0) ∷ (of_bits binary32 0x0) ∷ (of_bits binary32 0x0) ∷ (of_bits binary32 0x0) ∷ (of_bits binary32 0x0) ∷ []); past_out = ((of_bits binary32 0x0) ∷ (of_bits binary32 0x0) ∷ []); expected_out = ((of_bits binary32 0x0) ∷ (of_bits binary32 0x0) ∷ (of_bits binary32 0x0) ∷ []) }) ∷
    told (record { values_seen = 1; internal_timestamp = 0; ready = false; input_dimensions = 2; shingle_size = 3; dimensions = 9; method = NORMALIZE_DIFFERENCE; mode = TIME_AUGMENTED; start = 2; panel = 0; deviations_out = ((of_bits binary32 0x0) ∷ (of_bits binary32 0x0) ∷ (of_bits binary32 0x80000000) ∷ []) }) ∷
    learnt (record { written = true; anomaly = none; deviations_out = ((of_bits binary32 0x0) ∷ (of_bits binary32 0x0) ∷ (of_bits binary32 0x80000000) ∷ []); past_out = ((of_bits binary32 0x0) ∷ (of_bits binary32 0x0) ∷ []); expected_out = ([]) }) ∷
    learnt (record { written = true; anomaly = none; deviations_out = ((of_bits binary32 0x0) ∷ (of_bits binary32 0x0) ∷ (of_bits binary32 0x80000000) ∷ []); past_out = ((of_bits binary32 0x0) ∷ (of_bits binary32 0x0) ∷ []); expected_out = ((of_bits binary32 0x0) ∷ (of_bits binary32 0x0) ∷ []) }) ∷
    wrote ((of_bits binary32 0x0) ∷ (of_bits binary32 0x3dcccccd) ∷ (of_bits binary32 0xbf000000) ∷ []) ∷
    learnt (record { written = true; anomaly = none; deviations_out = ((of_bits binary32 0x40f446f8) ∷ (of_bits binary32 0x40bbb908) ∷ (of_bits binary32 0xc20446f8) ∷ []); past_out = ((of_bits binary32 0x0) ∷ (of_bits binary32 0x0) ∷ []); expected_out = ([]) }) ∷
    learnt (record { written = true; anomaly = none; deviations_out = ((of_bits binary32 0x40e1f319) ∷ (of_bits binary32 0x408bb5fa) ∷ (of_bits binary32 0xc05e5113) ∷ []); past_out = ([]); expected_out = ((of_bits binary32 0x0) ∷ (of_bits binary32 0x0) ∷ []) }) ∷ [])
unfolding trace_all
answers16 = refl

abbrev s17 : Settings
s17 = record { mode = TIME_AUGMENTED; method = NORMALIZE_DIFFERENCE; d = 2; k = 1; start = 0; stop = 0; decay = (of_bits binary64 0x3fd88a6ebaee8f7a); weight_time = (of_bits binary32 0x3f800000); weights = ((of_bits binary32 0x3f800000) ∷ (of_bits binary32 0x3f800000) ∷ []); codes = (0 ∷ 0 ∷ []) }

abbrev c17 : List Call
c17 = (
    post_process (record { input = ((of_bits binary32 0x41da0000) ∷ (of_bits binary32 0x40b80000) ∷ []); timestamp = 58; rcf_point = (some ((of_bits binary32 0x0) ∷ (of_bits binary32 0xc0000000) ∷ (of_bits binary32 0xc0a00000) ∷ [])); expected_point = none; grade = (of_bits binary32 0x0); relative_index = (pos 0); deviations_out = (replicate 3 (of_bits binary32 0)); past_out = (replicate 3 (of_bits binary32 0)); expected_out = (replicate 2 (of_bits binary32 0)) }) ∷
    shift (replicate 0 (of_bits binary32 0)) ∷
    drain ∷
    shingled_point ((of_bits binary32 0x41a80000) ∷ (of_bits binary32 0x420b0000) ∷ []) 78 (replicate 3 (of_bits binary32 0)) ∷
    status (replicate 6 (of_bits binary32 0)) ∷
    post_process (record { input = ((of_bits binary32 0x415c0000) ∷ (of_bits binary32 0x428e0000) ∷ []); timestamp = 90; rcf_point = (some ((of_bits binary32 0xc0800000) ∷ (of_bits binary32 0x80000001) ∷ (of_bits binary32 0x7d4c21c5) ∷ (of_bits binary32 0x42808000) ∷ [])); expected_point = (some ((of_bits binary32 0xc11b0000) ∷ (of_bits binary32 0x40400000) ∷ (of_bits binary32 0xc0000000) ∷ [])); grade = (of_bits binary32 0x1); relative_index = (pos 0); deviations_out = (replicate 5 (of_bits binary32 0)); past_out = (replicate 1 (of_bits binary32 0)); expected_out = (replicate 1 (of_bits binary32 0)) }) ∷
    status (replicate 3 (of_bits binary32 0)) ∷
    post_process (record { input = ((of_bits binary32 0x41ae0000) ∷ (of_bits binary32 0x42030000) ∷ []); timestamp = 87; rcf_point = (some ((of_bits binary32 0xc0c80000) ∷ (of_bits binary32 0x41e80000) ∷ (of_bits binary32 0x41a00000) ∷ [])); expected_point = (some ((of_bits binary32 0x41000000) ∷ (of_bits binary32 0x0) ∷ (of_bits binary32 0x4634d83c) ∷ [])); grade = (of_bits binary32 0x3f800000); relative_index = (pos 0); deviations_out = (replicate 5 (of_bits binary32 0)); past_out = (replicate 2 (of_bits binary32 0)); expected_out = (replicate 3 (of_bits binary32 0)) }) ∷
    status (replicate 3 (of_bits binary32 0)) ∷
    post_process (record { input = ((of_bits binary32 0x428f8000) ∷ (of_bits binary32 0x428a0000) ∷ []); timestamp = 104; rcf_point = (some ((of_bits binary32 0xc0c80000) ∷ (of_bits binary32 0x41e80000) ∷ (of_bits binary32 0x41a00000) ∷ [])); expected_point = (some ((of_bits binary32 0xb843317d) ∷ (of_bits binary32 0xef9a48c) ∷ (of_bits binary32 0x8790b0f6) ∷ [])); grade = (of_bits binary32 0x0); relative_index = (pos 0); deviations_out = (replicate 3 (of_bits binary32 0)); past_out = (replicate 0 (of_bits binary32 0)); expected_out = (replicate 2 (of_bits binary32 0)) }) ∷
    shingled_point ((of_bits binary32 0x937df489) ∷ (of_bits binary32 0xff800000) ∷ []) 115 (replicate 3 (of_bits binary32 0)) ∷ [])

abbrev t17 : List ℕ
t17 = text (
    "set\tT\t5\t2\t1\t0\t0\t3fd88a6ebaee8f7a\t3f800000" ∷
    "wgt\t3f800000\t3f800000" ∷
    "chn\t0\t0" ∷
    "cnt\t3\t3\t0" ∷
    "dev\t0000000000000000\t0000000000000000\t0000000000000000" ∷
    "dev\t0000000000000000\t0000000000000000\t0000000000000000" ∷
    "dev\t0000000000000000\t0000000000000000\t0000000000000000" ∷
    "dev\t0000000000000000\t0000000000000000\t0000000000000000" ∷
    "dev\t0000000000000000\t0000000000000000\t0000000000000000" ∷
    "dev\t0000000000000000\t0000000000000000\t0000000000000000" ∷
    "dev\t0000000000000000\t0000000000000000\t0000000000000000" ∷
    "dev\t0000000000000000\t0000000000000000\t0000000000000000" ∷
    "dev\t0000000000000000\t0000000000000000\t0000000000000000" ∷
    "dev\t0000000000000000\t0000000000000000\t0000000000000000" ∷
    "dev\t0000000000000000\t0000000000000000\t0000000000000000" ∷
    "dev\t0000000000000000\t0000000000000000\t0000000000000000" ∷
    "dev\t0000000000000000\t0000000000000000\t0000000000000000" ∷
    "dev\t0000000000000000\t0000000000000000\t0000000000000000" ∷
    "dev\t0000000000000000\t0000000000000000\t0000000000000000" ∷
    "inp\t428f8000\t428a0000" ∷
    "pnt\tc0c80000\t41e80000\t41a00000" ∷
    "tim\t104" ∷ [])

run17 : render (run (fresh s17) c17) ≡ t17
unfolding trace_all
run17 = refl

history17 : history_text s17 c17 ≡ t17
unfolding trace_all
history17 = refl

answers17 : answers (fresh s17) c17 ≡ (
    learnt (record { written = true; anomaly = none; deviations_out = ((of_bits binary32 0x0) ∷ (of_bits binary32 0x0) ∷ (of_bits binary32 0x0) ∷ []); past_out = ((of_bits binary32 0x0) ∷ (of_bits binary32 0x0) ∷ (of_bits binary32 0x0) ∷ []); expected_out = ((of_bits binary32 0x0) ∷ (of_bits binary32 0x0) ∷ []) }) ∷
    refused 20 ∷
    done ∷
    wrote ((of_bits binary32 0xc0c80000) ∷ (of_bits binary32 0x41e80000) ∷ (of_bits binary32 0x41a00000) ∷ []) ∷
    told (record { values_seen = 1; internal_timestamp = 1; ready = true; input_dimensions = 2; shingle_size = 1; dimensions = 3; method = NORMALIZE_DIFFERENCE; mode = TIME_AUGMENTED; start = 0; panel = 0; deviations_out = ((of_bits binary32 0x0) ∷ (of_bits binary32 0x0) ∷ (of_bits binary32 0x0) ∷ (of_bits binary32 0x0) ∷ (of_bits binary32 0x0) ∷ (of_bits binary32 0x0) ∷ []) }) ∷
    refused 13 ∷
    told (record { values_seen = 1; internal_timestamp = 1; ready = true; input_dimensions = 2; shingle_size = 1; dimensions = 3; method = NORMALIZE_DIFFERENCE; mode = TIME_AUGMENTED; start = 0; panel = 0; deviations_out = ((of_bits binary32 0x0) ∷ (of_bits binary32 0x0) ∷ (of_bits binary32 0x0) ∷ []) }) ∷
    learnt (record { written = true; anomaly = some (record { past_timestamp = 58; likelihood = (of_bits binary32 0x3f800000) }); deviations_out = ((of_bits binary32 0x0) ∷ (of_bits binary32 0x0) ∷ (of_bits binary32 0x0) ∷ (of_bits binary32 0x0) ∷ (of_bits binary32 0x0) ∷ []); past_out = ((of_bits binary32 0x41ae0000) ∷ (of_bits binary32 0x42030000) ∷ []); expected_out = ((of_bits binary32 0x420d0000) ∷ (of_bits binary32 0x40b80000) ∷ (of_bits binary32 0x0) ∷ []) }) ∷
    told (record { values_seen = 2; internal_timestamp = 2; ready = true; input_dimensions = 2; shingle_size = 1; dimensions = 3; method = NORMALIZE_DIFFERENCE; mode = TIME_AUGMENTED; start = 0; panel = 0; deviations_out = ((of_bits binary32 0x0) ∷ (of_bits binary32 0x0) ∷ (of_bits binary32 0x0) ∷ []) }) ∷
    learnt (record { written = true; anomaly = none; deviations_out = ((of_bits binary32 0x0) ∷ (of_bits binary32 0x0) ∷ (of_bits binary32 0x0) ∷ []); past_out = ([]); expected_out = ((of_bits binary32 0x0) ∷ (of_bits binary32 0x0) ∷ []) }) ∷
    refused 11 ∷ [])
unfolding trace_all
answers17 = refl

abbrev s18 : Settings
s18 = record { mode = STANDARD; method = NORMALIZE; d = 2; k = 1; start = 0; stop = 12; decay = (of_bits binary64 0x3fe5a15486d0843f); weight_time = (of_bits binary32 0x3f800000); weights = ((of_bits binary32 0x0) ∷ (of_bits binary32 0x40400000) ∷ []); codes = (0 ∷ 0 ∷ []) }

abbrev c18 : List Call
c18 = (
    shift (replicate 2 (of_bits binary32 0)) ∷
    invert_extrapolation (record { forecast = ranges ((of_bits binary32 0x0) ∷ (of_bits binary32 0x428be000) ∷ (of_bits binary32 0x1) ∷ (of_bits binary32 0x41200000) ∷ []) ((of_bits binary32 0x40a00000) ∷ (of_bits binary32 0x428de000) ∷ (of_bits binary32 0x40800000) ∷ (of_bits binary32 0x41700000) ∷ []) ((of_bits binary32 0xc0000000) ∷ (of_bits binary32 0x4289e000) ∷ (of_bits binary32 0xbf800000) ∷ (of_bits binary32 0x40a00000) ∷ []); values_out = (ranges (replicate 4 (of_bits binary32 0)) (replicate 4 (of_bits binary32 0)) (replicate 4 (of_bits binary32 0))); times_out = (ranges (replicate 2 (of_bits binary32 0)) (replicate 2 (of_bits binary32 0)) (replicate 2 (of_bits binary32 0))) }) ∷ [])

abbrev t18 : List ℕ
t18 = text (
    "set\tS\t4\t2\t1\t0\t12\t3fe5a15486d0843f\t3f800000" ∷
    "wgt\t00000000\t40400000" ∷
    "chn\t0\t0" ∷
    "cnt\t0\t0\t0" ∷
    "dev\t0000000000000000\t0000000000000000\t0000000000000000" ∷
    "dev\t0000000000000000\t0000000000000000\t0000000000000000" ∷
    "dev\t0000000000000000\t0000000000000000\t0000000000000000" ∷
    "dev\t0000000000000000\t0000000000000000\t0000000000000000" ∷
    "dev\t0000000000000000\t0000000000000000\t0000000000000000" ∷
    "dev\t0000000000000000\t0000000000000000\t0000000000000000" ∷
    "dev\t0000000000000000\t0000000000000000\t0000000000000000" ∷
    "dev\t0000000000000000\t0000000000000000\t0000000000000000" ∷
    "dev\t0000000000000000\t0000000000000000\t0000000000000000" ∷
    "dev\t0000000000000000\t0000000000000000\t0000000000000000" ∷
    "dev\t0000000000000000\t0000000000000000\t0000000000000000" ∷
    "dev\t0000000000000000\t0000000000000000\t0000000000000000" ∷
    "dev\t0000000000000000\t0000000000000000\t0000000000000000" ∷
    "dev\t0000000000000000\t0000000000000000\t0000000000000000" ∷
    "dev\t0000000000000000\t0000000000000000\t0000000000000000" ∷
    "inp\t00000000\t00000000" ∷
    "pnt\t00000000\t00000000" ∷
    "tim\t0" ∷ [])

run18 : render (run (fresh s18) c18) ≡ t18
unfolding trace_all
run18 = refl

history18 : history_text s18 c18 ≡ t18
unfolding trace_all
history18 = refl

answers18 : answers (fresh s18) c18 ≡ (
    wrote ((of_bits binary32 0x0) ∷ (of_bits binary32 0x0) ∷ []) ∷
    turned (record { forecast = (ranges ((of_bits binary32 0x0) ∷ (of_bits binary32 0x41ba8000) ∷ (of_bits binary32 0x0) ∷ (of_bits binary32 0x40555556) ∷ []) ((of_bits binary32 0x0) ∷ (of_bits binary32 0x41bd2aab) ∷ (of_bits binary32 0x0) ∷ (of_bits binary32 0x40a00000) ∷ []) ((of_bits binary32 0x0) ∷ (of_bits binary32 0x41b7d556) ∷ (of_bits binary32 0x0) ∷ (of_bits binary32 0x3fd55556) ∷ [])); values_out = (ranges (replicate 4 (of_bits binary32 0)) (replicate 4 (of_bits binary32 0)) (replicate 4 (of_bits binary32 0))); times_out = (ranges (replicate 2 (of_bits binary32 0)) (replicate 2 (of_bits binary32 0)) (replicate 2 (of_bits binary32 0))) }) ∷ [])
unfolding trace_all
answers18 = refl

abbrev s19 : Settings
s19 = record { mode = TIME_AUGMENTED; method = NORMALIZE_DIFFERENCE; d = 2; k = 3; start = 0; stop = 4; decay = (of_bits binary64 0x3fefffffffffffff); weight_time = (of_bits binary32 0x3f800000); weights = ((of_bits binary32 0xbf800000) ∷ (of_bits binary32 0x40400000) ∷ []); codes = (14210 ∷ 6 ∷ []) }

abbrev c19 : List Call
c19 = (
    post_process (record { input = ((of_bits binary32 0x420d0000) ∷ (of_bits binary32 0x42990000) ∷ []); timestamp = 8; rcf_point = (some ((of_bits binary32 0x42c98000) ∷ (of_bits binary32 0xc0400000) ∷ (of_bits binary32 0x464a25c1) ∷ (of_bits binary32 0xc0a00000) ∷ (of_bits binary32 0x3f800000) ∷ (of_bits binary32 0xc0800000) ∷ (of_bits binary32 0x40000000) ∷ (of_bits binary32 0x42922000) ∷ (of_bits binary32 0xc1000000) ∷ [])); expected_point = (some ((of_bits binary32 0x26068564) ∷ (of_bits binary32 0xc28a4000) ∷ (of_bits binary32 0xc11d0000) ∷ (of_bits binary32 0x790e54d0) ∷ (of_bits binary32 0x41000000) ∷ (of_bits binary32 0x7f61b1e6) ∷ (of_bits binary32 0xc3ec1e7e) ∷ (of_bits binary32 0xff61b1e6) ∷ (of_bits binary32 0x116c2) ∷ [])); grade = (of_bits binary32 0x0); relative_index = (pos 0); deviations_out = (replicate 5 (of_bits binary32 0)); past_out = (replicate 5 (of_bits binary32 0)); expected_out = (replicate 2 (of_bits binary32 0)) }) ∷
    post_process (record { input = ((of_bits binary32 0x42850000) ∷ (of_bits binary32 0x42ac0000) ∷ []); timestamp = 22; rcf_point = (some ((of_bits binary32 0x463e3709) ∷ (of_bits binary32 0xc0e00000) ∷ (of_bits binary32 0xbf800000) ∷ (of_bits binary32 0x1) ∷ nan ∷ (of_bits binary32 0x40c00000) ∷ (of_bits binary32 0x3f800000) ∷ (of_bits binary32 0x60ad78ec) ∷ (of_bits binary32 0xc0c00000) ∷ [])); expected_point = (some ((of_bits binary32 0xc2ad6000) ∷ (of_bits binary32 0x42f40000) ∷ (of_bits binary32 0x0) ∷ (of_bits binary32 0x40e00000) ∷ (of_bits binary32 0xc0c00000) ∷ (of_bits binary32 0x46026172) ∷ (of_bits binary32 0x45c02ef6) ∷ (of_bits binary32 0x42922000) ∷ (of_bits binary32 0x460af68b) ∷ [])); grade = (of_bits binary32 0x0); relative_index = (pos 0); deviations_out = (replicate 3 (of_bits binary32 0)); past_out = (replicate 2 (of_bits binary32 0)); expected_out = (replicate 3 (of_bits binary32 0)) }) ∷ [])

abbrev t19 : List ℕ
t19 = text (
    "set\tT\t5\t2\t3\t0\t4\t3fefffffffffffff\t3f800000" ∷
    "wgt\tbf800000\t40400000" ∷
    "chn\t14210\t6" ∷
    "cnt\t2\t2\t2" ∷
    "dev\t3ff0000000000000\t4050a00000000000\t40b1464000000000" ∷
    "dev\t3ff0000000000000\t4055800000000001\t40bce40000000001" ∷
    "dev\t3ff0000000000000\t403f400000000001\t408e848000000001" ∷
    "dev\t3ff0000000000000\t4023000000000005\t405690000000002e" ∷
    "dev\t3ffaaaaaaaaaaaab\t0000000000000000\t0000000000000000" ∷
    "dev\t3ffaaaaaaaaaaaab\t0000000000000000\t0000000000000000" ∷
    "dev\t3ffaaaaaaaaaaaab\t404b600000000001\t409c33c000000002" ∷
    "dev\t3ffaaaaaaaaaaaab\t404e400000000002\t40af2f8000000001" ∷
    "dev\t3ffaaaaaaaaaaaab\t0000000000000000\t0000000000000000" ∷
    "dev\t3ffaaaaaaaaaaaab\t3ea752e50db3a3a2\t3d61000000000000" ∷
    "dev\t3ff0000000000000\t4036000000000000\t407e400000000000" ∷
    "dev\t3ff0000000000000\t402c000000000000\t4068800000000000" ∷
    "dev\t3ffaaaaaaaaaaaab\t0000000000000000\t0000000000000000" ∷
    "dev\t3ffaaaaaaaaaaaab\t4033555555555556\t406dd55555555556" ∷
    "dev\t3ffaaaaaaaaaaaab\t0000000000000000\t0000000000000000" ∷
    "inp\t00000000\t00000000\t420d0000\t42990000\t42850000\t42ac0000" ∷
    "pnt\t463e3709\tc0e00000\tbf800000\t00000001\t7fc00000\t40c00000\t3f800000\t60ad78ec\tc0c00000" ∷
    "tim\t0\t8\t22" ∷ [])

run19 : render (run (fresh s19) c19) ≡ t19
unfolding trace_all
run19 = refl

history19 : history_text s19 c19 ≡ t19
unfolding trace_all
history19 = refl

answers19 : answers (fresh s19) c19 ≡ (
    learnt (record { written = true; anomaly = none; deviations_out = ((of_bits binary32 0x0) ∷ (of_bits binary32 0x0) ∷ (of_bits binary32 0x0) ∷ (of_bits binary32 0x0) ∷ (of_bits binary32 0x0) ∷ []); past_out = ((of_bits binary32 0x0) ∷ (of_bits binary32 0x0) ∷ (of_bits binary32 0x0) ∷ (of_bits binary32 0x0) ∷ (of_bits binary32 0x0) ∷ []); expected_out = ((of_bits binary32 0x0) ∷ (of_bits binary32 0x0) ∷ []) }) ∷
    learnt (record { written = true; anomaly = none; deviations_out = ((of_bits binary32 0x0) ∷ (of_bits binary32 0x34dfe897) ∷ (of_bits binary32 0x0) ∷ []); past_out = ((of_bits binary32 0x0) ∷ (of_bits binary32 0x0) ∷ []); expected_out = ((of_bits binary32 0x0) ∷ (of_bits binary32 0x0) ∷ (of_bits binary32 0x0) ∷ []) }) ∷ [])
unfolding trace_all
answers19 = refl
