-- Lists of calls in mode G (document 02, #114), whose texts and answers the oracle gave (traces SEED COUNT gap: the Rust, and the written rule
-- where G is another), computed by the definitions.
use Prim.Native.Nat.{ℕ}
use mathlib.Core.Path.{◌≡◌, refl}
use mathlib.Core.Bool.{true, false}
use mathlib.Core.List.{List, [], ◌∷◌}
use mathlib.Core.Option.{none, some}
use lib.IntN.{pos, negsuc}
use lib.ListN.{replicate}
use lib.Ieee.{Float, nan, binary32, binary64, of_bits}
use lib.Ieee as Ieee
use Rattle.numeric.specs.Narrow as Narrow
use Rattle.numeric.specs.Root as Root
use Rattle.common.specs.Deviation as Deviation
use Rattle.refusal.specs.Lent as Lent
use Rattle.ranges.specs.RangeVector as RangeVector
use Rattle.ranges.specs.RangeVector.{ranges}
use Rattle.trcf.specs.Lists as Lists
use Rattle.trcf.specs.Settings as Settings
use Rattle.trcf.specs.Calls as Calls
use Rattle.trcf.specs.Transformer as Transformer
use Rattle.trcf.specs.Preprocessor as Preprocessor
use Rattle.trcf.specs.Settings.{Settings}
use Rattle.trcf.specs.Calls.{Learn, Forecast, Call, shingled_point, post_process, drain, transform, invert_extrapolation, scale, shift, status}
use Rattle.trcf.specs.Preprocessor.{fresh, run, answers, Answer, refused, absent, done, wrote, learnt, turned, told, Learned, Status}
use Rattle.trcf.specs.declared.head.Anomaly.{Anomaly}
use Rattle.trcf.specs.declared.types.TransformMethod.TheVariants.{NONE, WEIGHTED, DIFFERENCE, SUBTRACT_MA, NORMALIZE, NORMALIZE_DIFFERENCE}
use Rattle.trcf.specs.declared.types.ForestMode.TheVariants.{STANDARD, TIME_AUGMENTED}
use Rattle.snapshot.specs.Text as Text
use Rattle.snapshot.specs.Text.{render}
use Rattle.snapshot.specs.Ascii.{text}
use Rattle.restart.specs.Statistics as Statistics
use Rattle.restart.specs.History as History
use Rattle.restart.specs.History.{history_text}
use Rattle.trcf.specs.declared.types.ForestMode.TheVariants.{GAP_AUGMENTED}

-- to unfold this is to unfold whatever its line names
trace_all : Unit {0}
unfolding Ieee.span Ieee.climb Ieee.size Ieee.odd Ieee.units Ieee.round Ieee.neg Ieee.sum Ieee.add Ieee.sub Ieee.mul Ieee.div Ieee.lt Ieee.eq Ieee.le Ieee.ne Ieee.of_int Ieee.fits Ieee.of_fields Ieee.of_bits Ieee.to_bits Narrow.narrowed Root.root_within Root.halves Root.rooted Root.root_of Deviation.outside_unit Deviation.deviation_new Deviation.deviation_create Deviation.factor_of Deviation.step_of Deviation.deviation_update Deviation.is_empty Deviation.mean_of Deviation.root_above Deviation.deviation_of Deviation.deviation_set_count Lent.over RangeVector.settled RangeVector.shifted RangeVector.scaled RangeVector.range_at RangeVector.put_at RangeVector.past_any RangeVector.range_shift RangeVector.range_scale RangeVector.cascade_to RangeVector.unequal RangeVector.unblocked RangeVector.range_cascaded_add RangeVector.shorter RangeVector.range_new RangeVector.range_from RangeVector.in_order RangeVector.range_create Lists.last_n Lists.shift_in Lists.overwrite Settings.block Settings.dimension Settings.waiting Settings.all_one Settings.settings_row Calls.finite Calls.due Calls.newest Calls.before_newest Calls.wrong_length Calls.outside Calls.drain_full Calls.learn_full Calls.lookahead Calls.forecast_unfit Calls.forecast_output_short Calls.waiting_short Calls.learn_short Calls.table Calls.rows Transformer.statistic_at Transformer.put_statistic Transformer.fed Transformer.deviations_at Transformer.put_deviations Transformer.fed_at Transformer.channels_fed Transformer.updated Transformer.normalized_scale Transformer.basic_shift Transformer.basic_drift Transformer.weight_at Transformer.transformed Transformer.unweighted Transformer.inverted Transformer.reciprocal Transformer.forecast_at Transformer.forecast_to Transformer.inverted_forecast Transformer.scales Transformer.shifts Transformer.difference_deviations Preprocessor.fresh Preprocessor.facts Preprocessor.refusal Preprocessor.time_fed Preprocessor.feed Preprocessor.timescale Preprocessor.timedrift Preprocessor.time_element Preprocessor.transformed_after Preprocessor.previous Preprocessor.time_base Preprocessor.preceding Preprocessor.primed Preprocessor.drain_one Preprocessor.drain_all Preprocessor.drained Preprocessor.buffered Preprocessor.learned Preprocessor.learned_with Preprocessor.change Preprocessor.next Preprocessor.deviations Preprocessor.scale_of Preprocessor.shift_of Preprocessor.point_of Preprocessor.invert_time Preprocessor.numbers_of Preprocessor.times_of Preprocessor.block_from Preprocessor.past_values Preprocessor.expected_values Preprocessor.anomaly_of Preprocessor.learned_nothing Preprocessor.buffered_answer Preprocessor.learned_answer Preprocessor.learn_answer Preprocessor.turned_back Preprocessor.status_of Preprocessor.reply Preprocessor.answer Text.whole Text.float Text.set_line Text.singles Text.chn_line Text.cnt_line Text.dev_line Text.tim_line Text.buf_line Text.body_lines Text.lines_by Text.render Statistics.statistics_from History.seen_of History.internal_of History.buffer_of History.shingled History.inputs_of History.timestamps_of History.newest_reading History.count_of History.statistics_of History.history_state History.history_facts History.history_refusal History.complete History.adds History.enter History.entries History.history_text History.history_answer History.history_panel
trace_all = tt

abbrev s0 : Settings
s0 = record { mode = GAP_AUGMENTED; method = NORMALIZE; d = 1; k = 2; start = 2; stop = 1000; decay = (of_bits binary64 0x0); weight_time = (of_bits binary32 0x3f800000); weights = ((of_bits binary32 0x3f800000) ∷ []); codes = (4 ∷ []) }

abbrev c0 : List Call
c0 = (
    transform ((of_bits binary32 0x42880000) ∷ []) 103 (replicate 2 (of_bits binary32 0)) ∷
    post_process (record { input = ((of_bits binary32 0x42550000) ∷ []); timestamp = 110; rcf_point = none; expected_point = none; grade = (of_bits binary32 0x0); relative_index = (pos 0); deviations_out = (replicate 3 (of_bits binary32 0)); past_out = (replicate 1 (of_bits binary32 0)); expected_out = (replicate 1 (of_bits binary32 0)) }) ∷
    transform ((of_bits binary32 0x40300000) ∷ []) 109 (replicate 2 (of_bits binary32 0)) ∷
    transform ((of_bits binary32 0x41e20000) ∷ []) 113 (replicate 2 (of_bits binary32 0)) ∷
    post_process (record { input = ((of_bits binary32 0x42440000) ∷ []); timestamp = 117; rcf_point = none; expected_point = none; grade = (of_bits binary32 0x0); relative_index = (negsuc 0); deviations_out = (replicate 3 (of_bits binary32 0)); past_out = (replicate 1 (of_bits binary32 0)); expected_out = (replicate 1 (of_bits binary32 0)) }) ∷
    drain ∷
    shingled_point ((of_bits binary32 0x425c0000) ∷ []) 130 (replicate 5 (of_bits binary32 0)) ∷
    post_process (record { input = ((of_bits binary32 0x41340000) ∷ []); timestamp = 131; rcf_point = (some ((of_bits binary32 0x40c00000) ∷ (of_bits binary32 0x40400000) ∷ (of_bits binary32 0xc2c6e000) ∷ (of_bits binary32 0xc1000000) ∷ [])); expected_point = none; grade = (of_bits binary32 0x0); relative_index = (negsuc 0); deviations_out = (replicate 3 (of_bits binary32 0)); past_out = (replicate 1 (of_bits binary32 0)); expected_out = (replicate 1 (of_bits binary32 0)) }) ∷
    shingled_point ((of_bits binary32 0x424d0000) ∷ []) 130 (replicate 5 (of_bits binary32 0)) ∷
    shingled_point ((of_bits binary32 0x40600000) ∷ []) 158 (replicate 5 (of_bits binary32 0)) ∷
    invert_extrapolation (record { forecast = ranges ((of_bits binary32 0x116c2) ∷ (of_bits binary32 0x4573ae6f) ∷ (of_bits binary32 0x40c00000) ∷ (of_bits binary32 0xedadf9cd) ∷ []) ((of_bits binary32 0x40800000) ∷ (of_bits binary32 0x4573ce6f) ∷ (of_bits binary32 0x40c00000) ∷ (of_bits binary32 0xedadf9cd) ∷ []) ((of_bits binary32 0xbf800000) ∷ (of_bits binary32 0x45736e6f) ∷ (of_bits binary32 0x40c00000) ∷ (of_bits binary32 0xedadf9cd) ∷ []); values_out = (ranges (replicate 2 (of_bits binary32 0)) (replicate 3 (of_bits binary32 0)) (replicate 2 (of_bits binary32 0))); times_out = (ranges (replicate 1 (of_bits binary32 0)) (replicate 1 (of_bits binary32 0)) (replicate 3 (of_bits binary32 0))) }) ∷
    scale (replicate 2 (of_bits binary32 0)) ∷
    shift (replicate 2 (of_bits binary32 0)) ∷
    status (replicate 2 (of_bits binary32 0)) ∷ [])

abbrev t0 : List ℕ
t0 = text (
    "set\tG\t4\t1\t2\t2\t1000\t0000000000000000\t3f800000" ∷
    "wgt\t3f800000" ∷
    "chn\t4" ∷
    "cnt\t3\t3\t3" ∷
    "dev\t4008000000000000\t405c600000000000\t40b4f32000000000" ∷
    "dev\t4008000000000000\tc045000000000000\t40968c8000000000" ∷
    "dev\t4008000000000000\t4035008da6244018\t40768dce38e38e35" ∷
    "dev\t4008000000000000\tc030200000000000\t4069108000000000" ∷
    "dev\t4008000000000000\t40330217e3d18f78\t407218eaaaaaaaab" ∷
    "dev\t4008000000000000\t4076600000000000\t40e4f8c000000000" ∷
    "dev\t4008000000000000\t4035000000000000\t406ea00000000000" ∷
    "dev\t4008000000000000\t402876088a277a4d\t40561e38e38e3900" ∷
    "dev\t4008000000000000\t4025000000000000\t404ea00000000000" ∷
    "dev\t4008000000000000\t40226e52e105535c\t4046755555555556" ∷
    "inp\t42440000\t41340000" ∷
    "pnt\t40c00000\t40400000\tc2c6e000\tc1000000" ∷
    "tim\t117\t131" ∷ [])

run0 : render (run (fresh s0) c0) ≡ t0
unfolding trace_all
run0 = refl

history0 : history_text s0 c0 ≡ t0
unfolding trace_all
history0 = refl

answers0 : answers (fresh s0) c0 ≡ (
    wrote ((of_bits binary32 0x42880000) ∷ (of_bits binary32 0x0) ∷ []) ∷
    learnt (record { written = false; anomaly = none; deviations_out = ((of_bits binary32 0x0) ∷ (of_bits binary32 0x0) ∷ (of_bits binary32 0x0) ∷ []); past_out = ((of_bits binary32 0x0) ∷ []); expected_out = ((of_bits binary32 0x0) ∷ []) }) ∷
    refused 28 ∷
    wrote ((of_bits binary32 0x41e20000) ∷ (of_bits binary32 0x40400000) ∷ []) ∷
    learnt (record { written = true; anomaly = none; deviations_out = ((of_bits binary32 0x0) ∷ (of_bits binary32 0x0) ∷ (of_bits binary32 0x0) ∷ []); past_out = ((of_bits binary32 0x0) ∷ []); expected_out = ((of_bits binary32 0x0) ∷ []) }) ∷
    done ∷
    wrote ((of_bits binary32 0xbf83e0f8) ∷ (of_bits binary32 0x4022e8ba) ∷ (of_bits binary32 0x3ff07c1f) ∷ (of_bits binary32 0x409745d1) ∷ (of_bits binary32 0x0) ∷ []) ∷
    learnt (record { written = true; anomaly = none; deviations_out = ((of_bits binary32 0x40cac0ff) ∷ (of_bits binary32 0x40b6e52e) ∷ (of_bits binary32 0x0) ∷ []); past_out = ((of_bits binary32 0x0) ∷ []); expected_out = ((of_bits binary32 0x0) ∷ []) }) ∷
    refused 28 ∷
    wrote ((of_bits binary32 0xc2c6e000) ∷ (of_bits binary32 0xc1000000) ∷ (of_bits binary32 0xc089522b) ∷ (of_bits binary32 0x40d4309a) ∷ (of_bits binary32 0x0) ∷ []) ∷
    turned (record { forecast = (ranges ((of_bits binary32 0x116c2) ∷ (of_bits binary32 0x4573ae6f) ∷ (of_bits binary32 0x40c00000) ∷ (of_bits binary32 0xedadf9cd) ∷ []) ((of_bits binary32 0x40800000) ∷ (of_bits binary32 0x4573ce6f) ∷ (of_bits binary32 0x40c00000) ∷ (of_bits binary32 0xedadf9cd) ∷ []) ((of_bits binary32 0xbf800000) ∷ (of_bits binary32 0x45736e6f) ∷ (of_bits binary32 0x40c00000) ∷ (of_bits binary32 0xedadf9cd) ∷ [])); values_out = (ranges ((of_bits binary32 0x42175555) ∷ (of_bits binary32 0x46f3f4f7) ∷ []) ((of_bits binary32 0x428bac24) ∷ (of_bits binary32 0x46f414f8) ∷ (of_bits binary32 0x0) ∷ []) ((of_bits binary32 0x41eea930) ∷ (of_bits binary32 0x46f3b4f6) ∷ [])); times_out = (ranges ((of_bits binary64 0x40636dca5c20aa6c) ∷ []) ((of_bits binary64 0x40636dca5c20aa6c) ∷ []) ((of_bits binary64 0x40636dca5c20aa6c) ∷ (of_bits binary64 0x0) ∷ (of_bits binary64 0x0) ∷ [])) }) ∷
    wrote ((of_bits binary32 0x410002f3) ∷ (of_bits binary32 0x40824c65) ∷ []) ∷
    wrote ((of_bits binary32 0x42175555) ∷ (of_bits binary32 0x43030000) ∷ []) ∷
    told (record { values_seen = 3; internal_timestamp = 3; ready = true; input_dimensions = 1; shingle_size = 2; dimensions = 4; method = NORMALIZE; mode = GAP_AUGMENTED; start = 2; panel = 3; deviations_out = ((of_bits binary32 0x40cac0ff) ∷ (of_bits binary32 0x40b6e52e) ∷ []) }) ∷ [])
unfolding trace_all
answers0 = refl

abbrev s1 : Settings
s1 = record { mode = GAP_AUGMENTED; method = NORMALIZE_DIFFERENCE; d = 1; k = 3; start = 2; stop = 1000; decay = (of_bits binary64 0x3fe0000000000000); weight_time = (of_bits binary32 0x3f000000); weights = ((of_bits binary32 0x3f800000) ∷ []); codes = (65535 ∷ []) }

abbrev c1 : List Call
c1 = (
    transform ((of_bits binary32 0x42848000) ∷ []) 103 (replicate 2 (of_bits binary32 0)) ∷
    post_process (record { input = ((of_bits binary32 0xc1600000) ∷ []); timestamp = 110; rcf_point = none; expected_point = none; grade = (of_bits binary32 0x0); relative_index = (negsuc 0); deviations_out = (replicate 3 (of_bits binary32 0)); past_out = (replicate 1 (of_bits binary32 0)); expected_out = (replicate 1 (of_bits binary32 0)) }) ∷
    transform ((of_bits binary32 0x42020000) ∷ []) 109 (replicate 2 (of_bits binary32 0)) ∷
    transform ((of_bits binary32 0xc1700000) ∷ []) 113 (replicate 2 (of_bits binary32 0)) ∷
    post_process (record { input = ((of_bits binary32 0xc1900000) ∷ []); timestamp = 117; rcf_point = none; expected_point = none; grade = (of_bits binary32 0x0); relative_index = (negsuc 1); deviations_out = (replicate 3 (of_bits binary32 0)); past_out = (replicate 1 (of_bits binary32 0)); expected_out = (replicate 1 (of_bits binary32 0)) }) ∷
    shingled_point ((of_bits binary32 0x41280000) ∷ []) 117 (replicate 7 (of_bits binary32 0)) ∷
    shingled_point ((of_bits binary32 0x42010000) ∷ []) 130 (replicate 7 (of_bits binary32 0)) ∷
    post_process (record { input = ((of_bits binary32 0x41ea0000) ∷ []); timestamp = 131; rcf_point = (some ((of_bits binary32 0xc0000000) ∷ (of_bits binary32 0xbf800000) ∷ (of_bits binary32 0x41000000) ∷ (of_bits binary32 0x40c00000) ∷ (of_bits binary32 0x41150000) ∷ (of_bits binary32 0xe0ad78ec) ∷ [])); expected_point = (some ((of_bits binary32 0x40000000) ∷ (of_bits binary32 0x464b9ac6) ∷ (of_bits binary32 0x116c2) ∷ (of_bits binary32 0xc0e00000) ∷ (of_bits binary32 0x43126000) ∷ (of_bits binary32 0xe0ad78ec) ∷ [])); grade = (of_bits binary32 0x3f800000); relative_index = (negsuc 1); deviations_out = (replicate 3 (of_bits binary32 0)); past_out = (replicate 1 (of_bits binary32 0)); expected_out = (replicate 1 (of_bits binary32 0)) }) ∷
    shingled_point ((of_bits binary32 0x41d60000) ∷ []) 130 (replicate 7 (of_bits binary32 0)) ∷
    shingled_point ((of_bits binary32 0x41080000) ∷ []) 158 (replicate 7 (of_bits binary32 0)) ∷
    invert_extrapolation (record { forecast = ranges ((of_bits binary32 0xc0800000) ∷ (of_bits binary32 0xc0800000) ∷ (of_bits binary32 0x460080ce) ∷ (of_bits binary32 0x3f800000) ∷ (of_bits binary32 0xc1640000) ∷ (of_bits binary32 0x80000000) ∷ []) ((of_bits binary32 0xc0400000) ∷ (of_bits binary32 0xc0400000) ∷ (of_bits binary32 0x46008cce) ∷ (of_bits binary32 0x40000000) ∷ (of_bits binary32 0xc1440000) ∷ (of_bits binary32 0x40400000) ∷ []) ((of_bits binary32 0xc1000000) ∷ (of_bits binary32 0xc0800000) ∷ (of_bits binary32 0x46007cce) ∷ (of_bits binary32 0x0) ∷ (of_bits binary32 0xc19a0000) ∷ (of_bits binary32 0xc0a00000) ∷ []); values_out = (ranges (replicate 3 (of_bits binary32 0)) (replicate 4 (of_bits binary32 0)) (replicate 3 (of_bits binary32 0))); times_out = (ranges (replicate 1 (of_bits binary32 0)) (replicate 1 (of_bits binary32 0)) (replicate 3 (of_bits binary32 0))) }) ∷
    scale (replicate 2 (of_bits binary32 0)) ∷
    shift (replicate 2 (of_bits binary32 0)) ∷
    status (replicate 2 (of_bits binary32 0)) ∷ [])

abbrev t1 : List ℕ
t1 = text (
    "set\tG\t5\t1\t3\t2\t1000\t3fe0000000000000\t3f000000" ∷
    "wgt\t3f800000" ∷
    "chn\t65535" ∷
    "cnt\t3\t3\t3" ∷
    "dev\t3ffc000000000000\t4030c00000000000\t4090aa4000000000" ∷
    "dev\t3ffc000000000000\t4046a00000000000\t40a1812000000000" ∷
    "dev\t4002000000000000\t40382baae1dec827\t40804426501bdd2b" ∷
    "dev\t4002000000000000\t4037db6db6db6db7\t40850f66bf908b52" ∷
    "dev\t4002000000000000\t403a25bac9c502df\t4083332b899406f8" ∷
    "dev\t3ffc000000000000\t406b200000000000\t40da65a000000000" ∷
    "dev\t3ffc000000000000\t4031800000000000\t406b900000000000" ∷
    "dev\t4002000000000000\t4025aed5ae1884e3\t40538aaaaaaaaaa0" ∷
    "dev\t4002000000000000\t402b000000000000\t405d155555555556" ∷
    "dev\t4002000000000000\t401e4baaabe9da1e\t4041155555555554" ∷
    "inp\tc1600000\tc1900000\t41ea0000" ∷
    "pnt\tc0000000\tbf800000\t41000000\t40c00000\t41150000\te0ad78ec" ∷
    "tim\t110\t117\t131" ∷ [])

run1 : render (run (fresh s1) c1) ≡ t1
unfolding trace_all
run1 = refl

history1 : history_text s1 c1 ≡ t1
unfolding trace_all
history1 = refl

answers1 : answers (fresh s1) c1 ≡ (
    wrote ((of_bits binary32 0x42848000) ∷ (of_bits binary32 0x0) ∷ []) ∷
    learnt (record { written = false; anomaly = none; deviations_out = ((of_bits binary32 0x0) ∷ (of_bits binary32 0x0) ∷ (of_bits binary32 0x0) ∷ []); past_out = ((of_bits binary32 0x0) ∷ []); expected_out = ((of_bits binary32 0x0) ∷ []) }) ∷
    refused 28 ∷
    wrote ((of_bits binary32 0xc1700000) ∷ (of_bits binary32 0x3fc00000) ∷ []) ∷
    learnt (record { written = true; anomaly = none; deviations_out = ((of_bits binary32 0x0) ∷ (of_bits binary32 0x0) ∷ (of_bits binary32 0x0) ∷ []); past_out = ((of_bits binary32 0x0) ∷ []); expected_out = ((of_bits binary32 0x0) ∷ []) }) ∷
    wrote ((of_bits binary32 0x0) ∷ (of_bits binary32 0x0) ∷ (of_bits binary32 0xbff03893) ∷ (of_bits binary32 0x3f965736) ∷ (of_bits binary32 0x4155f263) ∷ (of_bits binary32 0x0) ∷ (of_bits binary32 0x0) ∷ []) ∷
    wrote ((of_bits binary32 0x0) ∷ (of_bits binary32 0x0) ∷ (of_bits binary32 0xbff03893) ∷ (of_bits binary32 0x3f965736) ∷ (of_bits binary32 0x41bc9c6b) ∷ (of_bits binary32 0x400b9a20) ∷ (of_bits binary32 0x0) ∷ []) ∷
    learnt (record { written = true; anomaly = some (record { past_timestamp = 110; likelihood = (of_bits binary32 0x3f800000) }); deviations_out = ((of_bits binary32 0x4139efdb) ∷ (of_bits binary32 0x40232b2b) ∷ (of_bits binary32 0x0) ∷ []); past_out = ((of_bits binary32 0xc1600000) ∷ []); expected_out = ((of_bits binary32 0xc11bcbd0) ∷ []) }) ∷
    refused 28 ∷
    wrote ((of_bits binary32 0x41000000) ∷ (of_bits binary32 0x40c00000) ∷ (of_bits binary32 0x41150000) ∷ (of_bits binary32 0xe0ad78ec) ∷ (of_bits binary32 0xbfe22ff6) ∷ (of_bits binary32 0x4045e288) ∷ (of_bits binary32 0x0) ∷ []) ∷
    turned (record { forecast = (ranges ((of_bits binary32 0xc0800000) ∷ (of_bits binary32 0xc0800000) ∷ (of_bits binary32 0x460080ce) ∷ (of_bits binary32 0x3f800000) ∷ (of_bits binary32 0xc1640000) ∷ (of_bits binary32 0x80000000) ∷ []) ((of_bits binary32 0xc0400000) ∷ (of_bits binary32 0xc0400000) ∷ (of_bits binary32 0x46008cce) ∷ (of_bits binary32 0x40000000) ∷ (of_bits binary32 0xc1440000) ∷ (of_bits binary32 0x40400000) ∷ []) ((of_bits binary32 0xc1000000) ∷ (of_bits binary32 0xc0800000) ∷ (of_bits binary32 0x46007cce) ∷ (of_bits binary32 0x0) ∷ (of_bits binary32 0xc19a0000) ∷ (of_bits binary32 0xc0a00000) ∷ [])); values_out = (ranges ((of_bits binary32 0xc18dc262) ∷ (of_bits binary32 0xc25858bb) ∷ (of_bits binary32 0x47bc8dd0) ∷ []) ((of_bits binary32 0xc0bf4728) ∷ (of_bits binary32 0xc2296070) ∷ (of_bits binary32 0x47bc9f6d) ∷ (of_bits binary32 0x0) ∷ []) ((of_bits binary32 0xc2816131) ∷ (of_bits binary32 0xc25858bb) ∷ (of_bits binary32 0x47bc87f1) ∷ [])); times_out = (ranges ((of_bits binary64 0x4061776f6854b7d6) ∷ []) ((of_bits binary64 0x40628eded0a96fac) ∷ []) ((of_bits binary64 0x4060600000000000) ∷ (of_bits binary64 0x0) ∷ (of_bits binary64 0x0) ∷ [])) }) ∷
    wrote ((of_bits binary32 0x413be131) ∷ (of_bits binary32 0x410bb7b4) ∷ []) ∷
    wrote ((of_bits binary32 0x0) ∷ (of_bits binary32 0x43030000) ∷ []) ∷
    told (record { values_seen = 3; internal_timestamp = 3; ready = true; input_dimensions = 1; shingle_size = 3; dimensions = 6; method = NORMALIZE_DIFFERENCE; mode = GAP_AUGMENTED; start = 2; panel = 3; deviations_out = ((of_bits binary32 0x4139efdb) ∷ (of_bits binary32 0x40232b2b) ∷ []) }) ∷ [])
unfolding trace_all
answers1 = refl

abbrev s2 : Settings
s2 = record { mode = GAP_AUGMENTED; method = NORMALIZE; d = 2; k = 2; start = 2; stop = 1000; decay = (of_bits binary64 0x3fb999999999999a); weight_time = (of_bits binary32 0x40400000); weights = ((of_bits binary32 0x3f800000) ∷ (of_bits binary32 0x3f800000) ∷ []); codes = (65535 ∷ 65535 ∷ []) }

abbrev c2 : List Call
c2 = (
    transform ((of_bits binary32 0x41c40000) ∷ (of_bits binary32 0x429d8000) ∷ []) 103 (replicate 3 (of_bits binary32 0)) ∷
    post_process (record { input = ((of_bits binary32 0xc1200000) ∷ (of_bits binary32 0x42800000) ∷ []); timestamp = 110; rcf_point = none; expected_point = none; grade = (of_bits binary32 0x0); relative_index = (negsuc 0); deviations_out = (replicate 4 (of_bits binary32 0)); past_out = (replicate 2 (of_bits binary32 0)); expected_out = (replicate 2 (of_bits binary32 0)) }) ∷
    transform ((of_bits binary32 0x41a80000) ∷ (of_bits binary32 0x3fc00000) ∷ []) 109 (replicate 3 (of_bits binary32 0)) ∷
    transform ((of_bits binary32 0xc0100000) ∷ (of_bits binary32 0x429b8000) ∷ []) 113 (replicate 3 (of_bits binary32 0)) ∷
    post_process (record { input = ((of_bits binary32 0x429a0000) ∷ (of_bits binary32 0x41540000) ∷ []); timestamp = 117; rcf_point = none; expected_point = none; grade = (of_bits binary32 0x0); relative_index = (negsuc 0); deviations_out = (replicate 4 (of_bits binary32 0)); past_out = (replicate 2 (of_bits binary32 0)); expected_out = (replicate 2 (of_bits binary32 0)) }) ∷
    post_process (record { input = ((of_bits binary32 0x424f0000) ∷ (of_bits binary32 0x42210000) ∷ []); timestamp = 117; rcf_point = (some ((of_bits binary32 0xc0000000) ∷ (of_bits binary32 0x41200000) ∷ (of_bits binary32 0xc1100000) ∷ (of_bits binary32 0xc0e00000) ∷ (of_bits binary32 0x7f7fffff) ∷ (of_bits binary32 0x41200000) ∷ [])); expected_point = none; grade = (of_bits binary32 0x0); relative_index = (pos 0); deviations_out = (replicate 4 (of_bits binary32 0)); past_out = (replicate 2 (of_bits binary32 0)); expected_out = (replicate 2 (of_bits binary32 0)) }) ∷
    shingled_point ((of_bits binary32 0x42210000) ∷ (of_bits binary32 0x42830000) ∷ []) 130 (replicate 7 (of_bits binary32 0)) ∷
    post_process (record { input = ((of_bits binary32 0x41aa0000) ∷ (of_bits binary32 0x42820000) ∷ []); timestamp = 131; rcf_point = (some ((of_bits binary32 0x116c2) ∷ (of_bits binary32 0x3f800000) ∷ (of_bits binary32 0x1) ∷ (of_bits binary32 0x42604000) ∷ (of_bits binary32 0x42548000) ∷ (of_bits binary32 0xc2a72000) ∷ [])); expected_point = (some ((of_bits binary32 0x1) ∷ (of_bits binary32 0x80000000) ∷ (of_bits binary32 0xc0800000) ∷ (of_bits binary32 0xbf800000) ∷ (of_bits binary32 0x4a7913dc) ∷ (of_bits binary32 0x4283a000) ∷ [])); grade = (of_bits binary32 0x3f800000); relative_index = (pos 0); deviations_out = (replicate 4 (of_bits binary32 0)); past_out = (replicate 2 (of_bits binary32 0)); expected_out = (replicate 2 (of_bits binary32 0)) }) ∷
    shingled_point ((of_bits binary32 0x42980000) ∷ (of_bits binary32 0x41380000) ∷ []) 130 (replicate 7 (of_bits binary32 0)) ∷
    shingled_point ((of_bits binary32 0x42440000) ∷ (of_bits binary32 0x42180000) ∷ []) 158 (replicate 7 (of_bits binary32 0)) ∷
    invert_extrapolation (record { forecast = ranges ((of_bits binary32 0x42ed2000) ∷ (of_bits binary32 0x45033ce6) ∷ (of_bits binary32 0x4225c000) ∷ (of_bits binary32 0x7f61b1e6) ∷ (of_bits binary32 0x41f80000) ∷ (of_bits binary32 0xc0e00000) ∷ []) ((of_bits binary32 0x42f32000) ∷ (of_bits binary32 0x45033ce6) ∷ (of_bits binary32 0x4239c000) ∷ (of_bits binary32 0x7f61b1e6) ∷ (of_bits binary32 0x42100000) ∷ (of_bits binary32 0xc0400000) ∷ []) ((of_bits binary32 0x42e72000) ∷ (of_bits binary32 0x45032ce6) ∷ (of_bits binary32 0x4225c000) ∷ (of_bits binary32 0x7f61b1e6) ∷ (of_bits binary32 0x41f80000) ∷ (of_bits binary32 0xc1300000) ∷ []); values_out = (ranges (replicate 4 (of_bits binary32 0)) (replicate 5 (of_bits binary32 0)) (replicate 4 (of_bits binary32 0))); times_out = (ranges (replicate 1 (of_bits binary32 0)) (replicate 1 (of_bits binary32 0)) (replicate 3 (of_bits binary32 0))) }) ∷
    scale (replicate 3 (of_bits binary32 0)) ∷
    shift (replicate 3 (of_bits binary32 0)) ∷
    status (replicate 3 (of_bits binary32 0)) ∷ [])

abbrev t2 : List ℕ
t2 = text (
    "set\tG\t4\t2\t2\t2\t1000\t3fb999999999999a\t40400000" ∷
    "wgt\t3f800000\t3f800000" ∷
    "chn\t65535\t65535" ∷
    "cnt\t4\t2\t2" ∷
    "dev\t3ffaaaaaaaaaaaab\t404be00000000001\t40a179e000000000" ∷
    "dev\t3ffaaaaaaaaaaaab\t4056f55555555556\t40b4b90aaaaaaaab" ∷
    "dev\t3ffaaaaaaaaaaaab\t4010000000000008\t40a5374000000000" ∷
    "dev\t3ffaaaaaaaaaaaab\t4049caaaaaaaaaab\t409a726aaaaaaaab" ∷
    "dev\t3ffaaaaaaaaaaaab\t402de23f11c11f62\t406be851eb851eaf" ∷
    "dev\t3ffaaaaaaaaaaaab\t40283ffc9f31b2a7\t4062607ae147ae11" ∷
    "dev\t3ffaaaaaaaaaaaab\t4042733333333335\t409bfc8a3d70a3d8" ∷
    "dev\t3ffaaaaaaaaaaaab\t404ce44444444444\t409fd7c6d3a06d3a" ∷
    "dev\t3ffaaaaaaaaaaaab\t404425a54632fc84\t40995e75c28f5c29" ∷
    "dev\t3ffaaaaaaaaaaaab\t401e5fa905748d0e\t404cd47ae147ae20" ∷
    "dev\t3ffaaaaaaaaaaaab\t406a200000000000\t40d9abc000000000" ∷
    "dev\t3ffaaaaaaaaaaaab\t4057000000000001\t40c2350000000001" ∷
    "dev\t3ffaaaaaaaaaaaab\t401b6f2d4f3ffb89\t4047851eb851ec00" ∷
    "dev\t3ffaaaaaaaaaaaab\t4060a66666666667\t40c7c6851eb851ed" ∷
    "dev\t3ffaaaaaaaaaaaab\t40493ad086988dec\t40a3e451eb851eb9" ∷
    "inp\t424f0000\t42210000\t41aa0000\t42820000" ∷
    "pnt\t000116c2\t3f800000\t00000001\t42604000\t42548000\tc2a72000" ∷
    "tim\t117\t131" ∷
    "buf\t110\tc1200000\t42800000" ∷
    "buf\t117\t429a0000\t41540000" ∷ [])

run2 : render (run (fresh s2) c2) ≡ t2
unfolding trace_all
run2 = refl

history2 : history_text s2 c2 ≡ t2
unfolding trace_all
history2 = refl

answers2 : answers (fresh s2) c2 ≡ (
    wrote ((of_bits binary32 0x41c40000) ∷ (of_bits binary32 0x429d8000) ∷ (of_bits binary32 0x0) ∷ []) ∷
    learnt (record { written = false; anomaly = none; deviations_out = ((of_bits binary32 0x0) ∷ (of_bits binary32 0x0) ∷ (of_bits binary32 0x0) ∷ (of_bits binary32 0x0) ∷ []); past_out = ((of_bits binary32 0x0) ∷ (of_bits binary32 0x0) ∷ []); expected_out = ((of_bits binary32 0x0) ∷ (of_bits binary32 0x0) ∷ []) }) ∷
    refused 28 ∷
    wrote ((of_bits binary32 0xc0100000) ∷ (of_bits binary32 0x429b8000) ∷ (of_bits binary32 0x41100000) ∷ []) ∷
    learnt (record { written = true; anomaly = none; deviations_out = ((of_bits binary32 0x0) ∷ (of_bits binary32 0x0) ∷ (of_bits binary32 0x0) ∷ (of_bits binary32 0x0) ∷ []); past_out = ((of_bits binary32 0x0) ∷ (of_bits binary32 0x0) ∷ []); expected_out = ((of_bits binary32 0x0) ∷ (of_bits binary32 0x0) ∷ []) }) ∷
    learnt (record { written = true; anomaly = none; deviations_out = ((of_bits binary32 0x0) ∷ (of_bits binary32 0x0) ∷ (of_bits binary32 0x0) ∷ (of_bits binary32 0x0) ∷ []); past_out = ((of_bits binary32 0x0) ∷ (of_bits binary32 0x0) ∷ []); expected_out = ((of_bits binary32 0x0) ∷ (of_bits binary32 0x0) ∷ []) }) ∷
    wrote ((of_bits binary32 0xc0e00000) ∷ (of_bits binary32 0x7f7fffff) ∷ (of_bits binary32 0x41200000) ∷ (of_bits binary32 0xc1380000) ∷ (of_bits binary32 0x41ca0000) ∷ (of_bits binary32 0x421c0000) ∷ (of_bits binary32 0x0) ∷ []) ∷
    learnt (record { written = true; anomaly = some (record { past_timestamp = 117; likelihood = (of_bits binary32 0x3f800000) }); deviations_out = ((of_bits binary32 0x41c16966) ∷ (of_bits binary32 0x4091cb2b) ∷ (of_bits binary32 0x431760e3) ∷ (of_bits binary32 0x0) ∷ []); past_out = ((of_bits binary32 0x41aa0000) ∷ (of_bits binary32 0x42820000) ∷ []); expected_out = ((of_bits binary32 0x423f0000) ∷ (of_bits binary32 0x421d0000) ∷ []) }) ∷
    refused 28 ∷
    wrote ((of_bits binary32 0x42604000) ∷ (of_bits binary32 0x42548000) ∷ (of_bits binary32 0xc2a72000) ∷ (of_bits binary32 0x3fc7bc86) ∷ (of_bits binary32 0xc0044107) ∷ (of_bits binary32 0x4025c071) ∷ (of_bits binary32 0x0) ∷ []) ∷
    turned (record { forecast = (ranges ((of_bits binary32 0x42ed2000) ∷ (of_bits binary32 0x45033ce6) ∷ (of_bits binary32 0x4225c000) ∷ (of_bits binary32 0x7f61b1e6) ∷ (of_bits binary32 0x41f80000) ∷ (of_bits binary32 0xc0e00000) ∷ []) ((of_bits binary32 0x42f32000) ∷ (of_bits binary32 0x45033ce6) ∷ (of_bits binary32 0x4239c000) ∷ (of_bits binary32 0x7f61b1e6) ∷ (of_bits binary32 0x42100000) ∷ (of_bits binary32 0xc0400000) ∷ []) ((of_bits binary32 0x42e72000) ∷ (of_bits binary32 0x45032ce6) ∷ (of_bits binary32 0x4225c000) ∷ (of_bits binary32 0x7f61b1e6) ∷ (of_bits binary32 0x41f80000) ∷ (of_bits binary32 0xc1300000) ∷ [])); values_out = (ranges ((of_bits binary32 0x4497de1d) ∷ (of_bits binary32 0x46882ded) ∷ (of_bits binary32 0x43ea4296) ∷ (of_bits binary32 0x7f800000) ∷ []) ((of_bits binary32 0x449b9ac4) ∷ (of_bits binary32 0x46882ded) ∷ (of_bits binary32 0x44019623) ∷ (of_bits binary32 0x7f800000) ∷ (of_bits binary32 0x0) ∷ []) ((of_bits binary32 0x44942176) ∷ (of_bits binary32 0x46881d60) ∷ (of_bits binary32 0x43ea4296) ∷ (of_bits binary32 0x7f800000) ∷ [])); times_out = (ranges ((of_bits binary64 0x407c62ea240b901e) ∷ []) ((of_bits binary64 0x407fa4eedf894c87) ∷ []) ((of_bits binary64 0x407c62ea240b901e) ∷ (of_bits binary64 0x0) ∷ (of_bits binary64 0x0) ∷ [])) }) ∷
    wrote ((of_bits binary32 0x411f712f) ∷ (of_bits binary32 0x41046656) ∷ (of_bits binary32 0x4126cdc0) ∷ []) ∷
    wrote ((of_bits binary32 0x4205cccd) ∷ (of_bits binary32 0x425c6666) ∷ (of_bits binary32 0x43030000) ∷ []) ∷
    told (record { values_seen = 4; internal_timestamp = 2; ready = true; input_dimensions = 2; shingle_size = 2; dimensions = 6; method = NORMALIZE; mode = GAP_AUGMENTED; start = 2; panel = 2; deviations_out = ((of_bits binary32 0x41c16966) ∷ (of_bits binary32 0x4091cb2b) ∷ (of_bits binary32 0x431760e3) ∷ []) }) ∷ [])
unfolding trace_all
answers2 = refl

abbrev s3 : Settings
s3 = record { mode = GAP_AUGMENTED; method = WEIGHTED; d = 1; k = 1; start = 0; stop = 1000; decay = (of_bits binary64 0x3fd0000000000000); weight_time = (of_bits binary32 0xc0000000); weights = ((of_bits binary32 0x3f000000) ∷ []); codes = (60076 ∷ []) }

abbrev c3 : List Call
c3 = (
    transform ((of_bits binary32 0x424f0000) ∷ []) 103 (replicate 2 (of_bits binary32 0)) ∷
    post_process (record { input = ((of_bits binary32 0x423d0000) ∷ []); timestamp = 110; rcf_point = (some ((of_bits binary32 0x40a00000) ∷ (of_bits binary32 0xc4537163) ∷ [])); expected_point = none; grade = (of_bits binary32 0x0); relative_index = (pos 0); deviations_out = (replicate 3 (of_bits binary32 0)); past_out = (replicate 1 (of_bits binary32 0)); expected_out = (replicate 1 (of_bits binary32 0)) }) ∷
    transform ((of_bits binary32 0x41d60000) ∷ []) 109 (replicate 2 (of_bits binary32 0)) ∷
    transform ((of_bits binary32 0x42930000) ∷ []) 113 (replicate 2 (of_bits binary32 0)) ∷
    post_process (record { input = ((of_bits binary32 0x429f0000) ∷ []); timestamp = 117; rcf_point = (some ((of_bits binary32 0xe0ad78ec) ∷ (of_bits binary32 0x1e3ce508) ∷ [])); expected_point = none; grade = (of_bits binary32 0x0); relative_index = (pos 0); deviations_out = (replicate 3 (of_bits binary32 0)); past_out = (replicate 1 (of_bits binary32 0)); expected_out = (replicate 1 (of_bits binary32 0)) }) ∷
    shingled_point ((of_bits binary32 0x420f0000) ∷ []) 117 (replicate 3 (of_bits binary32 0)) ∷
    shingled_point ((of_bits binary32 0x41f00000) ∷ []) 130 (replicate 3 (of_bits binary32 0)) ∷
    post_process (record { input = ((of_bits binary32 0x415c0000) ∷ []); timestamp = 131; rcf_point = (some ((of_bits binary32 0x454257f8) ∷ (of_bits binary32 0xc0a00000) ∷ [])); expected_point = none; grade = (of_bits binary32 0x0); relative_index = (pos 0); deviations_out = (replicate 3 (of_bits binary32 0)); past_out = (replicate 1 (of_bits binary32 0)); expected_out = (replicate 1 (of_bits binary32 0)) }) ∷
    shingled_point ((of_bits binary32 0x42280000) ∷ []) 130 (replicate 3 (of_bits binary32 0)) ∷
    shingled_point ((of_bits binary32 0x427e0000) ∷ []) 158 (replicate 3 (of_bits binary32 0)) ∷
    invert_extrapolation (record { forecast = ranges ((of_bits binary32 0x424d4000) ∷ (of_bits binary32 0xff7fffff) ∷ []) ((of_bits binary32 0x42614000) ∷ (of_bits binary32 0xff7fffff) ∷ []) ((of_bits binary32 0x42394000) ∷ (of_bits binary32 0xff7fffff) ∷ []); values_out = (ranges (replicate 1 (of_bits binary32 0)) (replicate 2 (of_bits binary32 0)) (replicate 1 (of_bits binary32 0))); times_out = (ranges (replicate 1 (of_bits binary32 0)) (replicate 1 (of_bits binary32 0)) (replicate 3 (of_bits binary32 0))) }) ∷
    scale (replicate 2 (of_bits binary32 0)) ∷
    shift (replicate 2 (of_bits binary32 0)) ∷
    status (replicate 2 (of_bits binary32 0)) ∷ [])

abbrev t3 : List ℕ
t3 = text (
    "set\tG\t1\t1\t1\t0\t1000\t3fd0000000000000\tc0000000" ∷
    "wgt\t3f000000" ∷
    "chn\t60076" ∷
    "cnt\t3\t3\t3" ∷
    "dev\t4002000000000000\t4058400000000000\t40b79d8800000000" ∷
    "dev\t4002000000000000\tc031f00000000000\t40b84b6400000000" ∷
    "dev\t4002000000000000\t404450aadabe58e8\t408fbc5e7797d485" ∷
    "dev\t4002000000000000\t40462b8e38e38e39\t40a1ca44d6e9e065" ∷
    "dev\t4002000000000000\t404cbd49d498387e\t40a56a3c0ca4587e" ∷
    "dev\t4002000000000000\t40711c0000000000\t40e058b800000000" ∷
    "dev\t4002000000000000\t4052900000000000\t40b88ac000000001" ∷
    "dev\t4002000000000000\t40269ae1090378cc\t405542b3c4d5e63f" ∷
    "dev\t4002000000000000\t405f09999999999a\t40c158b70a3d70a4" ∷
    "dev\t4002000000000000\t4053c76dc85088ac\t40ac39e81b4e81b8" ∷
    "inp\t415c0000" ∷
    "pnt\t454257f8\tc0a00000" ∷
    "tim\t131" ∷ [])

run3 : render (run (fresh s3) c3) ≡ t3
unfolding trace_all
run3 = refl

history3 : history_text s3 c3 ≡ t3
unfolding trace_all
history3 = refl

answers3 : answers (fresh s3) c3 ≡ (
    wrote ((of_bits binary32 0x41cf0000) ∷ (of_bits binary32 0x80000000) ∷ []) ∷
    learnt (record { written = true; anomaly = none; deviations_out = ((of_bits binary32 0x0) ∷ (of_bits binary32 0x80000000) ∷ (of_bits binary32 0x0) ∷ []); past_out = ((of_bits binary32 0x0) ∷ []); expected_out = ((of_bits binary32 0x0) ∷ []) }) ∷
    refused 28 ∷
    wrote ((of_bits binary32 0x42130000) ∷ (of_bits binary32 0xc0c00000) ∷ []) ∷
    learnt (record { written = true; anomaly = none; deviations_out = ((of_bits binary32 0x408d1732) ∷ (of_bits binary32 0xc2c9d684) ∷ (of_bits binary32 0x0) ∷ []); past_out = ((of_bits binary32 0x0) ∷ []); expected_out = ((of_bits binary32 0x0) ∷ []) }) ∷
    wrote ((of_bits binary32 0x418f0000) ∷ (of_bits binary32 0x80000000) ∷ (of_bits binary32 0x0) ∷ []) ∷
    wrote ((of_bits binary32 0x41700000) ∷ (of_bits binary32 0xbf54d129) ∷ (of_bits binary32 0x0) ∷ []) ∷
    learnt (record { written = true; anomaly = none; deviations_out = ((of_bits binary32 0x41cc5e7f) ∷ (of_bits binary32 0xc2a515f9) ∷ (of_bits binary32 0x0) ∷ []); past_out = ((of_bits binary32 0x0) ∷ []); expected_out = ((of_bits binary32 0x0) ∷ []) }) ∷
    refused 28 ∷
    wrote ((of_bits binary32 0x41fe0000) ∷ (of_bits binary32 0xbfbf22dc) ∷ (of_bits binary32 0x0) ∷ []) ∷
    turned (record { forecast = (ranges ((of_bits binary32 0x424d4000) ∷ (of_bits binary32 0xff7fffff) ∷ []) ((of_bits binary32 0x42614000) ∷ (of_bits binary32 0xff7fffff) ∷ []) ((of_bits binary32 0x42394000) ∷ (of_bits binary32 0xff7fffff) ∷ [])); values_out = (ranges ((of_bits binary32 0x42cd4000) ∷ []) ((of_bits binary32 0x42e14000) ∷ (of_bits binary32 0x0) ∷ []) ((of_bits binary32 0x42b94000) ∷ [])); times_out = (ranges ((of_bits binary64 0x483214d34aa489ae) ∷ []) ((of_bits binary64 0x483214d34aa489ae) ∷ []) ((of_bits binary64 0x483214d34aa489ae) ∷ (of_bits binary64 0x0) ∷ (of_bits binary64 0x0) ∷ [])) }) ∷
    wrote ((of_bits binary32 0x3f000000) ∷ (of_bits binary32 0xc190a69b) ∷ []) ∷
    wrote ((of_bits binary32 0x0) ∷ (of_bits binary32 0x43030000) ∷ []) ∷
    told (record { values_seen = 3; internal_timestamp = 3; ready = true; input_dimensions = 1; shingle_size = 1; dimensions = 2; method = WEIGHTED; mode = GAP_AUGMENTED; start = 0; panel = 3; deviations_out = ((of_bits binary32 0x41cc5e7f) ∷ (of_bits binary32 0xc2a515f9) ∷ []) }) ∷ [])
unfolding trace_all
answers3 = refl

abbrev s4 : Settings
s4 = record { mode = GAP_AUGMENTED; method = DIFFERENCE; d = 1; k = 2; start = 0; stop = 1000; decay = (of_bits binary64 0x3f847ae147ae147b); weight_time = (of_bits binary32 0x3dcccccd); weights = ((of_bits binary32 0x3f800000) ∷ []); codes = (0 ∷ []) }

abbrev c4 : List Call
c4 = (
    transform ((of_bits binary32 0xc1600000) ∷ []) 18446744073709551558 (replicate 2 (of_bits binary32 0)) ∷
    post_process (record { input = ((of_bits binary32 0x42390000) ∷ []); timestamp = 18446744073709551565; rcf_point = (some ((of_bits binary32 0x3f800000) ∷ (of_bits binary32 0xff7fffff) ∷ (of_bits binary32 0xff61b1e6) ∷ (of_bits binary32 0x42100000) ∷ [])); expected_point = none; grade = (of_bits binary32 0x0); relative_index = (pos 0); deviations_out = (replicate 3 (of_bits binary32 0)); past_out = (replicate 1 (of_bits binary32 0)); expected_out = (replicate 1 (of_bits binary32 0)) }) ∷
    transform ((of_bits binary32 0x41fa0000) ∷ []) 18446744073709551564 (replicate 2 (of_bits binary32 0)) ∷
    transform ((of_bits binary32 0x42970000) ∷ []) 18446744073709551568 (replicate 2 (of_bits binary32 0)) ∷
    post_process (record { input = ((of_bits binary32 0x42848000) ∷ []); timestamp = 18446744073709551572; rcf_point = (some ((of_bits binary32 0x3dcccccd) ∷ (of_bits binary32 0xff61b1e6) ∷ (of_bits binary32 0x116c2) ∷ (of_bits binary32 0xc2b58000) ∷ [])); expected_point = (some ((of_bits binary32 0x40a00000) ∷ (of_bits binary32 0x4652d06b) ∷ (of_bits binary32 0x7f7fffff) ∷ (of_bits binary32 0x80000001) ∷ [])); grade = (of_bits binary32 0x3f800000); relative_index = (negsuc 0); deviations_out = (replicate 3 (of_bits binary32 0)); past_out = (replicate 1 (of_bits binary32 0)); expected_out = (replicate 1 (of_bits binary32 0)) }) ∷
    shingled_point ((of_bits binary32 0x41d40000) ∷ []) 18446744073709551572 (replicate 5 (of_bits binary32 0)) ∷
    shingled_point ((of_bits binary32 0xc11c0000) ∷ []) 18446744073709551585 (replicate 5 (of_bits binary32 0)) ∷
    post_process (record { input = ((of_bits binary32 0xbf400000) ∷ []); timestamp = 18446744073709551586; rcf_point = (some ((of_bits binary32 0x116c2) ∷ (of_bits binary32 0xc0a00000) ∷ (of_bits binary32 0x1e3ce508) ∷ (of_bits binary32 0x0) ∷ [])); expected_point = none; grade = (of_bits binary32 0x0); relative_index = (pos 0); deviations_out = (replicate 3 (of_bits binary32 0)); past_out = (replicate 1 (of_bits binary32 0)); expected_out = (replicate 1 (of_bits binary32 0)) }) ∷
    shingled_point ((of_bits binary32 0x42200000) ∷ []) 18446744073709551585 (replicate 5 (of_bits binary32 0)) ∷
    shingled_point ((of_bits binary32 0x42590000) ∷ []) 18446744073709551613 (replicate 5 (of_bits binary32 0)) ∷
    invert_extrapolation (record { forecast = ranges ((of_bits binary32 0xc1200000) ∷ (of_bits binary32 0x3dcccccd) ∷ (of_bits binary32 0x7f7fffff) ∷ (of_bits binary32 0x40400000) ∷ []) ((of_bits binary32 0xc0a00000) ∷ (of_bits binary32 0x40466666) ∷ (of_bits binary32 0x7f7fffff) ∷ (of_bits binary32 0x41000000) ∷ []) ((of_bits binary32 0xc1400000) ∷ (of_bits binary32 0xbff33333) ∷ (of_bits binary32 0x7f7fffff) ∷ (of_bits binary32 0x40400000) ∷ []); values_out = (ranges (replicate 2 (of_bits binary32 0)) (replicate 3 (of_bits binary32 0)) (replicate 2 (of_bits binary32 0))); times_out = (ranges (replicate 1 (of_bits binary32 0)) (replicate 1 (of_bits binary32 0)) (replicate 3 (of_bits binary32 0))) }) ∷
    scale (replicate 2 (of_bits binary32 0)) ∷
    shift (replicate 2 (of_bits binary32 0)) ∷
    status (replicate 2 (of_bits binary32 0)) ∷ [])

abbrev t4 : List ℕ
t4 = text (
    "set\tG\t2\t1\t2\t0\t1000\t3f847ae147ae147b\t3dcccccd" ∷
    "wgt\t3f800000" ∷
    "chn\t0" ∷
    "cnt\t3\t3\t3" ∷
    "dev\t4002000000000000\t4052040000000000\t40b109e400000000" ∷
    "dev\t4002000000000000\tc03ce00000000000\t40b6e28800000000" ∷
    "dev\t4002000000000000\t4042c7e5e3d6b849\t408ec6b74f032915" ∷
    "dev\t4002000000000000\t4040955555555555\t409e2fa71c71c71e" ∷
    "dev\t4002000000000000\t404d841b4c2fc796\t40a40641c71c71c7" ∷
    "dev\t4002000000000000\t4402000000000000\t4802000000000000" ∷
    "dev\t4002000000000000\t43e0000000000000\t47e0000000000000" ∷
    "dev\t4002000000000000\t0000000000000000\t0000000000000000" ∷
    "dev\t4002000000000000\t43f05b05b05b05b1\t47e56b954d3e1276" ∷
    "dev\t4002000000000000\t43e90fac35e42a59\t47d694ec26eff1d8" ∷
    "inp\t42848000\tbf400000" ∷
    "pnt\t000116c2\tc0a00000\t1e3ce508\t00000000" ∷
    "tim\t18446744073709551572\t18446744073709551586" ∷ [])

run4 : render (run (fresh s4) c4) ≡ t4
unfolding trace_all
run4 = refl

history4 : history_text s4 c4 ≡ t4
unfolding trace_all
history4 = refl

answers4 : answers (fresh s4) c4 ≡ (
    wrote ((of_bits binary32 0xc1600000) ∷ (of_bits binary32 0x0) ∷ []) ∷
    learnt (record { written = true; anomaly = none; deviations_out = ((of_bits binary32 0x0) ∷ (of_bits binary32 0x0) ∷ (of_bits binary32 0x0) ∷ []); past_out = ((of_bits binary32 0x0) ∷ []); expected_out = ((of_bits binary32 0x0) ∷ []) }) ∷
    refused 28 ∷
    wrote ((of_bits binary32 0x41ea0000) ∷ (of_bits binary32 0x3e99999a) ∷ []) ∷
    learnt (record { written = true; anomaly = some (record { past_timestamp = 0; likelihood = (of_bits binary32 0x3f800000) }); deviations_out = ((of_bits binary32 0x40f6e898) ∷ (of_bits binary32 0x5d48a986) ∷ (of_bits binary32 0x0) ∷ []); past_out = ((of_bits binary32 0x42390000) ∷ []); expected_out = ((of_bits binary32 0x40a00000) ∷ []) }) ∷
    wrote ((of_bits binary32 0x116c2) ∷ (of_bits binary32 0xc2b58000) ∷ (of_bits binary32 0xc21f0000) ∷ (of_bits binary32 0x0) ∷ (of_bits binary32 0x0) ∷ []) ∷
    wrote ((of_bits binary32 0x116c2) ∷ (of_bits binary32 0xc2b58000) ∷ (of_bits binary32 0xc2980000) ∷ (of_bits binary32 0x208d86ad) ∷ (of_bits binary32 0x0) ∷ []) ∷
    learnt (record { written = true; anomaly = none; deviations_out = ((of_bits binary32 0x41d1e450) ∷ (of_bits binary32 0x5d2a4978) ∷ (of_bits binary32 0x0) ∷ []); past_out = ((of_bits binary32 0x0) ∷ []); expected_out = ((of_bits binary32 0x0) ∷ []) }) ∷
    refused 28 ∷
    wrote ((of_bits binary32 0x1e3ce508) ∷ (of_bits binary32 0x0) ∷ (of_bits binary32 0x425c0000) ∷ (of_bits binary32 0x20f83961) ∷ (of_bits binary32 0x0) ∷ []) ∷
    turned (record { forecast = (ranges ((of_bits binary32 0xc1200000) ∷ (of_bits binary32 0x3dcccccd) ∷ (of_bits binary32 0x7f7fffff) ∷ (of_bits binary32 0x40400000) ∷ []) ((of_bits binary32 0xc0a00000) ∷ (of_bits binary32 0x40466666) ∷ (of_bits binary32 0x7f7fffff) ∷ (of_bits binary32 0x41000000) ∷ []) ((of_bits binary32 0xc1400000) ∷ (of_bits binary32 0xbff33333) ∷ (of_bits binary32 0x7f7fffff) ∷ (of_bits binary32 0x40400000) ∷ [])); values_out = (ranges ((of_bits binary32 0xc12c0000) ∷ (of_bits binary32 0x4082e75a) ∷ []) ((of_bits binary32 0xc0b80000) ∷ (of_bits binary32 0x40e2e758) ∷ (of_bits binary32 0x0) ∷ []) ((of_bits binary32 0xc14c0000) ∷ (of_bits binary32 0x4005ceb4) ∷ [])); times_out = (ranges ((of_bits binary64 0x4c0bd88651f5f8cb) ∷ []) ((of_bits binary64 0x4c0bd88651f5f8cb) ∷ []) ((of_bits binary64 0x4c0bd88651f5f8cb) ∷ (of_bits binary64 0x0) ∷ (of_bits binary64 0x0) ∷ [])) }) ∷
    wrote ((of_bits binary32 0x3f800000) ∷ (of_bits binary32 0x605ec434) ∷ []) ∷
    wrote ((of_bits binary32 0x0) ∷ (of_bits binary32 0x5f800000) ∷ []) ∷
    told (record { values_seen = 3; internal_timestamp = 3; ready = true; input_dimensions = 1; shingle_size = 2; dimensions = 4; method = DIFFERENCE; mode = GAP_AUGMENTED; start = 0; panel = 3; deviations_out = ((of_bits binary32 0x41d1e450) ∷ (of_bits binary32 0x5d2a4978) ∷ []) }) ∷ [])
unfolding trace_all
answers4 = refl

abbrev s5 : Settings
s5 = record { mode = GAP_AUGMENTED; method = SUBTRACT_MA; d = 1; k = 2; start = 0; stop = 1; decay = (of_bits binary64 0x0); weight_time = (of_bits binary32 0x0); weights = ((of_bits binary32 0x3f800000) ∷ []); codes = (22700 ∷ []) }

abbrev c5 : List Call
c5 = (
    transform ((of_bits binary32 0x41680000) ∷ []) 103 (replicate 2 (of_bits binary32 0)) ∷
    post_process (record { input = ((of_bits binary32 0x41960000) ∷ []); timestamp = 110; rcf_point = (some ((of_bits binary32 0xc18e8000) ∷ (of_bits binary32 0xc1200000) ∷ (of_bits binary32 0x1) ∷ (of_bits binary32 0x42d30000) ∷ [])); expected_point = none; grade = (of_bits binary32 0x0); relative_index = (negsuc 0); deviations_out = (replicate 3 (of_bits binary32 0)); past_out = (replicate 1 (of_bits binary32 0)); expected_out = (replicate 1 (of_bits binary32 0)) }) ∷
    transform ((of_bits binary32 0x42230000) ∷ []) 109 (replicate 2 (of_bits binary32 0)) ∷
    transform ((of_bits binary32 0x428a0000) ∷ []) 113 (replicate 2 (of_bits binary32 0)) ∷
    post_process (record { input = ((of_bits binary32 0xc0b80000) ∷ []); timestamp = 117; rcf_point = (some ((of_bits binary32 0x461a4f0d) ∷ (of_bits binary32 0xc0000000) ∷ (of_bits binary32 0x3227b0fa) ∷ (of_bits binary32 0x40a00000) ∷ [])); expected_point = (some ((of_bits binary32 0x800000) ∷ (of_bits binary32 0x7f61b1e6) ∷ (of_bits binary32 0xc0800000) ∷ (of_bits binary32 0x461559f6) ∷ [])); grade = (of_bits binary32 0x3f800000); relative_index = (pos 0); deviations_out = (replicate 3 (of_bits binary32 0)); past_out = (replicate 1 (of_bits binary32 0)); expected_out = (replicate 1 (of_bits binary32 0)) }) ∷
    shingled_point ((of_bits binary32 0xc1600000) ∷ []) 117 (replicate 5 (of_bits binary32 0)) ∷
    shingled_point ((of_bits binary32 0x41080000) ∷ []) 130 (replicate 5 (of_bits binary32 0)) ∷
    post_process (record { input = ((of_bits binary32 0x42950000) ∷ []); timestamp = 131; rcf_point = (some ((of_bits binary32 0x7f61b1e6) ∷ (of_bits binary32 0x417e0000) ∷ (of_bits binary32 0xc1100000) ∷ (of_bits binary32 0x80000000) ∷ [])); expected_point = none; grade = (of_bits binary32 0x0); relative_index = (negsuc 0); deviations_out = (replicate 3 (of_bits binary32 0)); past_out = (replicate 1 (of_bits binary32 0)); expected_out = (replicate 1 (of_bits binary32 0)) }) ∷
    shingled_point ((of_bits binary32 0x419e0000) ∷ []) 130 (replicate 5 (of_bits binary32 0)) ∷
    shingled_point ((of_bits binary32 0xc1300000) ∷ []) 158 (replicate 5 (of_bits binary32 0)) ∷
    invert_extrapolation (record { forecast = ranges ((of_bits binary32 0xff7fffff) ∷ (of_bits binary32 0x800000) ∷ (of_bits binary32 0x0) ∷ (of_bits binary32 0x7f7fffff) ∷ []) ((of_bits binary32 0xff7fffff) ∷ (of_bits binary32 0x40400000) ∷ (of_bits binary32 0x40000000) ∷ (of_bits binary32 0x7f7fffff) ∷ []) ((of_bits binary32 0xff7fffff) ∷ (of_bits binary32 0xc0400000) ∷ (of_bits binary32 0x0) ∷ (of_bits binary32 0x7f7fffff) ∷ []); values_out = (ranges (replicate 2 (of_bits binary32 0)) (replicate 3 (of_bits binary32 0)) (replicate 2 (of_bits binary32 0))); times_out = (ranges (replicate 1 (of_bits binary32 0)) (replicate 1 (of_bits binary32 0)) (replicate 3 (of_bits binary32 0))) }) ∷
    scale (replicate 2 (of_bits binary32 0)) ∷
    shift (replicate 2 (of_bits binary32 0)) ∷
    status (replicate 2 (of_bits binary32 0)) ∷ [])

abbrev t5 : List ℕ
t5 = text (
    "set\tG\t3\t1\t2\t0\t1\t0000000000000000\t00000000" ∷
    "wgt\t3f800000" ∷
    "chn\t22700" ∷
    "cnt\t3\t3\t1" ∷
    "dev\t3ff0000000000000\t4032c00000000000\t4075f90000000000" ∷
    "dev\t3ff0000000000000\t4032c00000000000\t4075f90000000000" ∷
    "dev\t3ff0000000000000\t0000000000000000\t0000000000000000" ∷
    "dev\t3ff0000000000000\t4032c00000000000\t4075f90000000000" ∷
    "dev\t3ff0000000000000\t0000000000000000\t0000000000000000" ∷
    "dev\t3ff0000000000000\t405b800000000000\t40c7a20000000000" ∷
    "dev\t3ff0000000000000\t405b800000000000\t40c7a20000000000" ∷
    "dev\t3ff0000000000000\t0000000000000000\t0000000000000000" ∷
    "dev\t3ff0000000000000\t405b800000000000\t40c7a20000000000" ∷
    "dev\t3ff0000000000000\t0000000000000000\t0000000000000000" ∷
    "inp\tc0b80000\t42950000" ∷
    "pnt\t7f61b1e6\t417e0000\tc1100000\t80000000" ∷
    "tim\t117\t131" ∷ [])

run5 : render (run (fresh s5) c5) ≡ t5
unfolding trace_all
run5 = refl

history5 : history_text s5 c5 ≡ t5
unfolding trace_all
history5 = refl

answers5 : answers (fresh s5) c5 ≡ (
    wrote ((of_bits binary32 0x41680000) ∷ (of_bits binary32 0x0) ∷ []) ∷
    learnt (record { written = true; anomaly = none; deviations_out = ((of_bits binary32 0x0) ∷ (of_bits binary32 0x0) ∷ (of_bits binary32 0x0) ∷ []); past_out = ((of_bits binary32 0x0) ∷ []); expected_out = ((of_bits binary32 0x0) ∷ []) }) ∷
    refused 28 ∷
    wrote ((of_bits binary32 0x42490000) ∷ (of_bits binary32 0x0) ∷ []) ∷
    learnt (record { written = true; anomaly = some (record { past_timestamp = 110; likelihood = (of_bits binary32 0x3f800000) }); deviations_out = ((of_bits binary32 0x0) ∷ (of_bits binary32 0x0) ∷ (of_bits binary32 0x0) ∷ []); past_out = ((of_bits binary32 0xc0b80000) ∷ []); expected_out = ((of_bits binary32 0x7f61b1e6) ∷ []) }) ∷
    wrote ((of_bits binary32 0x3227b0fa) ∷ (of_bits binary32 0x40a00000) ∷ (of_bits binary32 0xc2030000) ∷ (of_bits binary32 0x0) ∷ (of_bits binary32 0x0) ∷ []) ∷
    wrote ((of_bits binary32 0x3227b0fa) ∷ (of_bits binary32 0x40a00000) ∷ (of_bits binary32 0xc1240000) ∷ (of_bits binary32 0x0) ∷ (of_bits binary32 0x0) ∷ []) ∷
    learnt (record { written = true; anomaly = none; deviations_out = ((of_bits binary32 0x0) ∷ (of_bits binary32 0x0) ∷ (of_bits binary32 0x0) ∷ []); past_out = ((of_bits binary32 0x0) ∷ []); expected_out = ((of_bits binary32 0x0) ∷ []) }) ∷
    refused 28 ∷
    wrote ((of_bits binary32 0xc1100000) ∷ (of_bits binary32 0x80000000) ∷ (of_bits binary32 0xc1ee0000) ∷ (of_bits binary32 0x0) ∷ (of_bits binary32 0x0) ∷ []) ∷
    turned (record { forecast = (ranges ((of_bits binary32 0xff7fffff) ∷ (of_bits binary32 0x800000) ∷ (of_bits binary32 0x0) ∷ (of_bits binary32 0x7f7fffff) ∷ []) ((of_bits binary32 0xff7fffff) ∷ (of_bits binary32 0x40400000) ∷ (of_bits binary32 0x40000000) ∷ (of_bits binary32 0x7f7fffff) ∷ []) ((of_bits binary32 0xff7fffff) ∷ (of_bits binary32 0xc0400000) ∷ (of_bits binary32 0x0) ∷ (of_bits binary32 0x7f7fffff) ∷ [])); values_out = (ranges ((of_bits binary32 0xff7fffff) ∷ (of_bits binary32 0x42160000) ∷ []) ((of_bits binary32 0xff7fffff) ∷ (of_bits binary32 0x42220000) ∷ (of_bits binary32 0x0) ∷ []) ((of_bits binary32 0xff7fffff) ∷ (of_bits binary32 0x420a0000) ∷ [])); times_out = (ranges ((of_bits binary64 0x4060600000000000) ∷ []) ((of_bits binary64 0x4060600000000000) ∷ []) ((of_bits binary64 0x4060600000000000) ∷ (of_bits binary64 0x0) ∷ (of_bits binary64 0x0) ∷ [])) }) ∷
    wrote ((of_bits binary32 0x3f800000) ∷ (of_bits binary32 0x0) ∷ []) ∷
    wrote ((of_bits binary32 0x41960000) ∷ (of_bits binary32 0x43030000) ∷ []) ∷
    told (record { values_seen = 3; internal_timestamp = 3; ready = true; input_dimensions = 1; shingle_size = 2; dimensions = 4; method = SUBTRACT_MA; mode = GAP_AUGMENTED; start = 0; panel = 1; deviations_out = ((of_bits binary32 0x0) ∷ (of_bits binary32 0x0) ∷ []) }) ∷ [])
unfolding trace_all
answers5 = refl
