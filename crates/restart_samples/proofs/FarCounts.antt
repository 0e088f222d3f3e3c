-- Texts whose count is around the Rust's last one or around the limit (document 02, #101), taken up, fed and put away; as the oracle has it
-- (traces SEED COUNT far: the Rust, and past its counts the written rule), computed by the definitions.
use Prim.Native.Nat.{ℕ}
use mathlib.Core.Path.{◌≡◌, refl}
use mathlib.Core.Bool.{true, false}
use mathlib.Core.List.{List, [], ◌∷◌}
use mathlib.Core.Option.{none, some}
use lib.IntN.{pos, negsuc}
use lib.ListN.{replicate}
use lib.Ieee.{Float, nan, binary32, binary64, of_bits}
use lib.Ieee as Ieee
use Rattle.numeric.specs.Narrow as Narrow
use Rattle.numeric.specs.Root as Root
use Rattle.common.specs.Deviation as Deviation
use Rattle.refusal.specs.Lent as Lent
use Rattle.ranges.specs.RangeVector as RangeVector
use Rattle.ranges.specs.RangeVector.{ranges}
use Rattle.trcf.specs.Lists as Lists
use Rattle.trcf.specs.Settings as Settings
use Rattle.trcf.specs.Calls as Calls
use Rattle.trcf.specs.Transformer as Transformer
use Rattle.trcf.specs.Preprocessor as Preprocessor
use Rattle.trcf.specs.Settings.{Settings}
use Rattle.trcf.specs.Calls.{Learn, Forecast, Call, shingled_point, post_process, drain, transform, invert_extrapolation, scale, shift, status}
use Rattle.trcf.specs.Preprocessor.{fresh, run, answers, Answer, refused, absent, done, wrote, learnt, turned, told, Learned, Status}
use Rattle.trcf.specs.declared.head.Anomaly.{Anomaly}
use Rattle.trcf.specs.declared.types.TransformMethod.TheVariants.{NONE, WEIGHTED, DIFFERENCE, SUBTRACT_MA, NORMALIZE, NORMALIZE_DIFFERENCE}
use Rattle.trcf.specs.declared.types.ForestMode.TheVariants.{STANDARD, TIME_AUGMENTED}
use Rattle.snapshot.specs.Text as Text
use Rattle.snapshot.specs.Text.{render}
use Rattle.snapshot.specs.Ascii.{text}
use Rattle.restart.specs.Statistics as Statistics
use Rattle.restart.specs.History as History
use Rattle.restart.specs.History.{history_text}
use Rattle.snapshot.specs.Read as Read
use Rattle.snapshot.specs.Read.{Read, taken, bad, read}

-- the text after the calls, of what was taken up
abbrev away : Read → List Call → List ℕ
away (taken w) cs = render (run w cs)
away (bad n) cs = []

abbrev answered : Read → List Call → List Answer
answered (taken w) cs = answers w cs
answered (bad n) cs = []

-- to unfold this is to unfold whatever its line names
trace_all : Unit {0}
unfolding Ieee.span Ieee.climb Ieee.size Ieee.odd Ieee.units Ieee.round Ieee.neg Ieee.sum Ieee.add Ieee.sub Ieee.mul Ieee.div Ieee.lt Ieee.eq Ieee.le Ieee.ne Ieee.of_int Ieee.fits Ieee.of_fields Ieee.of_bits Ieee.to_bits Narrow.narrowed Root.root_within Root.halves Root.rooted Root.root_of Deviation.outside_unit Deviation.deviation_new Deviation.deviation_create Deviation.factor_of Deviation.step_of Deviation.deviation_update Deviation.is_empty Deviation.mean_of Deviation.root_above Deviation.deviation_of Deviation.deviation_set_count Lent.over RangeVector.settled RangeVector.shifted RangeVector.scaled RangeVector.range_at RangeVector.put_at RangeVector.past_any RangeVector.range_shift RangeVector.range_scale RangeVector.cascade_to RangeVector.unequal RangeVector.unblocked RangeVector.range_cascaded_add RangeVector.shorter RangeVector.range_new RangeVector.range_from RangeVector.in_order RangeVector.range_create Lists.last_n Lists.shift_in Lists.overwrite Settings.block Settings.dimension Settings.waiting Settings.all_one Settings.settings_row Calls.finite Calls.due Calls.newest Calls.wrong_length Calls.outside Calls.drain_full Calls.learn_full Calls.lookahead Calls.forecast_unfit Calls.forecast_output_short Calls.waiting_short Calls.learn_short Calls.table Calls.rows Transformer.statistic_at Transformer.put_statistic Transformer.fed Transformer.deviations_at Transformer.put_deviations Transformer.fed_at Transformer.channels_fed Transformer.updated Transformer.normalized_scale Transformer.basic_shift Transformer.basic_drift Transformer.weight_at Transformer.transformed Transformer.unweighted Transformer.inverted Transformer.reciprocal Transformer.forecast_at Transformer.forecast_to Transformer.inverted_forecast Transformer.scales Transformer.shifts Transformer.difference_deviations Preprocessor.fresh Preprocessor.facts Preprocessor.refusal Preprocessor.time_fed Preprocessor.feed Preprocessor.timescale Preprocessor.timedrift Preprocessor.time_element Preprocessor.transformed_after Preprocessor.previous Preprocessor.primed Preprocessor.drain_one Preprocessor.drain_all Preprocessor.drained Preprocessor.buffered Preprocessor.learned Preprocessor.learned_with Preprocessor.change Preprocessor.next Preprocessor.deviations Preprocessor.scale_of Preprocessor.shift_of Preprocessor.point_of Preprocessor.invert_time Preprocessor.numbers_of Preprocessor.times_of Preprocessor.block_from Preprocessor.past_values Preprocessor.expected_values Preprocessor.anomaly_of Preprocessor.learned_nothing Preprocessor.buffered_answer Preprocessor.learned_answer Preprocessor.learn_answer Preprocessor.turned_back Preprocessor.status_of Preprocessor.reply Preprocessor.answer Text.whole Text.float Text.set_line Text.singles Text.chn_line Text.cnt_line Text.dev_line Text.tim_line Text.buf_line Text.body_lines Text.lines_by Text.render Statistics.statistics_from History.seen_of History.internal_of History.buffer_of History.shingled History.inputs_of History.timestamps_of History.newest_reading History.count_of History.statistics_of History.history_state History.history_facts History.history_refusal History.complete History.adds History.enter History.entries History.history_text History.history_answer Read.float_from Read.judge Read.as_whole Read.as_float Read.may_stand Read.read Read.carries Read.with_channel_line Calls.before_newest Preprocessor.time_base Preprocessor.preceding
trace_all = tt

abbrev f0 : List ℕ
f0 = text (
    "set\tT\t3\t1\t1\t2\t11\t3cc4000000000004\t3f800000" ∷
    "wgt\t3f800000" ∷
    "chn\t0" ∷
    "cnt\t3\t2\t9007199254740984" ∷
    "dev\t422988a8c2834000\t41e4a5b2cd7e0000\t42f31c4f340f5825" ∷
    "dev\t42378b07522ee000\tc1fae21726fc0000\t4295bc38cf6b6c00" ∷
    "dev\t423ab60651bee000\t421ba6583b3c8000\t42f0cdf50002f360" ∷
    "dev\t423416ffa4c46000\t41b145efd2400000\t42d923efc9c1cb6b" ∷
    "dev\t423dbc5425026000\t4215bd7a607b8000\t42e2078ba1879fd5" ∷
    "dev\t423479705f17e000\t4209fa2ff3790000\t42f367a0b0a03025" ∷
    "dev\t422f34b1da544000\tc1f93d8cbb060000\t42e426abf3b8c115" ∷
    "dev\t421da8f9291c8000\t422a2bf036cda000\t42cbe62df58e5d00" ∷
    "dev\t42331f1814822000\t421cf0fb10754000\t42e0ae2cabd00835" ∷
    "dev\t41fd6ed7bd300000\t421ce89b29024000\t42e0aa5a88a26e4b" ∷
    "inp\t449a9daa" ∷
    "pnt\tc0e00000\t41000000" ∷
    "tim\t4" ∷ [])

abbrev c0 : List Call
c0 = (
    post_process (record { input = ((of_bits binary32 0xc23ec000) ∷ []); timestamp = 16; rcf_point = none; expected_point = none; grade = (of_bits binary32 0x1); relative_index = (pos 0); deviations_out = (replicate 2 (of_bits binary32 0)); past_out = (replicate 1 (of_bits binary32 0)); expected_out = (replicate 1 (of_bits binary32 0)) }) ∷
    post_process (record { input = ((of_bits binary32 0x40000000) ∷ []); timestamp = 16; rcf_point = (some ((of_bits binary32 0xc0400000) ∷ (of_bits binary32 0xc1000000) ∷ [])); expected_point = (some ((of_bits binary32 0xbf800000) ∷ (of_bits binary32 0xc0800000) ∷ [])); grade = (of_bits binary32 0x80000000); relative_index = (pos 0); deviations_out = (replicate 2 (of_bits binary32 0)); past_out = (replicate 1 (of_bits binary32 0)); expected_out = (replicate 1 (of_bits binary32 0)) }) ∷
    post_process (record { input = ((of_bits binary32 0xc1cc8000) ∷ []); timestamp = 35; rcf_point = (some ((of_bits binary32 0x4673af38) ∷ (of_bits binary32 0x44483c09) ∷ [])); expected_point = none; grade = (of_bits binary32 0x3f000000); relative_index = (pos 0); deviations_out = (replicate 2 (of_bits binary32 0)); past_out = (replicate 1 (of_bits binary32 0)); expected_out = (replicate 4 (of_bits binary32 0)) }) ∷
    post_process (record { input = ((of_bits binary32 0x40800000) ∷ []); timestamp = 42; rcf_point = (some ((of_bits binary32 0x40800000) ∷ (of_bits binary32 0x0) ∷ [])); expected_point = (some ((of_bits binary32 0x419a8000) ∷ (of_bits binary32 0x43020000) ∷ [])); grade = (of_bits binary32 0x3f000000); relative_index = (pos 0); deviations_out = (replicate 2 (of_bits binary32 0)); past_out = (replicate 1 (of_bits binary32 0)); expected_out = (replicate 1 (of_bits binary32 0)) }) ∷
    post_process (record { input = ((of_bits binary32 0xc15c0000) ∷ []); timestamp = 53; rcf_point = (some ((of_bits binary32 0xc217c000) ∷ (of_bits binary32 0x42c5a000) ∷ [])); expected_point = none; grade = (of_bits binary32 0x0); relative_index = (pos 0); deviations_out = (replicate 2 (of_bits binary32 0)); past_out = (replicate 1 (of_bits binary32 0)); expected_out = (replicate 4 (of_bits binary32 0)) }) ∷
    post_process (record { input = ((of_bits binary32 0xc1fd0000) ∷ []); timestamp = 61; rcf_point = (some ((of_bits binary32 0x80000001) ∷ (of_bits binary32 0xc20fc000) ∷ [])); expected_point = none; grade = (of_bits binary32 0x80000000); relative_index = (pos 0); deviations_out = (replicate 2 (of_bits binary32 0)); past_out = (replicate 1 (of_bits binary32 0)); expected_out = (replicate 1 (of_bits binary32 0)) }) ∷ [])

abbrev t0 : List ℕ
t0 = text (
    "set\tT\t3\t1\t1\t2\t11\t3cc4000000000004\t3f800000" ∷
    "wgt\t3f800000" ∷
    "chn\t0" ∷
    "cnt\t8\t7\t9007199254740989" ∷
    "dev\t422988a8c28d3fec\t41e4a5b2c55ffff1\t42f31c4f340fcc80" ∷
    "dev\t42378b075233dfec\tc1fae2177644d4ec\t4295bc392ca3af96" ∷
    "dev\t423ab60651c3dffb\t421ba658415a8b35\t42f0cdf5000a6f5f" ∷
    "dev\t423416ffa4c95ffb\t41b145efd1e4a674\t42d923efc9c1cb66" ∷
    "dev\t423dbc5425075ffb\t4215bd7a61153a42\t42e2078ba187c4bf" ∷
    "dev\t423479705f1cdff1\t4209fa2ff9f0ffec\t42f367a0b0a29306" ∷
    "dev\t422f34b1da5e3fe7\tc1f93d8cb775ffec\t42e426abf3b91d66" ∷
    "dev\t421da8f929307ffb\t422a2bf0393cae94\t42cbe62df5b445fb" ∷
    "dev\t42331f1814871ffb\t421cf0fb10733a53\t42e0ae2cabd00830" ∷
    "dev\t41fd6ed7bd7ffffb\t421ce89b2d06d5bc\t42e0aa5a88a8e361" ∷
    "inp\tc1fd0000" ∷
    "pnt\t80000001\tc20fc000" ∷
    "tim\t61" ∷ [])

away0 : away (read f0) c0 ≡ t0
unfolding trace_all
away0 = refl

answers0 : answered (read f0) c0 ≡ (
    learnt (record { written = false; anomaly = none; deviations_out = ((of_bits binary32 0x0) ∷ (of_bits binary32 0x0) ∷ []); past_out = ((of_bits binary32 0x0) ∷ []); expected_out = ((of_bits binary32 0x0) ∷ []) }) ∷
    learnt (record { written = true; anomaly = none; deviations_out = ((of_bits binary32 0x3e3b2a45) ∷ (of_bits binary32 0x424db78d) ∷ []); past_out = ((of_bits binary32 0x0) ∷ []); expected_out = ((of_bits binary32 0x0) ∷ []) }) ∷
    learnt (record { written = true; anomaly = none; deviations_out = ((of_bits binary32 0x3e3b2a45) ∷ (of_bits binary32 0x424db78d) ∷ []); past_out = ((of_bits binary32 0x0) ∷ []); expected_out = ((of_bits binary32 0x0) ∷ (of_bits binary32 0x0) ∷ (of_bits binary32 0x0) ∷ (of_bits binary32 0x0) ∷ []) }) ∷
    learnt (record { written = true; anomaly = some (record { past_timestamp = 35; likelihood = (of_bits binary32 0x3f800000) }); deviations_out = ((of_bits binary32 0x3e3b2a45) ∷ (of_bits binary32 0x424db78d) ∷ []); past_out = ((of_bits binary32 0x40800000) ∷ []); expected_out = ((of_bits binary32 0x419ae781) ∷ []) }) ∷
    learnt (record { written = true; anomaly = none; deviations_out = ((of_bits binary32 0x3e3b2a45) ∷ (of_bits binary32 0x424db78d) ∷ []); past_out = ((of_bits binary32 0x0) ∷ []); expected_out = ((of_bits binary32 0x0) ∷ (of_bits binary32 0x0) ∷ (of_bits binary32 0x0) ∷ (of_bits binary32 0x0) ∷ []) }) ∷
    learnt (record { written = true; anomaly = none; deviations_out = ((of_bits binary32 0x3e3b2a45) ∷ (of_bits binary32 0x424db78d) ∷ []); past_out = ((of_bits binary32 0x0) ∷ []); expected_out = ((of_bits binary32 0x0) ∷ []) }) ∷ [])
unfolding trace_all
answers0 = refl

abbrev f1 : List ℕ
f1 = text (
    "set\tS\t3\t1\t1\t2\t18446744073709551615\t3fd60d0df9d4d47e\t40400000" ∷
    "wgt\t3f000000" ∷
    "chn\t0" ∷
    "cnt\t0\t2985363723561326467\t9007199254740987" ∷
    "dev\t423ec56264496000\t421877a956158000\t42ed06f73e6b19c0" ∷
    "dev\t41f583642bca0000\t422828d1548d8000\t42ebfab5e9338980" ∷
    "dev\t423ccc72ac354000\t41efb72f657c0000\t42efb2a1e9dbfa8b" ∷
    "dev\t422ea6abb8238000\t41f5bbf432410000\t42dd68f4db66e96b" ∷
    "dev\t42370dae0594a000\t421cc5dd5ddc4000\t42db00eaa3b57fd5" ∷
    "dev\t423ef123a8fb0000\t421bfb3075740000\t42b9a0626e5ac400" ∷
    "dev\t423930b6ddbfe000\t421f1159e46f8000\t42e0fdae711bf860" ∷
    "dev\t4232ace76ddde000\t4218af245b418000\t42f36a6890b8c02b" ∷
    "dev\t423faf4477cda000\t42126b042ad8c000\t42f4d75c617be62b" ∷
    "dev\t4206e4e599bd0000\t41f55a6926fc0000\t42e028fcc92db38b" ∷
    "inp\t41100000" ∷
    "pnt\tff61b1e6" ∷
    "tim\t30" ∷ [])

abbrev c1 : List Call
c1 = (
    post_process (record { input = ((of_bits binary32 0x41d80000) ∷ []); timestamp = 7; rcf_point = (some ((of_bits binary32 0x60ad78ec) ∷ [])); expected_point = (some ((of_bits binary32 0x6f92339a) ∷ [])); grade = (of_bits binary32 0x3f000000); relative_index = (pos 0); deviations_out = (replicate 0 (of_bits binary32 0)); past_out = (replicate 1 (of_bits binary32 0)); expected_out = (replicate 0 (of_bits binary32 0)) }) ∷
    post_process (record { input = ((of_bits binary32 0x42b48000) ∷ []); timestamp = 26; rcf_point = (some ((of_bits binary32 0x455b23b3) ∷ [])); expected_point = none; grade = (of_bits binary32 0xbf800000); relative_index = (pos 0); deviations_out = (replicate 1 (of_bits binary32 0)); past_out = (replicate 2 (of_bits binary32 0)); expected_out = (replicate 3 (of_bits binary32 0)) }) ∷
    post_process (record { input = ((of_bits binary32 0x42918000) ∷ []); timestamp = 34; rcf_point = (some ((of_bits binary32 0xc0400000) ∷ [])); expected_point = none; grade = nan; relative_index = (pos 0); deviations_out = (replicate 1 (of_bits binary32 0)); past_out = (replicate 1 (of_bits binary32 0)); expected_out = (replicate 1 (of_bits binary32 0)) }) ∷
    post_process (record { input = ((of_bits binary32 0x42af8000) ∷ []); timestamp = 47; rcf_point = none; expected_point = none; grade = (of_bits binary32 0x3f000000); relative_index = (pos 0); deviations_out = (replicate 3 (of_bits binary32 0)); past_out = (replicate 1 (of_bits binary32 0)); expected_out = (replicate 4 (of_bits binary32 0)) }) ∷
    post_process (record { input = ((of_bits binary32 0x40400000) ∷ []); timestamp = 56; rcf_point = none; expected_point = (some ((of_bits binary32 0xc1000000) ∷ [])); grade = (of_bits binary32 0x80000000); relative_index = (pos 0); deviations_out = (replicate 1 (of_bits binary32 0)); past_out = (replicate 1 (of_bits binary32 0)); expected_out = (replicate 1 (of_bits binary32 0)) }) ∷
    post_process (record { input = ((of_bits binary32 0x42080000) ∷ []); timestamp = 71; rcf_point = none; expected_point = none; grade = (of_bits binary32 0x3f800000); relative_index = (pos 0); deviations_out = (replicate 3 (of_bits binary32 0)); past_out = (replicate 4 (of_bits binary32 0)); expected_out = (replicate 2 (of_bits binary32 0)) }) ∷ [])

abbrev t1 : List ℕ
t1 = text (
    "set\tS\t3\t1\t1\t2\t18446744073709551615\t3fd60d0df9d4d47e\t40400000" ∷
    "wgt\t3f000000" ∷
    "chn\t0" ∷
    "cnt\t1\t2985363723561326468\t9007199254740988" ∷
    "dev\t42342b41c19e84eb\t421009897b6a4db5\t42e306a6800656a7" ∷
    "dev\t41ec33acb3912b5e\t421fabb79dbb0878\t42e256d257f30548" ∷
    "dev\t423bce6ebfc4ac1f\t41ee9f70f9a03426\t42ee9b0ba0887b1c" ∷
    "dev\t422d9850f62d9cf1\t41f4fc3fe96cf9be\t42dc658c7746353b" ∷
    "dev\t42364256dbc7e114\t421bc81385b57f5a\t42da12bbf7515f1a" ∷
    "dev\t423447efa9e31272\t42125722ab841714\t42b0cc066bd47475" ∷
    "dev\t423082d49c276e84\t42145d0caee9b096\t42d6460679e0f1d6" ∷
    "dev\t4232082df430d5a5\t4217d56b02d08b1d\t42f2bf2795e1ee8b" ∷
    "dev\t423e97cbdcc50179\t4211c88fd9216aac\t42f41f88602576c4" ∷
    "dev\t42061af628a272b0\t41f49e113e75959a\t42df34e5d2615373" ∷
    "inp\t42918000" ∷
    "pnt\tc0400000" ∷
    "tim\t34" ∷ [])

away1 : away (read f1) c1 ≡ t1
unfolding trace_all
away1 = refl

answers1 : answered (read f1) c1 ≡ (
    refused 12 ∷
    refused 12 ∷
    learnt (record { written = true; anomaly = none; deviations_out = ((of_bits binary32 0x3e9fc19f) ∷ []); past_out = ((of_bits binary32 0x0) ∷ []); expected_out = ((of_bits binary32 0x0) ∷ []) }) ∷
    learnt (record { written = false; anomaly = none; deviations_out = ((of_bits binary32 0x0) ∷ (of_bits binary32 0x0) ∷ (of_bits binary32 0x0) ∷ []); past_out = ((of_bits binary32 0x0) ∷ []); expected_out = ((of_bits binary32 0x0) ∷ (of_bits binary32 0x0) ∷ (of_bits binary32 0x0) ∷ (of_bits binary32 0x0) ∷ []) }) ∷
    learnt (record { written = false; anomaly = none; deviations_out = ((of_bits binary32 0x0) ∷ []); past_out = ((of_bits binary32 0x0) ∷ []); expected_out = ((of_bits binary32 0x0) ∷ []) }) ∷
    learnt (record { written = false; anomaly = none; deviations_out = ((of_bits binary32 0x0) ∷ (of_bits binary32 0x0) ∷ (of_bits binary32 0x0) ∷ []); past_out = ((of_bits binary32 0x0) ∷ (of_bits binary32 0x0) ∷ (of_bits binary32 0x0) ∷ (of_bits binary32 0x0) ∷ []); expected_out = ((of_bits binary32 0x0) ∷ (of_bits binary32 0x0) ∷ []) }) ∷ [])
unfolding trace_all
answers1 = refl

abbrev f2 : List ℕ
f2 = text (
    "set\tT\t5\t1\t2\t2\t18446744073709551615\t3cb0000000000000\tc0000000" ∷
    "wgt\t0b806f6e" ∷
    "chn\t7295" ∷
    "cnt\t2\t0\t2147483643" ∷
    "dev\t423cd25d42198000\tc1f854cf24830000\t42da42011e0d75eb" ∷
    "dev\t41f8ebf019c40000\t422756cb4edc4000\t42e7b99fbd2d59f5" ∷
    "dev\t4237e3bb551d2000\t41fcde32d2580000\t42f20d614bf99800" ∷
    "dev\t42300377dbfc8000\tc1d8f981cc3c0000\t42e06ca634a3f1a0" ∷
    "dev\t4233cda2c08a4000\tc1f052f89fd30000\t42f3d9a8f3baf860" ∷
    "dev\t4222cde8cc00c000\tc1eb9f3d9dc80000\t42e57c2a7f891615" ∷
    "dev\t423f73a1e8fa4000\t42257f95c6ca8000\t428265cee4ce6d55" ∷
    "dev\t41fce02f87ba0000\t41fb9c43988e0000\t42f3ef7010fd91ab" ∷
    "dev\t422c08f05d92c000\t421c518fc9fb0000\t42e2fe82024118c0" ∷
    "dev\t423a81cb9baa6000\t4228d31073946000\t42f03e250affa45b" ∷
    "inp\t7f7fffff\tc1000000" ∷
    "pnt\t3f800000\t42f34000\tff800000\t00800000" ∷
    "tim\t0\t0" ∷
    "buf\t12\tc0e00000" ∷
    "buf\t22\t40800000" ∷ [])

abbrev c2 : List Call
c2 = (
    drain ∷
    post_process (record { input = ((of_bits binary32 0xc0a00000) ∷ []); timestamp = 99; rcf_point = (some ((of_bits binary32 0x8c21cfe2) ∷ (of_bits binary32 0x42994000) ∷ (of_bits binary32 0x26dce2fd) ∷ (of_bits binary32 0xc0c00000) ∷ [])); expected_point = (some ((of_bits binary32 0xe0ad78ec) ∷ (of_bits binary32 0x568b1c9c) ∷ (of_bits binary32 0xc1100000) ∷ (of_bits binary32 0x42b4a000) ∷ [])); grade = (of_bits binary32 0x0); relative_index = (pos 0); deviations_out = (replicate 2 (of_bits binary32 0)); past_out = (replicate 1 (of_bits binary32 0)); expected_out = (replicate 1 (of_bits binary32 0)) }) ∷
    shingled_point ((of_bits binary32 0xc1000000) ∷ []) 104 (replicate 4 (of_bits binary32 0)) ∷
    post_process (record { input = ((of_bits binary32 0xff7fffff) ∷ []); timestamp = 120; rcf_point = (some ((of_bits binary32 0x4c66122d) ∷ (of_bits binary32 0x430ff000) ∷ (of_bits binary32 0xc0400000) ∷ (of_bits binary32 0x42e58000) ∷ [])); expected_point = (some ((of_bits binary32 0x450c54ac) ∷ (of_bits binary32 0xe7547010) ∷ (of_bits binary32 0x4523fcad) ∷ (of_bits binary32 0xc292a000) ∷ [])); grade = (of_bits binary32 0x80000000); relative_index = (pos 0); deviations_out = (replicate 2 (of_bits binary32 0)); past_out = (replicate 3 (of_bits binary32 0)); expected_out = (replicate 4 (of_bits binary32 0)) }) ∷
    post_process (record { input = ((of_bits binary32 0x429c6000) ∷ []); timestamp = 125; rcf_point = (some ((of_bits binary32 0x26dce2fd) ∷ (of_bits binary32 0xc0c00000) ∷ (of_bits binary32 0xc032847f) ∷ (of_bits binary32 0x436eda71) ∷ [])); expected_point = none; grade = (of_bits binary32 0x0); relative_index = (negsuc 0); deviations_out = (replicate 3 (of_bits binary32 0)); past_out = (replicate 1 (of_bits binary32 0)); expected_out = (replicate 1 (of_bits binary32 0)) }) ∷
    post_process (record { input = ((of_bits binary32 0x42924000) ∷ []); timestamp = 106; rcf_point = (some ((of_bits binary32 0x26dce2fd) ∷ (of_bits binary32 0xc0c00000) ∷ (of_bits binary32 0xc032847f) ∷ (of_bits binary32 0x436eda71) ∷ [])); expected_point = none; grade = nan; relative_index = (negsuc 0); deviations_out = (replicate 2 (of_bits binary32 0)); past_out = (replicate 2 (of_bits binary32 0)); expected_out = (replicate 1 (of_bits binary32 0)) }) ∷ [])

abbrev t2 : List ℕ
t2 = text (
    "set\tT\t5\t1\t2\t2\t18446744073709551615\t3cb0000000000000\tc0000000" ∷
    "wgt\t0b806f6e" ∷
    "chn\t7295" ∷
    "cnt\t5\t5\t2147483648" ∷
    "dev\t423cd25d40fe4859\tc7efffffdfc00000\t4fefffffbfc00020" ∷
    "dev\t41f8ebf0191ac8a0\t4600000000000000\t4fffffffbfe00020" ∷
    "dev\t4237e3bb54333aad\t46d7d7a733ec52f7\t4db1c3adace8d8d2" ∷
    "dev\t42300377db615d50\tc5e48b5dc257bb64\t4bda612855afbc3b" ∷
    "dev\t4233cda2bfc937a3\t46fef352aab61ac6\t4dfed10c851a07c8" ∷
    "dev\t4222cde8cb4eb4e6\tc1eb9f3d6d73c799\t42e57c2a7ec5fd2c" ∷
    "dev\t423f73a1e7c4bbac\t42257f95c6d58424\t428265cee4e16b3f" ∷
    "dev\t41fce02f86e93e25\t41fb9c43acdaaebe\t42f3ef70103bedc1" ∷
    "dev\t422c08f05c84669b\t421c518fc8e6a63d\t42e2fe82018327c0" ∷
    "dev\t423a81cb9aa64e0d\t4228d31072c74287\t42f03e250a5d3cbb" ∷
    "inp\tff7fffff\t429c6000" ∷
    "pnt\t26dce2fd\tc0c00000\tc032847f\t436eda71" ∷
    "tim\t120\t125" ∷ [])

away2 : away (read f2) c2 ≡ t2
unfolding trace_all
away2 = refl

answers2 : answered (read f2) c2 ≡ (
    done ∷
    learnt (record { written = true; anomaly = none; deviations_out = ((of_bits binary32 0xbd53063b) ∷ (of_bits binary32 0xc10a03c3) ∷ []); past_out = ((of_bits binary32 0x0) ∷ []); expected_out = ((of_bits binary32 0x0) ∷ []) }) ∷
    wrote ((of_bits binary32 0x26dce2fd) ∷ (of_bits binary32 0xc0c00000) ∷ (of_bits binary32 0xc032847f) ∷ (of_bits binary32 0x436eda71) ∷ []) ∷
    learnt (record { written = true; anomaly = none; deviations_out = ((of_bits binary32 0x6525ba45) ∷ (of_bits binary32 0xc10a03c3) ∷ []); past_out = ((of_bits binary32 0x0) ∷ (of_bits binary32 0x0) ∷ (of_bits binary32 0x0) ∷ []); expected_out = ((of_bits binary32 0x0) ∷ (of_bits binary32 0x0) ∷ (of_bits binary32 0x0) ∷ (of_bits binary32 0x0) ∷ []) }) ∷
    learnt (record { written = true; anomaly = none; deviations_out = ((of_bits binary32 0x65c80d0a) ∷ (of_bits binary32 0xc10a03c3) ∷ (of_bits binary32 0x0) ∷ []); past_out = ((of_bits binary32 0x0) ∷ []); expected_out = ((of_bits binary32 0x0) ∷ []) }) ∷
    refused 12 ∷ [])
unfolding trace_all
answers2 = refl

abbrev f3 : List ℕ
f3 = text (
    "set\tS\t4\t1\t1\t2\t18446744073709551615\t3cb0000000000000\t3f800000" ∷
    "wgt\tb76bd50b" ∷
    "chn\t65535" ∷
    "cnt\t1\t0\t9007199254740986" ∷
    "dev\t4219280828fc8000\t4226971e72c0a000\t42e9ebf9811757ab" ∷
    "dev\t423d83c62d382000\t421fe037628e0000\t42a23e2abe41b600" ∷
    "dev\t423b7ca7f828e000\t4223cbe5a454e000\t42e25fb1f60dadeb" ∷
    "dev\t42245104a0e58000\t42153b580b5ec000\t42e6788c85205b95" ∷
    "dev\t4225c63669ce8000\t421bdeea78414000\t42cf3c4ccf43cd80" ∷
    "dev\t420897b13dac0000\t4227047230218000\t42afdd892d75d4ab" ∷
    "dev\t42311adcbd2a2000\t422680e0d4470000\t42f1deaf1ced4c40" ∷
    "dev\t41f84d55ad140000\t420990a794fe8000\t42ddef177ea6b555" ∷
    "dev\t422bfcb91d45c000\t42210099fc06a000\t42ec6fe048d7fc15" ∷
    "dev\t423f6be5572ee000\t41f9b5166c2f0000\t42ed0073557b8cd5" ∷
    "inp\t40c00000" ∷
    "pnt\t4500be94" ∷
    "tim\t0" ∷
    "buf\t4\tc1b18000" ∷ [])

abbrev c3 : List Call
c3 = (
    post_process (record { input = ((of_bits binary32 0x42730000) ∷ []); timestamp = 147; rcf_point = (some ((of_bits binary32 0xc0c00000) ∷ [])); expected_point = (some ((of_bits binary32 0x42cc2000) ∷ [])); grade = (of_bits binary32 0x0); relative_index = (pos 0); deviations_out = (replicate 4 (of_bits binary32 0)); past_out = (replicate 0 (of_bits binary32 0)); expected_out = (replicate 2 (of_bits binary32 0)) }) ∷
    drain ∷
    shingled_point ((of_bits binary32 0x42828000) ∷ []) 155 (replicate 0 (of_bits binary32 0)) ∷
    drain ∷
    post_process (record { input = ((of_bits binary32 0x42ac0000) ∷ []); timestamp = 163; rcf_point = (some ((of_bits binary32 0xc0000000) ∷ [])); expected_point = none; grade = (of_bits binary32 0x0); relative_index = (pos 0); deviations_out = (replicate 1 (of_bits binary32 0)); past_out = (replicate 1 (of_bits binary32 0)); expected_out = (replicate 1 (of_bits binary32 0)) }) ∷
    shingled_point ((of_bits binary32 0x42a78000) ∷ []) 165 (replicate 1 (of_bits binary32 0)) ∷ [])

abbrev t3 : List ℕ
t3 = text (
    "set\tS\t4\t1\t1\t2\t18446744073709551615\t3cb0000000000000\t3f800000" ∷
    "wgt\tb76bd50b" ∷
    "chn\t65535" ∷
    "cnt\t3\t3\t9007199254740989" ∷
    "dev\t4219280829087ffa\t4226971e73b9bffd\t42e9ebf9811cff00" ∷
    "dev\t423d83c62d3b1ffa\t421fe037643ebffa\t42a23e2abe7c6e5f" ∷
    "dev\t423b7ca7f82bdffd\t4223cbe5a67c06f5\t42e25fb1f61a0a2b" ∷
    "dev\t42245104a0eb7ffd\t42153b580b61fd6e\t42e6788c85205b98" ∷
    "dev\t4225c63669d47ffd\t421bdeea78abeff1\t42cf3c4ccf44440c" ∷
    "dev\t420897b13dc3fffa\t4227047232957ffd\t42afdd892eee58a5" ∷
    "dev\t42311adcbd2d1ffd\t422680e0d584fffd\t42f1deaf1cf25a4d" ∷
    "dev\t41f84d55ad43fffd\t420990a798641634\t42ddef177eaa8dee" ∷
    "dev\t422bfcb91d4bbffd\t42210099fc0a9261\t42ec6fe048d7fc3c" ∷
    "dev\t423f6be55731dffd\t41f9b5167872c791\t42ed00735581d15a" ∷
    "inp\t42ac0000" ∷
    "pnt\tc0000000" ∷
    "tim\t163" ∷ [])

away3 : away (read f3) c3 ≡ t3
unfolding trace_all
away3 = refl

answers3 : answered (read f3) c3 ≡ (
    learnt (record { written = true; anomaly = none; deviations_out = ((of_bits binary32 0x3f23d698) ∷ (of_bits binary32 0x0) ∷ (of_bits binary32 0x0) ∷ (of_bits binary32 0x0) ∷ []); past_out = ([]); expected_out = ((of_bits binary32 0x0) ∷ (of_bits binary32 0x0) ∷ []) }) ∷
    done ∷
    refused 20 ∷
    refused 15 ∷
    learnt (record { written = true; anomaly = none; deviations_out = ((of_bits binary32 0x3f23d698) ∷ []); past_out = ((of_bits binary32 0x0) ∷ []); expected_out = ((of_bits binary32 0x0) ∷ []) }) ∷
    wrote ((of_bits binary32 0x427105b2) ∷ []) ∷ [])
unfolding trace_all
answers3 = refl

abbrev f4 : List ℕ
f4 = text (
    "set\tT\t5\t1\t2\t3\t18446744073709551615\t3c90000000000000\t3f000000" ∷
    "wgt\t40400000" ∷
    "chn\t65535" ∷
    "cnt\t3\t0\t9007199254740986" ∷
    "dev\t3fb999999999999a\t318cda3eece18ce8\t402c800000000000" ∷
    "dev\t43eb507dcc996ab3\t4027400000000000\t4008000000000000" ∷
    "dev\t402cc00000000000\t000012688b70e62b\t43da8e7c19dd5129" ∷
    "dev\t1eb67e9c127b6e74\tc008000000000000\t8000000000000000" ∷
    "dev\t401c800000000000\t4001000000000000\t8000000000000000" ∷
    "dev\t43da6cdd47652acd\tc000000000000000\t3ff0000000000000" ∷
    "dev\t3bc79ca100000000\t40b2126160000000\t7ff8000000000000" ∷
    "dev\tfff0000000000000\t3ff0000000000000\tc015000000000000" ∷
    "dev\t0000000000000000\t43e8d9f6c58be7f8\t402b000000000000" ∷
    "dev\t43ed0b4b700daee5\t5122643565eb4bd7\t0000000000000000" ∷
    "inp\t4617fc44\tbf800000" ∷
    "pnt\t7fc00000\tccbe1b8f\te6ca89da\t7f800000" ∷
    "tim\t0\t0" ∷
    "buf\t3\t42c08000" ∷
    "buf\t47\t42c20000" ∷
    "buf\t49\tc2c64000" ∷ [])

abbrev c4 : List Call
c4 = (
    shingled_point ((of_bits binary32 0x42b90000) ∷ []) 135 (replicate 4 (of_bits binary32 0)) ∷
    post_process (record { input = ((of_bits binary32 0x42040000) ∷ []); timestamp = 155; rcf_point = (some ((of_bits binary32 0x80000000) ∷ (of_bits binary32 0x40e00000) ∷ (of_bits binary32 0x7f800000) ∷ (of_bits binary32 0xff800000) ∷ [])); expected_point = none; grade = (of_bits binary32 0x0); relative_index = (pos 0); deviations_out = (replicate 1 (of_bits binary32 0)); past_out = (replicate 4 (of_bits binary32 0)); expected_out = (replicate 1 (of_bits binary32 0)) }) ∷
    post_process (record { input = ((of_bits binary32 0x42898000) ∷ []); timestamp = 163; rcf_point = (some ((of_bits binary32 0xff61b1e6) ∷ (of_bits binary32 0x41100000) ∷ (of_bits binary32 0x6cd6ff76) ∷ (of_bits binary32 0xe0ad78ec) ∷ [])); expected_point = none; grade = (of_bits binary32 0x3f000000); relative_index = (pos 0); deviations_out = (replicate 2 (of_bits binary32 0)); past_out = (replicate 1 (of_bits binary32 0)); expected_out = (replicate 1 (of_bits binary32 0)) }) ∷
    drain ∷
    shingled_point ((of_bits binary32 0x41a60000) ∷ []) 700397984608 (replicate 7 (of_bits binary32 0)) ∷
    shingled_point ((of_bits binary32 0x42a30000) ∷ []) 700397984594 (replicate 3 (of_bits binary32 0)) ∷ [])

abbrev t4 : List ℕ
t4 = text (
    "set\tT\t5\t1\t2\t3\t18446744073709551615\t3c90000000000000\t3f000000" ∷
    "wgt\t40400000" ∷
    "chn\t65535" ∷
    "cnt\t4\t4\t9007199254740990" ∷
    "dev\t4010666666666665\t40645bfffffffffe\t40e03af47fffffff" ∷
    "dev\t43eb507dcc996aaf\tc02fbffffffffff0\t40f045a980000000" ∷
    "dev\t40325ffffffffffd\t406b8d835cff9e5e\t43da8e7c19dd5134" ∷
    "dev\t400fffffffffffff\tc007fffffffffffc\t38e6fd64220cf91d" ∷
    "dev\t40263ffffffffffd\t400100000f7d26ff\t3cfe11740b37fc24" ∷
    "dev\t43da6cdd47652ac9\t4070400000000000\t40de754000000000" ∷
    "dev\t400fffffffffffff\t40b2b2615ffffffc\t7ff8000000000000" ∷
    "dev\tfff0000000000000\t3ff000001cad9d0e\tc014fffffffffff6" ∷
    "dev\t400fffffffffffff\t43e8d9f6c58be7f9\t417d4a8bbe4c7db4" ∷
    "dev\t43ed0b4b700daee1\t5122643565eb4bd3\t0000000000000000" ∷
    "inp\tc2c64000\t42898000" ∷
    "pnt\tff61b1e6\t41100000\t6cd6ff76\te0ad78ec" ∷
    "tim\t49\t163" ∷ [])

away4 : away (read f4) c4 ≡ t4
unfolding trace_all
away4 = refl

answers4 : answered (read f4) c4 ≡ (
    wrote ((of_bits binary32 0xc1ada541) ∷ (of_bits binary32 0x42440000) ∷ (of_bits binary32 0x41a9a94b) ∷ (of_bits binary32 0x43070000) ∷ []) ∷
    refused 20 ∷
    learnt (record { written = true; anomaly = none; deviations_out = ((of_bits binary32 0x3e439874) ∷ (of_bits binary32 0x0) ∷ []); past_out = ((of_bits binary32 0x0) ∷ []); expected_out = ((of_bits binary32 0x0) ∷ []) }) ∷
    done ∷
    wrote ((of_bits binary32 0x6cd6ff76) ∷ (of_bits binary32 0xe0ad78ec) ∷ (of_bits binary32 0xc06c6275) ∷ (of_bits binary32 0x532312f9) ∷ (of_bits binary32 0x0) ∷ (of_bits binary32 0x0) ∷ (of_bits binary32 0x0) ∷ []) ∷
    refused 20 ∷ [])
unfolding trace_all
answers4 = refl

abbrev f5 : List ℕ
f5 = text (
    "set\tT\t4\t1\t2\t1\t18446744073709551615\t3c670ef54646d497\t3f800000" ∷
    "wgt\t40000000" ∷
    "chn\t0" ∷
    "cnt\t1\t0\t9007199254740988" ∷
    "dev\t4236c1271138a000\t41d1d6488c040000\t42ed07a37006848b" ∷
    "dev\t422a1aa95e768000\t42112e13a8afc000\t42e89296227e868b" ∷
    "dev\t423e5c7816dde000\t4223c80d176e0000\t42f504af2bc15c55" ∷
    "dev\t42334461db9b2000\t421eb0694a84c000\t42cad9f90fea4d2b" ∷
    "dev\t4230d4c85fb90000\t41b3ae8cc5800000\t42d2fc22a415c915" ∷
    "dev\t4214d41f45848000\t421bb8f0a4d24000\t42eb560025ee5f95" ∷
    "dev\t4236b77f7e4de000\t41f3083a2e550000\t42f22be2c656818b" ∷
    "dev\t422649898c1dc000\t422a8c2470858000\t41e434bd80eaaaab" ∷
    "dev\t4200b488cd0f0000\t42251a2c07838000\t42b8b372dfcc4655" ∷
    "dev\t423d98cbd9b8e000\t420ef4ad87b68000\t42e2a47e508e59d5" ∷
    "inp\t41100000\tc2a16000" ∷
    "pnt\tc2a8c000\tc0800000\tc2960000\t7eeff5a6" ∷
    "tim\t0\t0" ∷
    "buf\t10\tbf800000" ∷ [])

abbrev c5 : List Call
c5 = (
    post_process (record { input = ((of_bits binary32 0xc238c000) ∷ []); timestamp = 17; rcf_point = (some ((of_bits binary32 0xc0800000) ∷ (of_bits binary32 0xf81dd374) ∷ (of_bits binary32 0xc0c00000) ∷ (of_bits binary32 0x40da0000) ∷ [])); expected_point = (some ((of_bits binary32 0x9e3e6d32) ∷ (of_bits binary32 0xc0400000) ∷ (of_bits binary32 0x426a8000) ∷ (of_bits binary32 0x800000) ∷ [])); grade = (of_bits binary32 0x0); relative_index = (negsuc 0); deviations_out = (replicate 2 (of_bits binary32 0)); past_out = (replicate 1 (of_bits binary32 0)); expected_out = (replicate 1 (of_bits binary32 0)) }) ∷
    post_process (record { input = ((of_bits binary32 0x40e00000) ∷ []); timestamp = 22; rcf_point = (some ((of_bits binary32 0x0) ∷ (of_bits binary32 0xc1868000) ∷ (of_bits binary32 0xd33692b8) ∷ (of_bits binary32 0x45c172f6) ∷ [])); expected_point = none; grade = (of_bits binary32 0x7f800000); relative_index = (pos 0); deviations_out = (replicate 2 (of_bits binary32 0)); past_out = (replicate 2 (of_bits binary32 0)); expected_out = (replicate 1 (of_bits binary32 0)) }) ∷
    post_process (record { input = ((of_bits binary32 0xc0800000) ∷ []); timestamp = 27; rcf_point = (some ((of_bits binary32 0x0) ∷ (of_bits binary32 0x466df39f) ∷ (of_bits binary32 0x459123f2) ∷ (of_bits binary32 0xc29fc000) ∷ [])); expected_point = none; grade = (of_bits binary32 0x1); relative_index = (pos 0); deviations_out = (replicate 2 (of_bits binary32 0)); past_out = (replicate 1 (of_bits binary32 0)); expected_out = (replicate 1 (of_bits binary32 0)) }) ∷
    post_process (record { input = ((of_bits binary32 0x40800000) ∷ []); timestamp = 45; rcf_point = none; expected_point = none; grade = (of_bits binary32 0x0); relative_index = (negsuc 0); deviations_out = (replicate 2 (of_bits binary32 0)); past_out = (replicate 1 (of_bits binary32 0)); expected_out = (replicate 1 (of_bits binary32 0)) }) ∷
    post_process (record { input = ((of_bits binary32 0x40800000) ∷ []); timestamp = 51; rcf_point = none; expected_point = none; grade = nan; relative_index = (negsuc 0); deviations_out = (replicate 2 (of_bits binary32 0)); past_out = (replicate 1 (of_bits binary32 0)); expected_out = (replicate 1 (of_bits binary32 0)) }) ∷
    post_process (record { input = ((of_bits binary32 0xbf800000) ∷ []); timestamp = 59; rcf_point = (some ((of_bits binary32 0x42f92000) ∷ (of_bits binary32 0x4661ea8a) ∷ (of_bits binary32 0x60ad78ec) ∷ (of_bits binary32 0x42ec8000) ∷ [])); expected_point = none; grade = (of_bits binary32 0x80000000); relative_index = (negsuc 0); deviations_out = (replicate 2 (of_bits binary32 0)); past_out = (replicate 1 (of_bits binary32 0)); expected_out = (replicate 2 (of_bits binary32 0)) }) ∷ [])

abbrev t5 : List ℕ
t5 = text (
    "set\tT\t4\t1\t2\t1\t18446744073709551615\t3c670ef54646d497\t3f800000" ∷
    "wgt\t40000000" ∷
    "chn\t0" ∷
    "cnt\t3\t2\t9007199254740990" ∷
    "dev\t4236c127113a9ffe\t41d1d6488237fffe\t42ed07a370079552" ∷
    "dev\t422a1aa95e7a7ffe\t42112e13aa0e7ffe\t42e8929622807cee" ∷
    "dev\t423e5c7816dfdffe\t4223c80d183a7662\t42f504af2bc2a2ed" ∷
    "dev\t42334461db9d1ffe\t421eb0694a8761ec\t42cad9f90fea4d45" ∷
    "dev\t4230d4c85fbafffe\t41b3ae8d41afc466\t42d2fc22a41d50dd" ∷
    "dev\t4214d41f458c7ffe\t421bb8f0a56e3ffe\t42eb560025eec033" ∷
    "dev\t4236b77f7e4fdffe\t41f3083a2fb4fffe\t42f22be2c6569529" ∷
    "dev\t422649898c21bffe\t422a8c2472243898\t41e434c800510052" ∷
    "dev\t4200b488cd1efffe\t42251a2c0783b59c\t42b8b372dfcc4655" ∷
    "dev\t423d98cbd9badffe\t420ef4ad8b4a57b2\t42e2a47e50918cef" ∷
    "inp\tc238c000\t40e00000" ∷
    "pnt\t00000000\tc1868000\td33692b8\t45c172f6" ∷
    "tim\t17\t22" ∷
    "buf\t10\tbf800000" ∷ [])

away5 : away (read f5) c5 ≡ t5
unfolding trace_all
away5 = refl

answers5 : answered (read f5) c5 ≡ (
    learnt (record { written = true; anomaly = none; deviations_out = ((of_bits binary32 0x3b95add6) ∷ (of_bits binary32 0x4264f5ed) ∷ []); past_out = ((of_bits binary32 0x0) ∷ []); expected_out = ((of_bits binary32 0x0) ∷ []) }) ∷
    learnt (record { written = true; anomaly = none; deviations_out = ((of_bits binary32 0x3b95add8) ∷ (of_bits binary32 0x4264f5ed) ∷ []); past_out = ((of_bits binary32 0x0) ∷ (of_bits binary32 0x0) ∷ []); expected_out = ((of_bits binary32 0x0) ∷ []) }) ∷
    refused 18 ∷
    learnt (record { written = false; anomaly = none; deviations_out = ((of_bits binary32 0x0) ∷ (of_bits binary32 0x0) ∷ []); past_out = ((of_bits binary32 0x0) ∷ []); expected_out = ((of_bits binary32 0x0) ∷ []) }) ∷
    learnt (record { written = false; anomaly = none; deviations_out = ((of_bits binary32 0x0) ∷ (of_bits binary32 0x0) ∷ []); past_out = ((of_bits binary32 0x0) ∷ []); expected_out = ((of_bits binary32 0x0) ∷ []) }) ∷
    refused 18 ∷ [])
unfolding trace_all
answers5 = refl

abbrev f6 : List ℕ
f6 = text (
    "set\tT\t4\t1\t2\t3\t18446744073709551615\t3ca0000000000000\t3f800000" ∷
    "wgt\t40000000" ∷
    "chn\t0" ∷
    "cnt\t3\t0\t9007199254740987" ∷
    "dev\t422c8cea52d14000\t4219bd866ee40000\t42f1aadc05e0868b" ∷
    "dev\t41f66279de300000\t422694d8ad4e2000\t42e87a37de035de0" ∷
    "dev\t423e54cf4b10c000\t4225e40f31e7c000\t42efdc5c5b1f5beb" ∷
    "dev\t4211a9c956ba0000\t4211a26d33740000\t42f171b5522ad8b5" ∷
    "dev\t4236bf02ccca6000\t42276a2061af2000\t42e8f249b716edab" ∷
    "dev\t4226029caedb8000\t422370ad2682a000\t42f34d385e918325" ∷
    "dev\t423b9dd3ad5cc000\t42180dcb24fb8000\t42eada7ac7616235" ∷
    "dev\t421dad808c460000\t42116d72e9934000\t42ea341496e1da40" ∷
    "dev\t42353275e9728000\t42170e4e622ec000\t42ea6bccda9d71e0" ∷
    "dev\t42195b58caf60000\t421886598b5fc000\t42df21ee7b5bfa95" ∷
    "inp\t7f7fffff\t40c00000" ∷
    "pnt\tc0000000\t729a591b\t80000000\t43135000" ∷
    "tim\t0\t0" ∷
    "buf\t4\tc25a4000" ∷
    "buf\t16\t3dcccccd" ∷
    "buf\t19\t4671d7b7" ∷ [])

abbrev c6 : List Call
c6 = (
    shingled_point ((of_bits binary32 0x42420000) ∷ []) 4217886 (replicate 4 (of_bits binary32 0)) ∷
    shingled_point ((of_bits binary32 0x41200000) ∷ []) 4217901 (replicate 3 (of_bits binary32 0)) ∷
    drain ∷
    post_process (record { input = ([]); timestamp = 4217908; rcf_point = (some ((of_bits binary32 0x0) ∷ (of_bits binary32 0x40000000) ∷ (of_bits binary32 0xb09e9a2c) ∷ (of_bits binary32 0xc14a0000) ∷ (of_bits binary32 0x3f800000) ∷ [])); expected_point = (some ((of_bits binary32 0xc0400000) ∷ (of_bits binary32 0x116c2) ∷ (of_bits binary32 0x42f66000) ∷ (of_bits binary32 0xc1200000) ∷ [])); grade = (of_bits binary32 0x0); relative_index = (pos 0); deviations_out = (replicate 2 (of_bits binary32 0)); past_out = (replicate 1 (of_bits binary32 0)); expected_out = (replicate 0 (of_bits binary32 0)) }) ∷
    shingled_point ((of_bits binary32 0x42630000) ∷ []) 4217924 (replicate 4 (of_bits binary32 0)) ∷
    post_process (record { input = ((of_bits binary32 0x42770000) ∷ []); timestamp = 4217926; rcf_point = (some ((of_bits binary32 0x4631b523) ∷ (of_bits binary32 0x412ddd6f) ∷ (of_bits binary32 0x42257b20) ∷ (of_bits binary32 0x4a80b875) ∷ [])); expected_point = (some ((of_bits binary32 0x4631b523) ∷ (of_bits binary32 0x412ddd6f) ∷ (of_bits binary32 0x42257b20) ∷ (of_bits binary32 0x4a80b875) ∷ [])); grade = nan; relative_index = (negsuc 0); deviations_out = (replicate 5 (of_bits binary32 0)); past_out = (replicate 1 (of_bits binary32 0)); expected_out = (replicate 0 (of_bits binary32 0)) }) ∷ [])

abbrev t6 : List ℕ
t6 = text (
    "set\tT\t4\t1\t2\t3\t18446744073709551615\t3ca0000000000000\t3f800000" ∷
    "wgt\t40000000" ∷
    "chn\t0" ∷
    "cnt\t3\t3\t9007199254740990" ∷
    "dev\t422c8cea52d73ffd\t4219bd875fe1dd63\t42f1aadcea591cec" ∷
    "dev\t41f66279de5ffffd\t422694d926a71bb0\t42e87a39a6f30a93" ∷
    "dev\t423e54cf4b13bffd\t4225e40f3392efc4\t42efdc5c5b26c8d4" ∷
    "dev\t4211a9c956c5fffd\t4211a26d33d4d803\t42f171b5522ae4e8" ∷
    "dev\t4236bf02cccd5ffd\t42276a20661dd843\t42e8f249b74b520a" ∷
    "dev\t4226029caee17ffd\t422370ad26d09ffd\t42f34d385e91aab2" ∷
    "dev\t423b9dd3ad5fbffd\t42180dcb25377ffd\t42eada7ac7617552" ∷
    "dev\t421dad808c51fffd\t42116d72ed8c4a0b\t42ea341496ec5fe9" ∷
    "dev\t42353275e9757ffd\t42170e4e62315ceb\t42ea6bccda9d71e3" ∷
    "dev\t42195b58cb01fffd\t421886598d773f13\t42df21ee7b61d017" ∷
    "inp\t3dcccccd\t4671d7b7" ∷
    "pnt\tbe83fa31\t415f775c\t4631b523\t412ddd6f" ∷
    "tim\t16\t19" ∷ [])

away6 : away (read f6) c6 ≡ t6
unfolding trace_all
away6 = refl

answers6 : answered (read f6) c6 ≡ (
    wrote ((of_bits binary32 0x4631b523) ∷ (of_bits binary32 0x412ddd6f) ∷ (of_bits binary32 0x420d3b4d) ∷ (of_bits binary32 0x4a80b829) ∷ []) ∷
    refused 20 ∷
    refused 15 ∷
    refused 10 ∷
    wrote ((of_bits binary32 0x4631b523) ∷ (of_bits binary32 0x412ddd6f) ∷ (of_bits binary32 0x42257b20) ∷ (of_bits binary32 0x4a80b875) ∷ []) ∷
    refused 18 ∷ [])
unfolding trace_all
answers6 = refl

abbrev f7 : List ℕ
f7 = text (
    "set\tT\t5\t1\t1\t2\t18446744073709551615\t3fb999999999999a\t3f800000" ∷
    "wgt\tbf000000" ∷
    "chn\t8" ∷
    "cnt\t2\t0\t9007199254740987" ∷
    "dev\t423ec9e6b27ec000\t41fc2b963a200000\t42ecaef7de7e3fcb" ∷
    "dev\t42391e7e48282000\t42112661d8ad4000\t42cd0658250acb80" ∷
    "dev\t41f942b0bd760000\t4210d6d54a5bc000\t42f38c8542bd95a0" ∷
    "dev\t42255bd9d91c8000\t421e7f7ba3674000\t42c9929f0a259355" ∷
    "dev\t4227dc22e53d0000\t4229ee3ad111c000\t42ea233d1cab8595" ∷
    "dev\t4211e85411fd0000\t4202710892fb8000\t42cb9793b8d95400" ∷
    "dev\t4239b1f20aa96000\t41a08fe6f7800000\t42e995da9ba62035" ∷
    "dev\t422cd228472e4000\t4211783d341b8000\t42d8f86809eaf100" ∷
    "dev\t42076284a42f0000\t4220f5bd5a1fa000\t42e5c33dc9074ab5" ∷
    "dev\t4236c5cd5f5e8000\t42285d601005e000\t42ef2a1c00e5d04b" ∷
    "inp\tc2acc000" ∷
    "pnt\tf47a3aef\tff800000" ∷
    "tim\t0" ∷
    "buf\t0\t7bdbb707" ∷
    "buf\t48\t41200000" ∷ [])

abbrev c7 : List Call
c7 = (
    post_process (record { input = ((of_bits binary32 0x41860000) ∷ []); timestamp = 105; rcf_point = (some ((of_bits binary32 0x116c2) ∷ (of_bits binary32 0x40e00000) ∷ (of_bits binary32 0x40e00000) ∷ [])); expected_point = none; grade = (of_bits binary32 0x0); relative_index = (pos 0); deviations_out = (replicate 4 (of_bits binary32 0)); past_out = (replicate 1 (of_bits binary32 0)); expected_out = (replicate 1 (of_bits binary32 0)) }) ∷
    post_process (record { input = ((of_bits binary32 0x428d8000) ∷ []); timestamp = 703525289465; rcf_point = (some ((of_bits binary32 0x7f7fffff) ∷ (of_bits binary32 0x40400000) ∷ [])); expected_point = (some ((of_bits binary32 0xb2b5a53e) ∷ (of_bits binary32 0xc0000000) ∷ [])); grade = (of_bits binary32 0x1); relative_index = (pos 0); deviations_out = (replicate 5 (of_bits binary32 0)); past_out = (replicate 2 (of_bits binary32 0)); expected_out = (replicate 1 (of_bits binary32 0)) }) ∷
    post_process (record { input = ((of_bits binary32 0x42270000) ∷ []); timestamp = 703525289468; rcf_point = (some ((of_bits binary32 0x4491232b) ∷ (of_bits binary32 0x46245073) ∷ [])); expected_point = none; grade = (of_bits binary32 0x1); relative_index = (pos 0); deviations_out = (replicate 5 (of_bits binary32 0)); past_out = (replicate 0 (of_bits binary32 0)); expected_out = (replicate 1 (of_bits binary32 0)) }) ∷
    shingled_point ((of_bits binary32 0x42828000) ∷ []) 703525289487 (replicate 0 (of_bits binary32 0)) ∷
    post_process (record { input = ((of_bits binary32 0xff800000) ∷ []); timestamp = 703525289507; rcf_point = (some ([])); expected_point = none; grade = (of_bits binary32 0x1); relative_index = (pos 0); deviations_out = (replicate 2 (of_bits binary32 0)); past_out = (replicate 1 (of_bits binary32 0)); expected_out = (replicate 3 (of_bits binary32 0)) }) ∷
    post_process (record { input = ((of_bits binary32 0x41be0000) ∷ []); timestamp = 703525289516; rcf_point = (some ((of_bits binary32 0xc2bc2000) ∷ (of_bits binary32 0xc1000000) ∷ [])); expected_point = (some ((of_bits binary32 0x41200000) ∷ (of_bits binary32 0x4305b000) ∷ [])); grade = nan; relative_index = (pos 0); deviations_out = (replicate 2 (of_bits binary32 0)); past_out = (replicate 1 (of_bits binary32 0)); expected_out = (replicate 1 (of_bits binary32 0)) }) ∷ [])

abbrev t7 : List ℕ
t7 = text (
    "set\tT\t5\t1\t1\t2\t18446744073709551615\t3fb999999999999a\t3f800000" ∷
    "wgt\tbf000000" ∷
    "chn\t8" ∷
    "cnt\t5\t3\t9007199254740990" ∷
    "dev\t423671e7ec1e1636\t41f4893f355f24de\t42e4e9061ac90a73" ∷
    "dev\t42324fd461282733\t4209012d63e3cae1\t42c528b893ff1e45" ∷
    "dev\t41f8829f8b82169b\t421056cc116dbf00\t42f2f7e19be296e8" ∷
    "dev\t4224b97348af37c0\t421d9797c8ffbbce\t42c8d02e17d0659e" ∷
    "dev\t422726b7f32afaa4\t4229291154bf0226\t42e95c8092a476da" ∷
    "dev\t420a1bf36822b6c8\t427bd95a67d19f7d\t44f1c087c83c9d12" ∷
    "dev\t4232bb527f14334c\t426096824284d76b\t44d53950273ee651" ∷
    "dev\t422bf704c891bc88\t4210f8d33b2e7512\t42f07ce1374ed0f3" ∷
    "dev\t4206b0b66a1d35f3\t422074c92051aa21\t42e51dc518c86f58" ∷
    "dev\t423618a6ba504573\t4227a4e8ca7e84bc\t42efebe77b9ab998" ∷
    "inp\t41be0000" ∷
    "pnt\tc2bc2000\tc1000000" ∷
    "tim\t703525289516" ∷
    "buf\t0\t7bdbb707" ∷
    "buf\t48\t41200000" ∷ [])

away7 : away (read f7) c7 ≡ t7
unfolding trace_all
away7 = refl

answers7 : answered (read f7) c7 ≡ (
    refused 13 ∷
    learnt (record { written = true; anomaly = some (record { past_timestamp = 0; likelihood = (of_bits binary32 0x3f800000) }); deviations_out = ((of_bits binary32 0x3f8b1bc4) ∷ (of_bits binary32 0x4a083fc1) ∷ (of_bits binary32 0x0) ∷ (of_bits binary32 0x0) ∷ (of_bits binary32 0x0) ∷ []); past_out = ((of_bits binary32 0x428d8000) ∷ (of_bits binary32 0x0) ∷ []); expected_out = ((of_bits binary32 0xc2acc000) ∷ []) }) ∷
    learnt (record { written = true; anomaly = none; deviations_out = ((of_bits binary32 0x3f8b1bc4) ∷ (of_bits binary32 0x4a083fc1) ∷ (of_bits binary32 0x0) ∷ (of_bits binary32 0x0) ∷ (of_bits binary32 0x0) ∷ []); past_out = ([]); expected_out = ((of_bits binary32 0x0) ∷ []) }) ∷
    refused 20 ∷
    refused 11 ∷
    learnt (record { written = true; anomaly = none; deviations_out = ((of_bits binary32 0x3f8b1bc4) ∷ (of_bits binary32 0x4a083fc1) ∷ []); past_out = ((of_bits binary32 0x0) ∷ []); expected_out = ((of_bits binary32 0x0) ∷ []) }) ∷ [])
unfolding trace_all
answers7 = refl

abbrev f8 : List ℕ
f8 = text (
    "set\tT\t0\t1\t1\t2\t3\t8000000000000000\t40000000" ∷
    "wgt\t3f800000" ∷
    "chn\t65535" ∷
    "cnt\t0\t0\t9007199254740987" ∷
    "dev\t4231b8c6d5b3a000\tc1d75a8c9fd40000\t42f3acf7cc05b3f5" ∷
    "dev\t4234b05777c78000\t4200c74ff5e90000\t42ef70ea894b936b" ∷
    "dev\t4226c4ab22878000\t4204a0cb88250000\t42f2a72fb5b4aeb5" ∷
    "dev\t4234e0038b010000\tc1f6f3978ec50000\t42f0c8b6c323b36b" ∷
    "dev\t423ae32c0d5c0000\t421d76cd8cf50000\t42bd5d6abc77b700" ∷
    "dev\t422c2ed24251c000\t421238c47e0c4000\t42f433923ab48a55" ∷
    "dev\t423c69a24159c000\t4212c8b9abc64000\t426aedaaa18b8aab" ∷
    "dev\t422e576422a28000\t421b70579bafc000\t42d5857eb64071ab" ∷
    "dev\t420c2b221cbd0000\t420ed3db0a718000\t42eefb93de735d20" ∷
    "dev\t4220e730eeb90000\t4213e6199af14000\t42be7d3e6180b355" ∷
    "inp\t42fde000" ∷
    "pnt\t7fc00000\t1e3ce508" ∷
    "tim\t0" ∷ [])

abbrev c8 : List Call
c8 = (
    shingled_point ((of_bits binary32 0x41d00000) ∷ []) 275833082166 (replicate 2 (of_bits binary32 0)) ∷
    post_process (record { input = ((of_bits binary32 0x42958000) ∷ []); timestamp = 275833082176; rcf_point = (some ((of_bits binary32 0x41d00000) ∷ (of_bits binary32 0xd1850c1e) ∷ [])); expected_point = (some ((of_bits binary32 0x41d00000) ∷ (of_bits binary32 0xd1850c1e) ∷ [])); grade = (of_bits binary32 0x7f800000); relative_index = (pos 0); deviations_out = (replicate 2 (of_bits binary32 0)); past_out = (replicate 2 (of_bits binary32 0)); expected_out = (replicate 3 (of_bits binary32 0)) }) ∷
    shingled_point ((of_bits binary32 0x40e00000) ∷ []) 275833082188 (replicate 2 (of_bits binary32 0)) ∷
    shingled_point ((of_bits binary32 0x42730000) ∷ []) 275833082194 (replicate 2 (of_bits binary32 0)) ∷
    shingled_point ((of_bits binary32 0x428e0000) ∷ []) 275833082203 (replicate 2 (of_bits binary32 0)) ∷
    post_process (record { input = ((of_bits binary32 0x42120000) ∷ []); timestamp = 275833082203; rcf_point = (some ((of_bits binary32 0x466560ca) ∷ (of_bits binary32 0x40800000) ∷ [])); expected_point = none; grade = nan; relative_index = (pos 0); deviations_out = (replicate 2 (of_bits binary32 0)); past_out = (replicate 1 (of_bits binary32 0)); expected_out = (replicate 0 (of_bits binary32 0)) }) ∷ [])

abbrev t8 : List ℕ
t8 = text (
    "set\tT\t0\t1\t1\t2\t3\t8000000000000000\t40000000" ∷
    "wgt\t3f800000" ∷
    "chn\t65535" ∷
    "cnt\t2\t2\t9007199254740989" ∷
    "dev\t4231b8c6d5b5a000\tc1d75a8c84040000\t42f3acf7cc076472" ∷
    "dev\t4234b05777c98000\t4200c74ff3158000\t42ef70ea894d9ebe" ∷
    "dev\t4226c4ab228b8000\t4204a0cb8c5bf940\t42f2a72fb5b6e729" ∷
    "dev\t4234e0038b030000\tc1f6f3978ec1c18a\t42f0c8b6c323b36b" ∷
    "dev\t423ae32c0d5e0000\t421d76cd8eb34eec\t42bd5d6abc9007b8" ∷
    "dev\t422c2ed24255c000\t4260a001d843c200\t44c01c8412a2b851" ∷
    "dev\t423c69a2415bc000\t42513ac74f132400\t44b01c8411fb2d2b" ∷
    "dev\t422e576422a68000\t421b70fcd23a71b8\t42d661046b26a143" ∷
    "dev\t420c2b221ccd0000\t420ed3db0a984f5e\t42eefb93de735e98" ∷
    "dev\t4220e730eebd0000\t4213e679fe24dc19\t42bf9f92cab0f149" ∷
    "inp\t42120000" ∷
    "pnt\t466560ca\t40800000" ∷
    "tim\t275833082203" ∷ [])

away8 : away (read f8) c8 ≡ t8
unfolding trace_all
away8 = refl

answers8 : answered (read f8) c8 ≡ (
    wrote ((of_bits binary32 0x41d00000) ∷ (of_bits binary32 0xd1850c1e) ∷ []) ∷
    learnt (record { written = true; anomaly = some (record { past_timestamp = 0; likelihood = (of_bits binary32 0x3f800000) }); deviations_out = ((of_bits binary32 0x3e8c443c) ∷ (of_bits binary32 0x49c0c667) ∷ []); past_out = ((of_bits binary32 0x42958000) ∷ (of_bits binary32 0x0) ∷ []); expected_out = ((of_bits binary32 0x41d00000) ∷ (of_bits binary32 0x0) ∷ (of_bits binary32 0x0) ∷ []) }) ∷
    wrote ((of_bits binary32 0x40e00000) ∷ (of_bits binary32 0xd18509d9) ∷ []) ∷
    wrote ((of_bits binary32 0x42730000) ∷ (of_bits binary32 0xd18509d9) ∷ []) ∷
    wrote ((of_bits binary32 0x428e0000) ∷ (of_bits binary32 0xd18509d9) ∷ []) ∷
    learnt (record { written = true; anomaly = none; deviations_out = ((of_bits binary32 0x3e8c443c) ∷ (of_bits binary32 0x49c0c667) ∷ []); past_out = ((of_bits binary32 0x0) ∷ []); expected_out = ([]) }) ∷ [])
unfolding trace_all
answers8 = refl

abbrev f9 : List ℕ
f9 = text (
    "set\tS\t5\t1\t2\t1\t18446744073709551615\t3cb0000000000001\t40400000" ∷
    "wgt\t3f000000" ∷
    "chn\t0" ∷
    "cnt\t0\t0\t9007199254740989" ∷
    "dev\t41fa899db56e0000\t4209574eb7838000\t42b2fb0647f03c55" ∷
    "dev\t423c77ade5ff2000\t421ada1e4f398000\t42d879245bb5ab6b" ∷
    "dev\t422d0dde0f64c000\t421f695a1fc88000\t42ebcadd9b883315" ∷
    "dev\t422fe92c29d7c000\t4213c60d9ea98000\t42f14ffa96124b75" ∷
    "dev\t4230c256f3036000\t4214175fbbbc8000\t42e8802bfb304535" ∷
    "dev\t423087f870258000\t4223b929bcddc000\t42d682f17e4ea4eb" ∷
    "dev\t420f9946689c0000\t4210514a1b5b4000\t42e4ae8b82fc0360" ∷
    "dev\t4213c43ce60a0000\t422550a11ba9e000\t42ece39949619e95" ∷
    "dev\t42337eb5f49a0000\t422afb83d800e000\t42d02f186c2c716b" ∷
    "dev\t421284fcb5260000\t42233854276d8000\t42c8f361abf241d5" ∷
    "inp\t3f800000\t41000000" ∷
    "pnt\tf454923c\t3dcccccd" ∷
    "tim\t0\t0" ∷ [])

abbrev c9 : List Call
c9 = (
    post_process (record { input = ((of_bits binary32 0x424d0000) ∷ []); timestamp = 51; rcf_point = (some ((of_bits binary32 0x40ac0000) ∷ (of_bits binary32 0x42e17367) ∷ [])); expected_point = none; grade = (of_bits binary32 0xbf800000); relative_index = (pos 2); deviations_out = (replicate 1 (of_bits binary32 0)); past_out = (replicate 1 (of_bits binary32 0)); expected_out = (replicate 0 (of_bits binary32 0)) }) ∷
    shingled_point ((of_bits binary32 0x42848000) ∷ []) 64 (replicate 5 (of_bits binary32 0)) ∷
    shingled_point ((of_bits binary32 0x418e0000) ∷ []) 76 (replicate 1 (of_bits binary32 0)) ∷
    post_process (record { input = ([]); timestamp = 76; rcf_point = (some ((of_bits binary32 0x0) ∷ (of_bits binary32 0x411bc963) ∷ [])); expected_point = none; grade = (of_bits binary32 0x3f800000); relative_index = (pos 0); deviations_out = (replicate 3 (of_bits binary32 0)); past_out = (replicate 0 (of_bits binary32 0)); expected_out = (replicate 3 (of_bits binary32 0)) }) ∷
    shingled_point ((of_bits binary32 0x42a88000) ∷ []) 85 (replicate 2 (of_bits binary32 0)) ∷
    post_process (record { input = ([]); timestamp = 95; rcf_point = (some ((of_bits binary32 0x0) ∷ (of_bits binary32 0x41ab5d86) ∷ [])); expected_point = none; grade = (of_bits binary32 0x0); relative_index = (negsuc 2147483647); deviations_out = (replicate 1 (of_bits binary32 0)); past_out = (replicate 4 (of_bits binary32 0)); expected_out = (replicate 1 (of_bits binary32 0)) }) ∷ [])

abbrev t9 : List ℕ
t9 = text (
    "set\tS\t5\t1\t2\t1\t18446744073709551615\t3cb0000000000001\t40400000" ∷
    "wgt\t3f000000" ∷
    "chn\t0" ∷
    "cnt\t1\t1\t9007199254740990" ∷
    "dev\t41fa899db57dfffe\t4209574eb91d7ffe\t42b2fb0647fa7ee4" ∷
    "dev\t423c77ade6001ffe\t421ada1e4f397ffe\t42d879245bb5ab69" ∷
    "dev\t422d0dde0f66bfff\t421f695a20a0de43\t42ebcadd9b89a0d2" ∷
    "dev\t422fe92c29d9bfff\t4213c60d9eaa7178\t42f14ffa96124b75" ∷
    "dev\t4230c256f3045fff\t4214175fbc332d58\t42e8802bfb30b33d" ∷
    "dev\t423087f870267fff\t4223b929bd43bfff\t42d682f17e512f2a" ∷
    "dev\t420f994668a3fffe\t4210514a1b5b3fff\t42e4ae8b82fc035f" ∷
    "dev\t4213c43ce60dffff\t422550a11bf48cce\t42ece39949624cd7" ∷
    "dev\t42337eb5f49affff\t422afb83d802f0ca\t42d02f186c2c71ae" ∷
    "dev\t421284fcb529ffff\t42233854283c9953\t42c8f361ac073313" ∷
    "inp\t424d0000\t424d0000" ∷
    "pnt\t3dcccccd\t00000000" ∷
    "tim\t51\t51" ∷ [])

away9 : away (read f9) c9 ≡ t9
unfolding trace_all
away9 = refl

answers9 : answered (read f9) c9 ≡ (
    learnt (record { written = true; anomaly = none; deviations_out = ((of_bits binary32 0x3e997328) ∷ []); past_out = ((of_bits binary32 0x0) ∷ []); expected_out = ([]) }) ∷
    wrote ((of_bits binary32 0x0) ∷ (of_bits binary32 0x411bc963) ∷ (of_bits binary32 0x0) ∷ (of_bits binary32 0x0) ∷ (of_bits binary32 0x0) ∷ []) ∷
    refused 20 ∷
    refused 10 ∷
    wrote ((of_bits binary32 0x0) ∷ (of_bits binary32 0x41ab5d86) ∷ []) ∷
    refused 10 ∷ [])
unfolding trace_all
answers9 = refl

abbrev f10 : List ℕ
f10 = text (
    "set\tT\t4\t1\t2\t5\t9223372036854775808\t3df0000000a00000\t3dcccccd" ∷
    "wgt\t3dcccccd" ∷
    "chn\t256" ∷
    "cnt\t5\t0\t2147483641" ∷
    "dev\t421aa01d75960000\t42215fd18900e000\t42d45cc501f84fab" ∷
    "dev\t4200943ba6960000\t41d4ef1c1fa00000\t42e20bf672c648c0" ∷
    "dev\t4211d4bd63b78000\t42210f63e2df4000\t42e4f86e37744a4b" ∷
    "dev\t4225024255e38000\tc1d39bce4e200000\t42e6373cddd800c0" ∷
    "dev\t423e04d48e4c8000\t41c1b9aa54100000\t42ee93e5189495c0" ∷
    "dev\t423daa7636dba000\t421d57aaaa0f0000\t42f1e4c3078a1ec5" ∷
    "dev\t423ccb5bf4840000\tc1f4cc1b24da0000\t42dda47ac6866395" ∷
    "dev\t421106c25f480000\t4223bc8361b10000\t42e521ebe3b913d5" ∷
    "dev\t41d187a842200000\tc1f1975443980000\t42e699c0394bd140" ∷
    "dev\t4221204696acc000\t4210a07b9cf64000\t42f072e1aa338a8b" ∷
    "inp\t40e00000\t1e3ce508" ∷
    "pnt\t4604aadf\t7f800000\t7fc00000\tc0c00000" ∷
    "tim\t0\t0" ∷
    "buf\t11\t41be0000" ∷
    "buf\t20\t3f800000" ∷
    "buf\t22\t00000000" ∷
    "buf\t23\t42b6e000" ∷
    "buf\t32\tc0a00000" ∷ [])

abbrev c10 : List Call
c10 = (
    post_process (record { input = ((of_bits binary32 0x5001b7ef) ∷ []); timestamp = 9223372036854775826; rcf_point = (some ((of_bits binary32 0xc1ff0000) ∷ (of_bits binary32 0x452a7930) ∷ (of_bits binary32 0xc20f0000) ∷ (of_bits binary32 0x566850f7) ∷ [])); expected_point = (some ((of_bits binary32 0xc2544000) ∷ (of_bits binary32 0xbf800000) ∷ (of_bits binary32 0xff800000) ∷ (of_bits binary32 0xe0ad78ec) ∷ [])); grade = (of_bits binary32 0x1); relative_index = (negsuc 0); deviations_out = (replicate 2 (of_bits binary32 0)); past_out = (replicate 1 (of_bits binary32 0)); expected_out = (replicate 4 (of_bits binary32 0)) }) ∷
    shingled_point ((of_bits binary32 0x1) ∷ []) 9223372036854775826 (replicate 4 (of_bits binary32 0)) ∷
    post_process (record { input = ((of_bits binary32 0x466e5c82) ∷ []); timestamp = 9223372036854775841; rcf_point = (some ((of_bits binary32 0x4679b5ad) ∷ (of_bits binary32 0x3f800000) ∷ (of_bits binary32 0x42a42000) ∷ (of_bits binary32 0xc2684000) ∷ [])); expected_point = none; grade = (of_bits binary32 0x3f000000); relative_index = (pos 0); deviations_out = (replicate 2 (of_bits binary32 0)); past_out = (replicate 1 (of_bits binary32 0)); expected_out = (replicate 1 (of_bits binary32 0)) }) ∷
    post_process (record { input = ((of_bits binary32 0x3f800000) ∷ []); timestamp = 9223372036854775849; rcf_point = (some ((of_bits binary32 0xc20f0000) ∷ (of_bits binary32 0x566850f7) ∷ (of_bits binary32 0xbf0d6d78) ∷ (of_bits binary32 0x5efff6d4) ∷ [])); expected_point = none; grade = (of_bits binary32 0x3f000000); relative_index = (pos 0); deviations_out = (replicate 2 (of_bits binary32 0)); past_out = (replicate 1 (of_bits binary32 0)); expected_out = (replicate 1 (of_bits binary32 0)) }) ∷
    shingled_point ((of_bits binary32 0xfa33e1c) ∷ []) 9223372036854775867 (replicate 4 (of_bits binary32 0)) ∷
    post_process (record { input = ((of_bits binary32 0x4594a58e) ∷ []); timestamp = 9223372036854775883; rcf_point = (some ((of_bits binary32 0xbf0d6d78) ∷ (of_bits binary32 0x5efff6d4) ∷ (of_bits binary32 0xbf0d6d69) ∷ (of_bits binary32 0x5efffcf0) ∷ [])); expected_point = none; grade = nan; relative_index = (pos 0); deviations_out = (replicate 2 (of_bits binary32 0)); past_out = (replicate 1 (of_bits binary32 0)); expected_out = (replicate 1 (of_bits binary32 0)) }) ∷ [])

abbrev t10 : List ℕ
t10 = text (
    "set\tT\t4\t1\t2\t5\t9223372036854775808\t3df0000000a00000\t3dcccccd" ∷
    "wgt\t3dcccccd" ∷
    "chn\t256" ∷
    "cnt\t9\t4\t2147483645" ∷
    "dev\t421aa01d74d0ff14\t42256d919cb73375\t44106eba06ce3ce2" ∷
    "dev\t4200943ba6315e24\t41d4ef20dd596722\t44206eb7fb60001e" ∷
    "dev\t4211d4bd6338da14\t42210f6a2b4185dc\t42e4f8bd365866f3" ∷
    "dev\t4225024255436dec\tc1d39bce4d1c2193\t42e6373cdd264704" ∷
    "dev\t423e04d48d60595c\t41c1bd5b2470b089\t42ee95a121f494d3" ∷
    "dev\t423daa7635f24c50\t44000000000aaf55\t47efffffffa00000" ∷
    "dev\t423ccb5bf3a1a520\t43dffffffeeccf93\t47cfffffff400000" ∷
    "dev\t421106c25ecfc9ec\t42e20f5e743befe9\t45b592d87b273e24" ∷
    "dev\t41d187a84293c2bc\tc1f07ad440531dc2\t4353eff7e1617724" ∷
    "dev\t42212046962bbdcc\t42d7db97988f6830\t45a1c8002bb01744" ∷
    "inp\t3f800000\t4594a58e" ∷
    "pnt\tbf0d6d78\t5efff6d4\tbf0d6d69\t5efffcf0" ∷
    "tim\t9223372036854775849\t9223372036854775883" ∷
    "buf\t11\t41be0000" ∷
    "buf\t20\t3f800000" ∷
    "buf\t22\t00000000" ∷
    "buf\t23\t42b6e000" ∷
    "buf\t32\tc0a00000" ∷ [])

away10 : away (read f10) c10 ≡ t10
unfolding trace_all
away10 = refl

answers10 : answered (read f10) c10 ≡ (
    learnt (record { written = true; anomaly = some (record { past_timestamp = 0; likelihood = (of_bits binary32 0x3f800000) }); deviations_out = ((of_bits binary32 0x3b972f13) ∷ (of_bits binary32 0x5418a9f1) ∷ []); past_out = ((of_bits binary32 0x1e3ce508) ∷ []); expected_out = ((of_bits binary32 0xc4c11607) ∷ (of_bits binary32 0x0) ∷ (of_bits binary32 0x0) ∷ (of_bits binary32 0x0) ∷ []) }) ∷
    wrote ((of_bits binary32 0xc20f0000) ∷ (of_bits binary32 0x566850f7) ∷ (of_bits binary32 0xbf0d6d78) ∷ (of_bits binary32 0x5efff6d4) ∷ []) ∷
    learnt (record { written = true; anomaly = none; deviations_out = ((of_bits binary32 0x3b973791) ∷ (of_bits binary32 0x5418a9f1) ∷ []); past_out = ((of_bits binary32 0x0) ∷ []); expected_out = ((of_bits binary32 0x0) ∷ []) }) ∷
    learnt (record { written = true; anomaly = none; deviations_out = ((of_bits binary32 0x3b97400e) ∷ (of_bits binary32 0x5418a9f1) ∷ []); past_out = ((of_bits binary32 0x0) ∷ []); expected_out = ((of_bits binary32 0x0) ∷ []) }) ∷
    wrote ((of_bits binary32 0xbf0d6d78) ∷ (of_bits binary32 0x5efff6d4) ∷ (of_bits binary32 0xbf0d6d69) ∷ (of_bits binary32 0x5efffcf0) ∷ []) ∷
    learnt (record { written = true; anomaly = none; deviations_out = ((of_bits binary32 0x3b97488c) ∷ (of_bits binary32 0x5418a9f1) ∷ []); past_out = ((of_bits binary32 0x0) ∷ []); expected_out = ((of_bits binary32 0x0) ∷ []) }) ∷ [])
unfolding trace_all
answers10 = refl

abbrev f11 : List ℕ
f11 = text (
    "set\tT\t4\t1\t2\t4\t18446744073709551615\t8000000000000000\t3f800000" ∷
    "wgt\t3f000000" ∷
    "chn\t772" ∷
    "cnt\t4\t0\t2147483641" ∷
    "dev\t42314f349711c000\t421118d43360c000\t42d36a505781dad5" ∷
    "dev\t423fa21333f04000\t42094ca9aa318000\t427bbe9d070f9555" ∷
    "dev\t423a91ccc1c96000\t419c2c0971c00000\t42eb070259decc55" ∷
    "dev\t4220d4b154090000\t421cf73bf3290000\t42f06de6ed11763b" ∷
    "dev\t4229a2f121604000\t422a2d8379992000\t42ef8922ab1206d5" ∷
    "dev\t421185cb6c218000\t4205f8bca4290000\t42f3fe5230386510" ∷
    "dev\t422b8024ce124000\t4213bb983d7a0000\t42c1951fc898baab" ∷
    "dev\t422f01847d808000\t420bfc15e9d88000\t42f2a92c6debb625" ∷
    "dev\t42399ca155eaa000\t422718bb8084c000\t42e02fc1d746bef5" ∷
    "dev\t4237043bc9c3e000\t4209710764e30000\t42d9f341e29220d5" ∷
    "inp\t7f800000\t40c00000" ∷
    "pnt\t41500000\tc0800000\t844ffcc4\t41200000" ∷
    "tim\t0\t0" ∷
    "buf\t17\tc0a00000" ∷
    "buf\t22\tc1100000" ∷
    "buf\t28\tc1990000" ∷
    "buf\t33\te0ad78ec" ∷ [])

abbrev c11 : List Call
c11 = (
    post_process (record { input = ([]); timestamp = 33; rcf_point = (some ((of_bits binary32 0x461e3595) ∷ (of_bits binary32 0x42d52000) ∷ (of_bits binary32 0x1e3ce508) ∷ (of_bits binary32 0x80000000) ∷ [])); expected_point = none; grade = (of_bits binary32 0x3f800000); relative_index = (pos 0); deviations_out = (replicate 2 (of_bits binary32 0)); past_out = (replicate 1 (of_bits binary32 0)); expected_out = (replicate 3 (of_bits binary32 0)) }) ∷
    post_process (record { input = ((of_bits binary32 0x41fc0000) ∷ []); timestamp = 64; rcf_point = (some ([])); expected_point = none; grade = (of_bits binary32 0x0); relative_index = (pos 2147483647); deviations_out = (replicate 0 (of_bits binary32 0)); past_out = (replicate 0 (of_bits binary32 0)); expected_out = (replicate 0 (of_bits binary32 0)) }) ∷
    post_process (record { input = ((of_bits binary32 0x41000000) ∷ []); timestamp = 81; rcf_point = (some ((of_bits binary32 0xbf800000) ∷ (of_bits binary32 0x464c4a54) ∷ (of_bits binary32 0xbf800000) ∷ (of_bits binary32 0xe4c47835) ∷ [])); expected_point = none; grade = (of_bits binary32 0x80000000); relative_index = (negsuc 0); deviations_out = (replicate 2 (of_bits binary32 0)); past_out = (replicate 3 (of_bits binary32 0)); expected_out = (replicate 2 (of_bits binary32 0)) }) ∷
    post_process (record { input = ((of_bits binary32 0x42978000) ∷ []); timestamp = 99; rcf_point = (some ((of_bits binary32 0xc0a00000) ∷ (of_bits binary32 0x40c00000) ∷ (of_bits binary32 0x71a39ac3) ∷ (of_bits binary32 0xff61b1e6) ∷ [])); expected_point = none; grade = (of_bits binary32 0x0); relative_index = (pos 0); deviations_out = (replicate 2 (of_bits binary32 0)); past_out = (replicate 1 (of_bits binary32 0)); expected_out = (replicate 1 (of_bits binary32 0)) }) ∷
    post_process (record { input = ((of_bits binary32 0x383cfd51) ∷ (of_bits binary32 0xc2960000) ∷ []); timestamp = 106; rcf_point = (some ((of_bits binary32 0xff7fffff) ∷ (of_bits binary32 0x42fe6000) ∷ (of_bits binary32 0x116c2) ∷ (of_bits binary32 0xa2d4828c) ∷ [])); expected_point = none; grade = (of_bits binary32 0x1); relative_index = (negsuc 0); deviations_out = (replicate 2 (of_bits binary32 0)); past_out = (replicate 0 (of_bits binary32 0)); expected_out = (replicate 3 (of_bits binary32 0)) }) ∷
    post_process (record { input = ([]); timestamp = 95; rcf_point = (some ((of_bits binary32 0x0) ∷ (of_bits binary32 0x28190119) ∷ (of_bits binary32 0xff800000) ∷ (of_bits binary32 0x4602f4de) ∷ [])); expected_point = (some ((of_bits binary32 0x40a00000) ∷ (of_bits binary32 0x430af000) ∷ (of_bits binary32 0x7f7fffff) ∷ [])); grade = (of_bits binary32 0x0); relative_index = (pos 0); deviations_out = (replicate 2 (of_bits binary32 0)); past_out = (replicate 3 (of_bits binary32 0)); expected_out = (replicate 1 (of_bits binary32 0)) }) ∷ [])

abbrev t11 : List ℕ
t11 = text (
    "set\tT\t4\t1\t2\t4\t18446744073709551615\t8000000000000000\t3f800000" ∷
    "wgt\t3f000000" ∷
    "chn\t772" ∷
    "cnt\t6\t2\t2147483643" ∷
    "dev\t42314f349713c000\t421118d434afc000\t42d36a5057878559" ∷
    "dev\t423fa21333f24000\t42094ca9ac5f8000\t427bbe9d082eb655" ∷
    "dev\t423a91ccc1cb6000\t419c2c0a80de6028\t42eb070259dfeb77" ∷
    "dev\t4220d4b1540d0000\t421cf73bf329ccbe\t42f06de6ed11763b" ∷
    "dev\t4229a2f121644000\t422a2d8379a81aa2\t42ef8922ab120a57" ∷
    "dev\t421185cb6c298000\t4205f8bca9c90000\t42f3fe52303c63b0" ∷
    "dev\t422b8024ce164000\t4213bb983f060000\t42c1951fc8a62d2b" ∷
    "dev\t422f01847d848000\t420bfc15f2641b96\t42f2a92c6df4d6e1" ∷
    "dev\t42399ca155eca000\t422718bb80862f62\t42e02fc1d746befd" ∷
    "dev\t4237043bc9c5e000\t42097107667c5a22\t42d9f341e293681d" ∷
    "inp\t41000000\t42978000" ∷
    "pnt\tc0a00000\t40c00000\t71a39ac3\tff61b1e6" ∷
    "tim\t81\t99" ∷
    "buf\t17\tc0a00000" ∷
    "buf\t22\tc1100000" ∷
    "buf\t28\tc1990000" ∷
    "buf\t33\te0ad78ec" ∷ [])

away11 : away (read f11) c11 ≡ t11
unfolding trace_all
away11 = refl

answers11 : answered (read f11) c11 ≡ (
    refused 10 ∷
    refused 13 ∷
    learnt (record { written = true; anomaly = none; deviations_out = ((of_bits binary32 0x3f82b3df) ∷ (of_bits binary32 0x41ccad11) ∷ []); past_out = ((of_bits binary32 0x0) ∷ (of_bits binary32 0x0) ∷ (of_bits binary32 0x0) ∷ []); expected_out = ((of_bits binary32 0x0) ∷ (of_bits binary32 0x0) ∷ []) }) ∷
    learnt (record { written = true; anomaly = none; deviations_out = ((of_bits binary32 0x3f82b3df) ∷ (of_bits binary32 0x41ccad11) ∷ []); past_out = ((of_bits binary32 0x0) ∷ []); expected_out = ((of_bits binary32 0x0) ∷ []) }) ∷
    refused 10 ∷
    refused 10 ∷ [])
unfolding trace_all
answers11 = refl
