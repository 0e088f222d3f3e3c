-- `capi::calls::veerycouch_build` meets its contract: by the promises of the words and of the call. Assumes nothing.
use mathlib.Core.Path.{refl, ap, ◌∙◌}
use mathlib.Core.Bool.{Bool, cond}
use lib.ListN.{length}
use borrow.Author.Tests.{lt-ltb}
use Rattle.trcf.specs.View.{lent, build_of}
use Rattle.trcf.specs.Settings.{settings_row}
use Rattle.trcf.proofs.NumberLaws.{number_zero}
use Rattle.capi.specs.Head.{settings_given}
use Rattle.capi.proofs.HeadLaws.{long}
use Rattle.capi.proofs.CallLaws.{kept, not_zero, settings_with, build_kind, build_settings, build_few, build_done}
use Rattle.capi.proofs.calls.veerycouch_build.Goals as goal

pub returns-in-Err : goal.returns-in-Err
returns-in-Err c =
    let a = c.args in
    build_kind a.forest_mode a.transform_method (settings_given a.forest_mode a.transform_method a.input_dimensions a.shingle_size a.start_normalization
    a.stop_normalization a.transform_decay a.weight_time a.weights.now a.codes.now) a.head.now
    (lent a.statistics.now a.last_shingled_input.now a.last_shingled_point.now a.previous_timestamps.now a.initial_values.now a.initial_timestamps.now)
    (c.from.ensures ∙ c.in-Err.ensures) (not_zero c.in-Err.refusal c.from.ensures)

pub returns-in-Err-settings_row : goal.returns-in-Err-settings_row
returns-in-Err-settings_row c =
    let a = c.args in
    let r = c.in-Err-settings_row.refusal in
    rw c.from-in-Err-settings_row.ensures (build_settings a.forest_mode a.transform_method (settings_given a.forest_mode a.transform_method a.input_dimensions a.shingle_size a.start_normalization
    a.stop_normalization a.transform_decay a.weight_time a.weights.now a.codes.now) a.head.now
    (lent a.statistics.now a.last_shingled_input.now a.last_shingled_point.now a.previous_timestamps.now a.initial_values.now a.initial_timestamps.now)
    c.in_default.ensures refl
    (c.in-Err-settings_row.ensures.value ∙
    (λ j. settings_row (settings_with (c.mode_of.ensures j) (c.method_of.ensures j) a.input_dimensions a.shingle_size
    a.start_normalization a.stop_normalization a.transform_decay a.weight_time a.weights.now a.codes.now))) (number_zero r))

pub returns-then-head-lt-HEAD_WORDS : goal.returns-then-head-lt-HEAD_WORDS
returns-then-head-lt-HEAD_WORDS c =
    let a = c.args in
    rw c.from-then-head-lt-HEAD_WORDS.ensures (build_few a.forest_mode a.transform_method (settings_given a.forest_mode a.transform_method a.input_dimensions a.shingle_size a.start_normalization
    a.stop_normalization a.transform_decay a.weight_time a.weights.now a.codes.now) a.head.now
    (lent a.statistics.now a.last_shingled_input.now a.last_shingled_point.now a.previous_timestamps.now a.initial_values.now a.initial_timestamps.now)
    c.in_default.ensures refl
    (c.in_default-settings_row.ensures.value ∙
    (λ j. settings_row (settings_with (c.mode_of.ensures j) (c.method_of.ensures j) a.input_dimensions a.shingle_size
    a.start_normalization a.stop_normalization a.transform_decay a.weight_time a.weights.now a.codes.now))) refl
    (ap (λ (b : Bool). cond b 20 0) (lt-ltb (length a.head.now) 44 c.if-head-lt-HEAD_WORDS.true)))

pub returns-in-Ok : goal.returns-in-Ok
returns-in-Ok c =
    let a = c.args in
    build_done a.forest_mode a.transform_method (settings_given a.forest_mode a.transform_method a.input_dimensions a.shingle_size a.start_normalization
    a.stop_normalization a.transform_decay a.weight_time a.weights.now a.codes.now) a.head.now
    (lent a.statistics.now a.last_shingled_input.now a.last_shingled_point.now a.previous_timestamps.now a.initial_values.now a.initial_timestamps.now)
    c.in_default.ensures refl
    (c.in_default-settings_row.ensures.value ∙
    (λ j. settings_row (settings_with (c.mode_of.ensures j) (c.method_of.ensures j) a.input_dimensions a.shingle_size
    a.start_normalization a.stop_normalization a.transform_decay a.weight_time a.weights.now a.codes.now))) refl (long a.head.now c.if-head-lt-HEAD_WORDS.false)
    (c.in-Ok.ensures ∙ (λ j. build_of
    (settings_with (c.mode_of.ensures j) (c.method_of.ensures j) a.input_dimensions a.shingle_size a.start_normalization a.stop_normalization a.transform_decay
    a.weight_time a.weights.now a.codes.now)
    (lent a.statistics.now a.last_shingled_input.now a.last_shingled_point.now a.previous_timestamps.now a.initial_values.now a.initial_timestamps.now))) c.write_head.ensures

pub returns-in-Err-built : goal.returns-in-Err-built
returns-in-Err-built c =
    let a = c.args in
    let r = c.in-Err-built.refusal in
    rw c.from-in-Err-built.ensures (build_done a.forest_mode a.transform_method (settings_given a.forest_mode a.transform_method a.input_dimensions a.shingle_size a.start_normalization
    a.stop_normalization a.transform_decay a.weight_time a.weights.now a.codes.now) a.head.now
    (lent a.statistics.now a.last_shingled_input.now a.last_shingled_point.now a.previous_timestamps.now a.initial_values.now a.initial_timestamps.now)
    c.in_default.ensures refl
    (c.in_default-settings_row.ensures.value ∙
    (λ j. settings_row (settings_with (c.mode_of.ensures j) (c.method_of.ensures j) a.input_dimensions a.shingle_size
    a.start_normalization a.stop_normalization a.transform_decay a.weight_time a.weights.now a.codes.now))) refl (long a.head.now c.if-head-lt-HEAD_WORDS.false)
    (c.in-Err-built.ensures ∙ (λ j. build_of
    (settings_with (c.mode_of.ensures j) (c.method_of.ensures j) a.input_dimensions a.shingle_size a.start_normalization a.stop_normalization a.transform_decay
    a.weight_time a.weights.now a.codes.now)
    (lent a.statistics.now a.last_shingled_input.now a.last_shingled_point.now a.previous_timestamps.now a.initial_values.now a.initial_timestamps.now))) (kept _ _ _ (number_zero r)))
