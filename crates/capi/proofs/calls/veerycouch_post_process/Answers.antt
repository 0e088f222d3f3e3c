-- `capi::calls::veerycouch_post_process` meets its contract: by the promises of the words and of the call. Assumes nothing.
use mathlib.Core.Path.{refl}
use mir.Syntax.{w32}
use mir.ValLaws.{to_z-of_z}
use Rattle.trcf.specs.View.{lent, learn_call}
use Rattle.trcf.proofs.NumberLaws.{number_zero}
use Rattle.capi.specs.Calls.{anomaly_out, is_set}
use Rattle.capi.proofs.CallLaws.{kept, opened, refused_row, not_zero, flag_from, given_call, learn_refused, learn_done}
use Rattle.capi.proofs.calls.veerycouch_post_process.Goals as goal

pub returns-in-Err : goal.returns-in-Err
returns-in-Err c =
    let a = c.args in
    learn_refused a.table.now a.role a.head.now (refused_row c.in-Err.refusal a.head.now c.from.ensures c.may.ensures c.in-Err.ensures.row_value)
    (lent a.statistics.now a.last_shingled_input.now a.last_shingled_point.now a.previous_timestamps.now a.initial_values.now a.initial_timestamps.now)
    (anomaly_out a.written.now a.has_anomaly.now a.past_timestamp.now a.likelihood.now)
    (learn_call a.input.now a.timestamp (is_set a.has_y) a.y.now (is_set a.expects) a.expected.now a.grade a.relative_index a.deviations_out.now
    a.past_out.now a.expected_out.now) (not_zero c.in-Err.refusal c.from.ensures)

pub write_counts-requires : goal.write_counts-requires
write_counts-requires c = c.in-Ok.ensures.head_read.whole

pub returns-in-Ok-learnt : goal.returns-in-Ok-learnt
returns-in-Ok-learnt c =
    let a = c.args in
    let t = c.tell_anomaly.ensures in
    learn_done a.table.now a.role a.head.now refl (λ e. c.in-Ok.ensures.head_read) (opened a.head.now c.may.ensures c.in-Ok.ensures.row_value)
    (lent a.statistics.now a.last_shingled_input.now a.last_shingled_point.now a.previous_timestamps.now a.initial_values.now a.initial_timestamps.now)
    (anomaly_out a.written.now a.has_anomaly.now a.past_timestamp.now a.likelihood.now)
    (learn_call a.input.now a.timestamp (is_set a.has_y) a.y.now (is_set a.expects) a.expected.now a.grade a.relative_index a.deviations_out.now
    a.past_out.now a.expected_out.now) _ c.in-Ok-learnt.ensures
    (given_call a.input.now a.timestamp a.grade a.relative_index a.deviations_out.now a.past_out.now a.expected_out.now
    a.has_y a.y a.expects a.expected c.then_some.ensures c.then_some-2.ensures (to_z-of_z w32 a.relative_index c.ranges.relative_index))
    c.write_counts.ensures (flag_from _ c.from-in-Ok-learnt.ensures) refl t.flag_after refl t.time_after t.likelihood_after

pub returns-in-Err-learnt : goal.returns-in-Err-learnt
returns-in-Err-learnt c =
    let a = c.args in
    let r = c.in-Err-learnt.refusal in
    let z = number_zero r in
    rw c.from-in-Err-learnt.ensures (learn_done a.table.now a.role a.head.now refl (λ e. c.in-Ok.ensures.head_read) (opened a.head.now c.may.ensures c.in-Ok.ensures.row_value)
    (lent a.statistics.now a.last_shingled_input.now a.last_shingled_point.now a.previous_timestamps.now a.initial_values.now a.initial_timestamps.now)
    (anomaly_out a.written.now a.has_anomaly.now a.past_timestamp.now a.likelihood.now)
    (learn_call a.input.now a.timestamp (is_set a.has_y) a.y.now (is_set a.expects) a.expected.now a.grade a.relative_index a.deviations_out.now
    a.past_out.now a.expected_out.now) _ c.in-Err-learnt.ensures
    (given_call a.input.now a.timestamp a.grade a.relative_index a.deviations_out.now a.past_out.now a.expected_out.now
    a.has_y a.y a.expects a.expected c.then_some.ensures c.then_some-2.ensures (to_z-of_z w32 a.relative_index c.ranges.relative_index))
    (kept _ _ _ z) refl (kept _ _ _ z) refl (kept _ _ _ z) (kept _ _ _ z) (kept _ _ _ z))
