-- `capi::calls::veerycouch_shingled_point` meets its contract: by the promises of the words and of the call. Assumes nothing.
use mathlib.Core.Path.{refl}
use Rattle.trcf.specs.View.{lent}
use Rattle.trcf.proofs.NumberLaws.{number_zero}
use Rattle.capi.proofs.CallLaws.{kept, opened, refused_row, not_zero, flag_from, point_refused, point_done}
use Rattle.capi.proofs.calls.veerycouch_shingled_point.Goals as goal

pub returns-in-Err : goal.returns-in-Err
returns-in-Err c =
    let a = c.args in
    point_refused a.table.now a.role a.head.now (refused_row c.in-Err.refusal a.head.now c.from.ensures c.may_point.ensures c.in-Err.ensures.row_value)
    (lent a.statistics.now a.last_shingled_input.now a.last_shingled_point.now a.previous_timestamps.now a.initial_values.now a.initial_timestamps.now)
    a.input.now a.timestamp a.given.now a.output.now (not_zero c.in-Err.refusal c.from.ensures)

pub write_counts-requires : goal.write_counts-requires
write_counts-requires c = c.in-Ok.ensures.head_read.whole

pub returns-in-Ok-pointed : goal.returns-in-Ok-pointed
returns-in-Ok-pointed c =
    let a = c.args in
    point_done a.table.now a.role a.head.now refl (λ e. c.in-Ok.ensures.head_read) (opened a.head.now c.may_point.ensures c.in-Ok.ensures.row_value)
    (lent a.statistics.now a.last_shingled_input.now a.last_shingled_point.now a.previous_timestamps.now a.initial_values.now a.initial_timestamps.now)
    a.input.now a.timestamp a.given.now a.output.now c.in-Ok-pointed.ensures c.write_counts.ensures (flag_from _ c.from-in-Ok-pointed.ensures) refl

pub returns-in-Err-pointed : goal.returns-in-Err-pointed
returns-in-Err-pointed c =
    let a = c.args in
    let r = c.in-Err-pointed.refusal in
    rw c.from-in-Err-pointed.ensures (point_done a.table.now a.role a.head.now refl (λ e. c.in-Ok.ensures.head_read) (opened a.head.now c.may_point.ensures c.in-Ok.ensures.row_value)
    (lent a.statistics.now a.last_shingled_input.now a.last_shingled_point.now a.previous_timestamps.now a.initial_values.now a.initial_timestamps.now)
    a.input.now a.timestamp a.given.now a.output.now c.in-Err-pointed.ensures (kept _ _ _ (number_zero r)) refl (kept _ _ _ (number_zero r)))
