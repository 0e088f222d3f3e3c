-- `capi::calls::veerycouch_drain` meets its contract: by the promises of the words and of the call. Assumes nothing.
use mathlib.Core.Path.{refl}
use Rattle.trcf.specs.View.{lent}
use Rattle.trcf.proofs.NumberLaws.{number_zero}
use Rattle.capi.proofs.CallLaws.{kept, opened, refused_row, not_zero, drain_refused, drain_done}
use Rattle.capi.proofs.calls.veerycouch_drain.Goals as goal

pub returns-in-Err : goal.returns-in-Err
returns-in-Err c =
    let a = c.args in
    drain_refused a.table.now a.role a.head.now (refused_row c.in-Err.refusal a.head.now c.from.ensures c.may.ensures c.in-Err.ensures.row_value)
    (lent a.statistics.now a.last_shingled_input.now a.last_shingled_point.now a.previous_timestamps.now a.initial_values.now a.initial_timestamps.now)
    (not_zero c.in-Err.refusal c.from.ensures)

pub write_counts-requires : goal.write_counts-requires
write_counts-requires c = c.in-Ok.ensures.head_read.whole

pub returns-in-Ok-drained : goal.returns-in-Ok-drained
returns-in-Ok-drained c =
    let a = c.args in
    drain_done a.table.now a.role a.head.now refl (λ e. c.in-Ok.ensures.head_read) (opened a.head.now c.may.ensures c.in-Ok.ensures.row_value)
    (lent a.statistics.now a.last_shingled_input.now a.last_shingled_point.now a.previous_timestamps.now a.initial_values.now a.initial_timestamps.now)
    c.in-Ok-drained.ensures c.write_counts.ensures

pub returns-in-Err-drained : goal.returns-in-Err-drained
returns-in-Err-drained c =
    let a = c.args in
    let r = c.in-Err-drained.refusal in
    rw c.from-in-Err-drained.ensures (drain_done a.table.now a.role a.head.now refl (λ e. c.in-Ok.ensures.head_read) (opened a.head.now c.may.ensures c.in-Ok.ensures.row_value)
    (lent a.statistics.now a.last_shingled_input.now a.last_shingled_point.now a.previous_timestamps.now a.initial_values.now a.initial_timestamps.now)
    c.in-Err-drained.ensures (kept _ _ _ (number_zero r)))
