-- `capi::outputs::veerycouch_difference_deviations` meets its contract: by the promises of the words and of the call. Assumes nothing.
use mathlib.Core.Path.{refl}
use Rattle.trcf.specs.View.{lent}
use Rattle.trcf.specs.Calls.{status}
use Rattle.trcf.specs.Preprocessor.{deviations}
use Rattle.capi.proofs.CallLaws.{opened, refused_row, not_zero, write_refused, write_done}
use Rattle.capi.proofs.outputs.veerycouch_difference_deviations.Goals as goal

pub returns-in-Err : goal.returns-in-Err
returns-in-Err c =
    let a = c.args in
    write_refused a.table.now a.role a.head.now
    (lent a.statistics.now a.last_shingled_input.now a.last_shingled_point.now a.previous_timestamps.now a.initial_values.now a.initial_timestamps.now)
    (status a.output.now) deviations a.output.now
    (refused_row c.in-Err.refusal a.head.now c.from.ensures c.may.ensures c.in-Err.ensures.row_value) (not_zero c.in-Err.refusal c.from.ensures)

pub returns : goal.returns
returns c =
    let a = c.args in
    rw c.row_of.ensures (write_done a.table.now a.role a.head.now refl (λ e. c.in-Ok.ensures.head_read)
    (lent a.statistics.now a.last_shingled_input.now a.last_shingled_point.now a.previous_timestamps.now a.initial_values.now a.initial_timestamps.now)
    (status a.output.now) deviations a.output.now
    (opened a.head.now c.may.ensures c.in-Ok.ensures.row_value) c.difference_deviations.ensures)
