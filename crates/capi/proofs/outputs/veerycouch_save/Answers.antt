-- `capi::outputs::veerycouch_save` meets its contract: by the promises of the words and of the call. Assumes nothing.
use mathlib.Core.Path.{refl}
use Rattle.trcf.specs.View.{lent}
use Rattle.trcf.proofs.NumberLaws.{number_zero}
use Rattle.capi.proofs.CallLaws.{kept, opened, refused_row, not_zero, save_refused, save_done}
use Rattle.capi.proofs.outputs.veerycouch_save.Goals as goal

pub returns-in-Err : goal.returns-in-Err
returns-in-Err c =
    let a = c.args in
    save_refused a.table.now a.role a.head.now (refused_row c.in-Err.refusal a.head.now c.from.ensures c.may.ensures c.in-Err.ensures.row_value)
    (lent a.statistics.now a.last_shingled_input.now a.last_shingled_point.now a.previous_timestamps.now a.initial_values.now a.initial_timestamps.now)
    a.length.now a.output.now (not_zero c.in-Err.refusal c.from.ensures)

pub returns-in-Ok-saved : goal.returns-in-Ok-saved
returns-in-Ok-saved c =
    let a = c.args in
    save_done a.table.now a.role a.head.now refl (λ e. c.in-Ok.ensures.head_read) (opened a.head.now c.may.ensures c.in-Ok.ensures.row_value)
    (lent a.statistics.now a.last_shingled_input.now a.last_shingled_point.now a.previous_timestamps.now a.initial_values.now a.initial_timestamps.now)
    a.length.now a.output.now c.in-Ok-saved.ensures refl

pub returns-in-Err-saved : goal.returns-in-Err-saved
returns-in-Err-saved c =
    let a = c.args in
    let r = c.in-Err-saved.refusal in
    rw c.from-in-Err-saved.ensures (save_done a.table.now a.role a.head.now refl (λ e. c.in-Ok.ensures.head_read) (opened a.head.now c.may.ensures c.in-Ok.ensures.row_value)
    (lent a.statistics.now a.last_shingled_input.now a.last_shingled_point.now a.previous_timestamps.now a.initial_values.now a.initial_timestamps.now)
    a.length.now a.output.now c.in-Err-saved.ensures (kept _ _ _ (number_zero r)))
