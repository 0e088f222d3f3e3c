-- `capi::getters::veerycouch_numbers` meets its contract: by the promises of the words and of the getters. Assumes nothing.
use mathlib.Core.Path.{refl}
use Rattle.capi.proofs.CallLaws.{opened, refused_row, not_zero, numbers_refused, numbers_done, numbers_shut}
use Rattle.capi.proofs.getters.veerycouch_numbers.Goals as goal

pub returns-in-Err : goal.returns-in-Err
returns-in-Err c =
    let a = c.args in
    numbers_refused a.table.now a.role a.head.now
    (refused_row c.in-Err.refusal a.head.now c.from.ensures c.may.ensures c.in-Err.ensures.row_value) a.output.now (not_zero c.in-Err.refusal c.from.ensures)

pub returns-in-Ok-numbers : goal.returns-in-Ok-numbers
returns-in-Ok-numbers c =
    let a = c.args in
    rw c.row_of.ensures (numbers_done a.table.now a.role a.head.now refl (λ e. c.in-Ok.ensures.head_read) (opened a.head.now c.may.ensures c.in-Ok.ensures.row_value) a.output.now
    c.in-Ok-numbers.ensures c.tell_numbers.ensures)

pub returns-in-Err-numbers : goal.returns-in-Err-numbers
returns-in-Err-numbers c =
    let a = c.args in
    absurd (numbers_shut a.table.now a.role a.head.now refl (λ e. c.in-Ok.ensures.head_read) (opened a.head.now c.may.ensures c.in-Ok.ensures.row_value) c.in-Err-numbers.ensures)
