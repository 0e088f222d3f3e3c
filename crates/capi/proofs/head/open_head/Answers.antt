-- `capi::head::open_head` meets its contract: the row before a head is made, or that of the head. Assumes nothing.
use mathlib.Core.Path.{refl, ◌∙◌}
use Rattle.refusal.proofs.RefusalLaws.{handed_on}
use Rattle.trcf.proofs.NumberLaws.{number_zero}
use Rattle.capi.proofs.HeadLaws.{formed, row_outside}
use Rattle.capi.proofs.NumberLaws.{open_closed, open_formed, open_read}
use Rattle.capi.proofs.head.open_head.Goals as goal

pub returns-in_err-closed_row-clause-row_value : goal.returns-in_err-closed_row-clause-row_value
returns-in_err-closed_row-clause-row_value c =
    let a = c.args in
    let e = c.in_err-closed_row.field-0.0 in
    handed_on e c.from_residual.result c.from_residual.ensures.1
    ∙ open_closed a.words.now a.allowed _ c.in_err-closed_row.ensures (number_zero e)

pub head_of-head-requires-clause-in_bounds : goal.head_of-head-requires-clause-in_bounds
head_of-head-requires-clause-in_bounds c =
    let a = c.args in
    (formed a.words.now (open_formed a.words.now a.allowed 0 c.in_ok-closed_row.ensures refl).1).0

pub head_of-head-requires-clause-words_value : goal.head_of-head-requires-clause-words_value
head_of-head-requires-clause-words_value c =
    let a = c.args in
    (formed a.words.now (open_formed a.words.now a.allowed 0 c.in_ok-closed_row.ensures refl).1).1

pub returns-in_err-outside_row-clause-row_value : goal.returns-in_err-outside_row-clause-row_value
returns-in_err-outside_row-clause-row_value c =
    let a = c.args in
    let w = a.words.now in
    let o = open_formed w a.allowed 0 c.in_ok-closed_row.ensures refl in
    let e = c.in_err-outside_row.field-0.0 in
    let r = row_outside w o.1 c.head_of-head.ensures c.in_err-outside_row.ensures in
    handed_on e c.from_residual-in_err-outside_row.result c.from_residual-in_err-outside_row.ensures.1 ∙ open_read w a.allowed o.0 r

pub returns-clause-row_value : goal.returns-clause-row_value
returns-clause-row_value c =
    let a = c.args in
    let w = a.words.now in
    let o = open_formed w a.allowed 0 c.in_ok-closed_row.ensures refl in
    open_read w a.allowed o.0 (row_outside w o.1 c.head_of-head.ensures c.in_ok-outside_row.ensures)

pub returns-clause-head_read : goal.returns-clause-head_read
returns-clause-head_read c =
    let a = c.args in
    let w = a.words.now in
    let o = open_formed w a.allowed 0 c.in_ok-closed_row.ensures refl in
    record { whole = (formed w o.1).0; is = c.head_of-head.ensures }
