-- `capi::head::closed_row` meets its contract: each row by its law. Assumes nothing.
use mathlib.Core.Path.{refl, ◌∙◌}
use borrow.Author.Tests.{not-false}
use Rattle.refusal.proofs.RefusalLaws.{handed_on}
use Rattle.trcf.proofs.NumberLaws.{number_zero}
use Rattle.capi.proofs.HeadLaws.{form_few, form_kind, form_codes}
use Rattle.capi.proofs.NumberLaws.{form_asked}
use Rattle.capi.proofs.head.closed_row.Goals as goal

pub returns-then-words-lt-HEAD_WORDS : goal.returns-then-words-lt-HEAD_WORDS
returns-then-words-lt-HEAD_WORDS c =
    let a = c.args in
    form_asked a.words.now a.allowed (not-false a.allowed (cc)) (form_few a.words.now c.if-words-lt-HEAD_WORDS.true)

pub returns-in_err-kind_row : goal.returns-in_err-kind_row
returns-in_err-kind_row c =
    let a = c.args in
    let e = c.in_err-kind_row.field-0.0 in
    let f = form_kind a.words.now _ c.if-words-lt-HEAD_WORDS.false c.in_err-kind_row.ensures (number_zero e) in
    handed_on e c.from_residual.result c.from_residual.ensures.1 ∙ form_asked a.words.now a.allowed (not-false a.allowed (cc)) f

pub returns : goal.returns
returns c =
    let a = c.args in
    let k = c.in_ok-kind_row in
    let f = form_codes a.words.now 0 c.if-words-lt-HEAD_WORDS.false k.ensures refl _ c.codes_row.ensures in
    form_asked a.words.now a.allowed (not-false a.allowed (cc)) f
