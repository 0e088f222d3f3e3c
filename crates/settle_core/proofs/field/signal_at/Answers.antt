-- `settle_core::field::signal_at` meets its contract. Assumes nothing.
use mathlib.Core.Path.{sym, ap, ◌∙◌}
use native.Mathlib.Omega.{arith}
use lib.ListN.{drop, length-drop}
use borrow.Author.Tests.{not-true, not-false}
use Rattle.settle_core.specs.Input.{is_signal}
use Rattle.settle_core.proofs.FieldLaws.{not_signal, named_signal, signal_long}
use Rattle.settle_core.proofs.ScanLaws.{rest_is}
use Rattle.settle_core.proofs.field.signal_at.Goals as goal

pub returns-then-not-is_signal : goal.returns-then-not-is_signal
returns-then-not-is_signal c =
    let a = c.args in
    let s = c.is_signal in
    not_signal (drop a.at a.text.now) (sym (s.ensures ∙ ap is_signal (rest_is a.text.now a.at)) ∙ not-true s.result (cc))

pub overflow_add-at : goal.overflow_add-at
overflow_add-at c =
    let a = c.args in
    let s = c.is_signal in
    let l = signal_long (drop a.at a.text.now) (sym (s.ensures ∙ ap is_signal (rest_is a.text.now a.at)) ∙ not-false s.result (cc)) in
    omega (arith, l, length-drop a.at a.text.now, c.requires)

pub fields_at-requires : goal.fields_at-requires
fields_at-requires c =
    let a = c.args in
    let s = c.is_signal in
    let l = signal_long (drop a.at a.text.now) (sym (s.ensures ∙ ap is_signal (rest_is a.text.now a.at)) ∙ not-false s.result (cc)) in
    omega (arith, l, length-drop a.at a.text.now, c.requires)

pub returns : goal.returns
returns c =
    let a = c.args in
    let s = c.is_signal in
    c.fields_at.ensures ∙ named_signal a.text.now a.at (sym (s.ensures ∙ ap is_signal (rest_is a.text.now a.at)) ∙ not-false s.result (cc))
