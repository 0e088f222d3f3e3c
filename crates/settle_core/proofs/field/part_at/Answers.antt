-- `settle_core::field::part_at` meets its contract. Assumes nothing.
use mathlib.Core.Path.{◌≡◌, ap, ◌∙◌}
use mathlib.Core.Option.{none, some}
use Prim.Native.Nat.{◌+◌}
use lib.ListN.{drop}
use mir.Syntax.{w128}
use mir.Val.{to_z, of_z}
use Rattle.std.proofs.Common.{rules}
use Rattle.bench_core.specs.Bench.{cell_length}
use Rattle.settle_core.specs.Input.{part}
use Rattle.settle_core.specs.Steps.{part_in}
use Rattle.settle_core.proofs.FieldLaws.{part_open, part_other, part_here}
use Rattle.settle_core.proofs.ScanLaws.{rest_is}
use Rattle.settle_core.proofs.field.part_at.Goals as goal
use Rattle.settle_core.proofs.field.part_at.Goals.{then-e-text-via-then-e-text, then-e-text-via-else-e-text+then-text-e}

pub returns-then-e-text-clause-text_value : goal.returns-then-e-text-clause-text_value
returns-then-e-text-clause-text_value c =
    let a = c.args in
    let n = c.cell_end in
    let e : n.result ≡ cell_length (drop a.at a.text.now) = n.ensures.value ∙ ap cell_length (rest_is a.text.now a.at) in
    elim c.then-e-text.branch [
      | then-e-text-via-then-e-text w ↦ part_open a.text.now a.at n.result a.end e c.requires w.if-e-text.true
      | then-e-text-via-else-e-text+then-text-e w ↦ part_other a.text.now a.at n.result a.end e c.requires w.if-e-text.false w.if-text-e.true
    ]

pub returns-in_err-value-clause-text_value : goal.returns-in_err-value-clause-text_value
returns-in_err-value-clause-text_value c =
    let a = c.args in
    let n = c.cell_end in
    let e : n.result ≡ cell_length (drop a.at a.text.now) = n.ensures.value ∙ ap cell_length (rest_is a.text.now a.at) in
    (λ j. part_in (c.from_residual.ensures j) a.text.now)
    ∙ part_here a.text.now a.at n.result a.end e c.requires c.if-e-text.false c.if-text-e.false none c.in_err-value.ensures

pub returns-clause-text_value : goal.returns-clause-text_value
returns-clause-text_value c =
    let a = c.args in
    let n = c.cell_end in
    let v = c.in_ok-value.value in
    let e : n.result ≡ cell_length (drop a.at a.text.now) = n.ensures.value ∙ ap cell_length (rest_is a.text.now a.at) in
    let z : to_z w128 (of_z w128 v) ≡ v = search rules in
    (λ j. part (z j) (drop (a.at + n.result + 1) a.text.now))
    ∙ part_here a.text.now a.at n.result a.end e c.requires c.if-e-text.false c.if-text-e.false (some v) c.in_ok-value.ensures
