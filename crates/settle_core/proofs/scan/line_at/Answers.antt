-- `settle_core::scan::line_at` meets its contract. Assumes nothing.
use mathlib.Core.Path.{◌≡◌, sym, ap, ◌∙◌}
use native.Mathlib.Omega.{arith}
use lib.ListN.{drop, length-drop}
use Rattle.bench_core.specs.Bench.{cell_length}
use Rattle.settle_core.specs.Input.{Scanned}
use Rattle.settle_core.proofs.ScanLaws.{rest_is, line_starts, at_open, at_end, at_tab, ends_there}
use Rattle.settle_core.proofs.scan.line_at.Goals as goal

pub loop-at-init : goal.loop-at-init
loop-at-init c =
    let a = c.args in
    (c.requires, line_starts (drop a.from a.text.now) _ c.blank-line.ensures)

pub overflow_add-end : goal.overflow_add-end
overflow_add-end c =
    let a = c.args in
    let l = c.loop-at in
    let n = c.cell_end in
    let t = a.text.now in
    let e : n.result ≡ cell_length (drop l.at t) = n.ensures.value ∙ ap cell_length (rest_is t l.at) in
    omega (arith, n.ensures.upper_bound, n.ensures.text_len_bound, length-drop l.at t, l.invariant.0)

pub returns-then-end-text : goal.returns-then-end-text
returns-then-end-text c =
    let a = c.args in
    let l = c.loop-at in
    let n = c.cell_end in
    let t = a.text.now in
    let e : n.result ≡ cell_length (drop l.at t) = n.ensures.value ∙ ap cell_length (rest_is t l.at) in
    record {
      text_value = ap (λ (x : Scanned). x.ended) (l.invariant.1 ∙ sym (at_open t l.at n.result l.line e l.invariant.0 c.if-end-text.true));
      next_in_bounds = tt;
    }

pub slice_bounds-cell-count : goal.slice_bounds-cell-count
slice_bounds-cell-count c =
    let a = c.args in
    let l = c.loop-at in
    let n = c.cell_end in
    let t = a.text.now in
    let e : n.result ≡ cell_length (drop l.at t) = n.ensures.value ∙ ap cell_length (rest_is t l.at) in
    omega (arith, n.ensures.upper_bound, length-drop l.at t, l.invariant.0)

pub slice_bounds-cell-start : goal.slice_bounds-cell-start
slice_bounds-cell-start c =
    let a = c.args in
    let l = c.loop-at in
    let n = c.cell_end in
    let t = a.text.now in
    let e : n.result ≡ cell_length (drop l.at t) = n.ensures.value ∙ ap cell_length (rest_is t l.at) in
    omega (arith, n.ensures.upper_bound, length-drop l.at t, l.invariant.0)

pub slice_bounds-cell-end : goal.slice_bounds-cell-end
slice_bounds-cell-end c =
    let a = c.args in
    let l = c.loop-at in
    let n = c.cell_end in
    let t = a.text.now in
    let e : n.result ≡ cell_length (drop l.at t) = n.ensures.value ∙ ap cell_length (rest_is t l.at) in
    omega (arith, n.ensures.upper_bound, length-drop l.at t, l.invariant.0)

pub overflow_add-at : goal.overflow_add-at
overflow_add-at c =
    let a = c.args in
    let l = c.loop-at in
    let n = c.cell_end in
    let t = a.text.now in
    let e : n.result ≡ cell_length (drop l.at t) = n.ensures.value ∙ ap cell_length (rest_is t l.at) in
    omega (arith, n.ensures.upper_bound, length-drop l.at t, l.invariant.0, c.if-end-text.false)

pub bounds-text-end : goal.bounds-text-end
bounds-text-end c =
    let a = c.args in
    let l = c.loop-at in
    let n = c.cell_end in
    let t = a.text.now in
    let e : n.result ≡ cell_length (drop l.at t) = n.ensures.value ∙ ap cell_length (rest_is t l.at) in
    omega (arith, n.ensures.upper_bound, length-drop l.at t, l.invariant.0, c.if-end-text.false)

pub returns-then-text-end-ne9 : goal.returns-then-text-end-ne9
returns-then-text-end-ne9 c =
    let at-if1 = c.if-end-text in
    let a = c.args in
    let l = c.loop-at in
    let n = c.cell_end in
    let t = a.text.now in
    let e : n.result ≡ cell_length (drop l.at t) = n.ensures.value ∙ ap cell_length (rest_is t l.at) in record {
      text_value = at_end t l.at n.result l.line e l.invariant.0 at-if1.false _ c.cell-line.ensures c.if-text-end-ne9.true ∙ sym l.invariant.1;
      next_in_bounds = omega
          (arith, n.ensures.upper_bound, length-drop l.at t, l.invariant.0, at-if1.false);
    }

pub loop-at-smaller : goal.loop-at-smaller
loop-at-smaller c =
    let a = c.args in
    let l = c.loop-at in
    let n = c.cell_end in
    let t = a.text.now in
    let e : n.result ≡ cell_length (drop l.at t) = n.ensures.value ∙ ap cell_length (rest_is t l.at) in
    omega (arith, n.ensures.upper_bound, length-drop l.at t, l.invariant.0, c.if-end-text.false)

pub loop-at-preserved : goal.loop-at-preserved
loop-at-preserved c =
    let at-if1 = c.if-end-text in
    let a = c.args in
    let l = c.loop-at in
    let n = c.cell_end in
    let t = a.text.now in
    let e : n.result ≡ cell_length (drop l.at t) = n.ensures.value ∙ ap cell_length (rest_is t l.at) in (
      omega (arith, n.ensures.upper_bound, length-drop l.at t, l.invariant.0, at-if1.false),
      l.invariant.1 ∙ sym
          (at_tab t l.at n.result l.line e l.invariant.0 at-if1.false _ c.cell-line.ensures c.if-text-end-ne9.false),
    )

pub returns : goal.returns
returns c =
    let l = c.loop-at in
    record { text_value = ap (λ (x : Scanned). x.ended) (l.invariant.1 ∙ sym (ends_there c.args.text.now l.at l.line c.loop-at-test.false)); next_in_bounds = tt }
