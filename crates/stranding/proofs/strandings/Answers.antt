-- `stranding::strandings` meets its contract. Invariant: `Rows` after each call.
use mathlib.Core.Path.{◌≡◌, sym, ◌∙◌}
use native.Mathlib.Omega.{arith}
use Rattle.stranding.specs.Counts.{strandings_of}
use Rattle.stranding.proofs.Recurrence.{counts_from_table}
use Rattle.stranding.proofs.Rows.{in_range, few_orders, fresh, third, small, finish}
use Rattle.stranding.proofs.strandings.Goals as goal
use Rattle.stranding.proofs.strandings.Goals.{then-out_of_range-via-then-out_of_range, then-out_of_range-via-else-out_of_range+then-out_of_range-2}

pub returns-then-out_of_range : goal.returns-then-out_of_range
unfolding strandings_of
returns-then-out_of_range c =
    elim c.then-out_of_range.branch [
      | then-out_of_range-via-then-out_of_range w ↦ rw (sym c.out_of_range.ensures ∙ w.if-out_of_range.true)
      | then-out_of_range-via-else-out_of_range+then-out_of_range-2 w ↦
          rw (sym c.out_of_range.ensures ∙ w.if-out_of_range.false, sym w.out_of_range-else-out_of_range.ensures ∙ w.if-out_of_range-2.true)
    ]

pub loop-i-init : goal.loop-i-init
loop-i-init c =
    let s = in_range _ (sym c.out_of_range.ensures ∙ c.if-out_of_range.false) in
    let n = in_range _ (sym c.out_of_range-else-out_of_range.ensures ∙ c.if-out_of_range-2.false) in
    (s, n, fresh c.args.start s)

pub sweep-requires-clause-small : goal.sweep-requires-clause-small
sweep-requires-clause-small c =
    let L = c.loop-i in
    small _ L.invariant.0 L.i L.orders L.table L.invariant.2 (omega (arith, L.invariant))

pub overflow_mul-orders : goal.overflow_mul-orders
overflow_mul-orders c =
    let L = c.loop-i in
    let p = few_orders L.i (omega (arith, L.invariant)) in
    omega (arith, p, L.invariant.2.all)

pub loop-i-preserved : goal.loop-i-preserved
loop-i-preserved c =
    let L = c.loop-i in
    (L.invariant.0, L.invariant.1, finish _ L.invariant.0 L.i L.orders L.table L.invariant.2 c.sweep.new.table c.sweep.ensures)

pub overflow_mul-result : goal.overflow_mul-result
overflow_mul-result c =
    let L = c.loop-i in
    let p = few_orders L.i (omega (arith, L.invariant)) in
    let f = third c.args.start L.invariant.0 L.i L.orders L.table L.invariant.2 0 (omega arith) in
    omega (arith, p, f, L.invariant.2.all)

pub overflow_sub-result : goal.overflow_sub-result
overflow_sub-result c =
    let L = c.loop-i in
    let f = third c.args.start L.invariant.0 L.i L.orders L.table L.invariant.2 0 (omega arith) in
    omega (arith, f, L.invariant.2.all)

pub overflow_mul-result-2 : goal.overflow_mul-result-2
overflow_mul-result-2 c =
    let L = c.loop-i in
    let p = few_orders L.i (omega (arith, L.invariant)) in
    let f = third c.args.start L.invariant.0 L.i L.orders L.table L.invariant.2 0 (omega arith) in
    omega (arith, p, f, L.invariant.2.all)

pub returns : goal.returns
unfolding strandings_of
returns c =
    let L = c.loop-i in
    let a = c.args in
    let e : a.calls ≡ L.i = omega arith in
    rw (
      sym c.out_of_range.ensures ∙ c.if-out_of_range.false,
      sym c.out_of_range-else-out_of_range.ensures ∙ c.if-out_of_range-2.false,
      counts_from_table a.start a.calls,
      e,
      L.invariant.2.cell 0 (omega arith),
      L.invariant.2.all,
    )
