-- `rangevector::are_in_order` meets its contract. Before the turn at i what is left decides. Assumes nothing.
use mathlib.Core.Path.{◌≡◌, sym, ◌∙◌}
use mathlib.Core.Bool.{Bool, true, false, ◌&&◌}
use borrow.Author.Tests.{not-true, not-false}
use Rattle.ranges.specs.declared.rangevector.Range.{Range as RangeOf}
use Rattle.ranges.proofs.RangeSteps.{in_order_at, in_order_end}
use Rattle.ranges.proofs.rangevector.are_in_order.Goals as goal

-- what holds of the range that was read holds of what stands there
told : {A : Type 0} (at_most : A → A → Bool) {r s : RangeOf A} {b : Bool} → r ≡ s
    → at_most r.value r.upper && at_most r.lower r.value ≡ b → at_most s.value s.upper && at_most s.lower s.value ≡ b
told at_most e h = rw e at h

pub returns-then-not-is_ordered : goal.returns-then-not-is_ordered
returns-then-not-is_ordered g c =
    let a = c.args in
    sym (c.loop-i.invariant
    ∙ in_order_at g.T.Width.operations.at_most g.T.Width.operations.missing a.values.now a.upper.now a.lower.now c.loop-i.i false c.loop-i-test.true
    c.requires.0 c.requires.1 (told g.T.Width.operations.at_most c.at.ensures (sym c.is_ordered.ensures ∙ not-true _ c.if-not-is_ordered.true-raw)))

pub loop-i-preserved : goal.loop-i-preserved
loop-i-preserved g c =
    let a = c.args in
    c.loop-i.invariant
    ∙ in_order_at g.T.Width.operations.at_most g.T.Width.operations.missing a.values.now a.upper.now a.lower.now c.loop-i.i true c.loop-i-test.true
    c.requires.0 c.requires.1 (told g.T.Width.operations.at_most c.at.ensures (sym c.is_ordered.ensures ∙ not-false _ c.if-not-is_ordered.false-raw))

pub returns : goal.returns
returns g c =
    let a = c.args in
    sym (c.loop-i.invariant ∙ in_order_end g.T.Width.operations.at_most a.values.now a.upper.now a.lower.now c.loop-i.i c.loop-i-test.false)
