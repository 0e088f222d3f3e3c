-- `rangevector::RangeVector::check_create` meets its contract. The rows in their order. Assumes nothing.
use mathlib.Core.Path.{sym, ◌∙◌}
use borrow.Author.Tests.{not-true, not-false}
use Rattle.ranges.specs.RangeVector.{unequal}
use Rattle.ranges.proofs.rangevector.RangeVector.check_create.Goals as goal

pub returns-then-are_unequal-clause-value : goal.returns-then-are_unequal-clause-value
unfolding unequal
returns-then-are_unequal-clause-value g c = rw (sym c.are_unequal.ensures ∙ c.if-are_unequal.true)

pub returns-then-not-are_in_order-clause-value : goal.returns-then-not-are_in_order-clause-value
unfolding unequal
returns-then-not-are_in_order-clause-value g c =
    rw (sym c.are_unequal.ensures ∙ c.if-are_unequal.false, sym c.are_in_order.ensures ∙ not-true _ c.if-not-are_in_order.true-raw)

pub returns-clause-value : goal.returns-clause-value
unfolding unequal
returns-clause-value g c =
    rw (sym c.are_unequal.ensures ∙ c.if-are_unequal.false, sym c.are_in_order.ensures ∙ not-false _ c.if-not-are_in_order.false-raw) c.check_room.ensures.value
