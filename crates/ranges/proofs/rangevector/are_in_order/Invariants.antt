-- What holds in the loop of `ranges::rangevector::are_in_order`.
use mathlib.Core.Path.{◌≡◌}
use lib.ListN.{drop}
use Rattle.ranges.specs.RangeVector.{in_order_by}
use Rattle.ranges.proofs.rangevector.are_in_order.Given as goal

abbrev pub invariant-loop-i : goal.invariant-loop-i
invariant-loop-i g l =
    in_order_by g.T.Width.operations.at_most l.values l.upper l.lower
    ≡ in_order_by g.T.Width.operations.at_most (drop l.i l.values) (drop l.i l.upper) (drop l.i l.lower)
