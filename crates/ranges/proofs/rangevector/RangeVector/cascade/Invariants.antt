-- What holds in the loop of `ranges::rangevector::RangeVector::cascade`.
use mathlib.Core.Path.{◌≡◌}
use Rattle.ranges.specs.RangeVector.{held, cascade_by, AreSameLoans}
use Rattle.ranges.proofs.rangevector.RangeVector.cascade.Given as goal

abbrev pub invariant-loop-i : goal.invariant-loop-i
invariant-loop-i g l =
    (held l.self ≡ cascade_by g.T.Width.operations l.base l.i (held l.initial.self)) × AreSameLoans l.initial.self l.self
